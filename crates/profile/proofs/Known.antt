-- The line that a table holds at a node, and the nodes that an automaton's edges test.
use Prim.Native.Nat.{ℕ, ◌≤◌, ◌<◌}
use native.Mathlib.Omega.{arith}
use mathlib.Core.Path.{◌≡◌, ap}
use mathlib.Core.Bool.{false}
use Rattle.aldlf.specs.Sheet.{line_of, sheet_of}
use Rattle.aldlf.specs.Stands.{EdgeOf}
use Rattle.aldlf.specs.declared.NodeLine.{NodeLine}
use Rattle.aldlf.specs.declared.Table.{Table}
use Rattle.sheet.proofs.Grown.{node, auto, Grown}
use Rattle.profile.specs.Profile.{line}

-- the line that a table holds at node k
pub line_is : (t : Table) (k c a b : ℕ) → node t k ≡ line c a b → (sheet_of t).line k ≡ line_of c a b
unfolding sheet_of
line_is t k c a b e = ap (λ (x : NodeLine). line_of x.kind x.a x.b) e

-- a line that is repeated is the same line
pub line_copied : (t : Table) (k j : ℕ) → node t k ≡ node t j → (sheet_of t).line k ≡ (sheet_of t).line j
unfolding sheet_of
line_copied t k j e = ap (λ (x : NodeLine). line_of x.kind x.a x.b) e

-- an automaton's edges test only nodes above it
pub tests_known : (t : Table) (g : Grown t false) (k m : ℕ) → m < t.used.automata → (auto t m).before ≤ k → (e : ℕ) → EdgeOf (sheet_of t) m e → ((sheet_of t).edge e).test < k
unfolding sheet_of
tests_known t g k m l b e z = let w = (g.edges m l e z.0 z.1).test< in omega arith

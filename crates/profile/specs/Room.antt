-- For the code's own contracts: a lent table that has room for its profile, and a line whose nodes can be doubled.
use Rattle.std.specs.Prelude.{ℕ, ◌+◌, ◌*◌, ◌≤◌, ◌<◌, ◌≡◌, true, ◌⊎◌, List}
use Rattle.aldlf.specs.Constants.{node_limit, letter_n, letter_a, letter_o, letter_d, letter_b}
use Rattle.aldlf.specs.declared.NodeLine.{NodeLine}
use Rattle.aldlf.specs.declared.Table.{Table}
use Rattle.packing.specs.Packed.{Packed}
use Rattle.sheet.specs.Given.{well_formed}

-- A table that some sheet gives is lent as these numbers, and its profile has no more nodes than the sheet limit.
pub record ProfileRoom (t : Table) (numbers : List ℕ) : Type 0 where
  pub packed : Packed t numbers
  pub given : well_formed t ≡ true
  pub room : 2 * t.used.nodes + 1 ≤ node_limit

-- Each node that the line names has room for its two new lines.
pub record NamesRoom (x : NodeLine) : Type 0 where
  pub not< : x.kind ≡ letter_n → 2 * x.a + 1 < node_limit
  pub both< : (x.kind ≡ letter_a) ⊎ (x.kind ≡ letter_o) → (2 * x.a + 1 < node_limit) × (2 * x.b + 1 < node_limit)
  pub modal< : (x.kind ≡ letter_b) ⊎ (x.kind ≡ letter_d) → 2 * x.b + 1 < node_limit

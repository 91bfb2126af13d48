-- What the numbers of a given table have at the places in use: the table's own lines and automata, within the limits.
use Prim.Native.Nat.{ℕ, ◌<◌}
use native.Mathlib.Omega.{arith}
use mathlib.Core.Path.{◌≡◌, ap, subst}
use mathlib.Core.List.{List}
use Rattle.aldlf.specs.Constants.{node_limit, automaton_limit}
use Rattle.aldlf.specs.declared.Table.{Table}
use Rattle.aldlf.specs.declared.Used.{Used}
use Rattle.packing.specs.Numbers.{lent_line, lent_automaton, lent_used}
use Rattle.sheet.specs.Facts.{node_at, automaton_at, Lent}

module _ (t : Table) (numbers : List ℕ) (L : Lent t numbers) where
  pub nodes_lent : (lent_used numbers).nodes ≡ t.used.nodes
  nodes_lent = ap (λ (u : Used). u.nodes) L.packed.used_is

  -- Node k
  module _ (k : ℕ) (l : k < (lent_used numbers).nodes) where
    pub node_used : k < t.used.nodes
    node_used = subst (λ (u : Used). k < u.nodes) L.packed.used_is l

    pub node_few : k < node_limit
    node_few = omega (arith, node_used, L.facts.nodes≤)

    pub line_lent : lent_line numbers k ≡ node_at t k
    line_lent = L.packed.line_is k node_few

  -- Automaton m
  module _ (m : ℕ) (l : m < (lent_used numbers).automata) where
    pub automaton_used : m < t.used.automata
    automaton_used = subst (λ (u : Used). m < u.automata) L.packed.used_is l

    pub automaton_few : m < automaton_limit
    automaton_few = omega (arith, automaton_used, L.facts.automata≤)

    pub automaton_lent : lent_automaton numbers m ≡ automaton_at t m
    automaton_lent = L.packed.automaton_is m automaton_few

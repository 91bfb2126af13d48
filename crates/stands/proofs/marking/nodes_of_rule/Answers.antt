-- `nodes_of_rule` meets its contract: the rule is marked, then all that is named. Assumes nothing.
use Prim.Native.Nat.{ℕ, ◌-◌, ◌≤◌}
use native.Mathlib.Omega.{arith}
use mathlib.Core.Path.{refl, ap, ◌∙◌}
use mathlib.Core.Bool.{true, false}
use lib.ListN.{set, replicate, length-set}
use Rattle.aldlf.specs.Constants.{node_limit, automaton_limit}
use Rattle.aldlf.specs.Sheet.{sheet_of}
use Rattle.aldlf.specs.Stands.{stands_from, stands_of}
use Rattle.aldlf.specs.declared.Used.{Used}
use Rattle.aldlf.proofs.Stands.{no_flag}
use Rattle.stands.proofs.marking.nodes_of_rule.Goals as goal
use Rattle.stands.proofs.marking.nodes_of_rule.Goals.{After-used_in}

-- how many nodes are in use
count : (c : After-used_in) → (1 ≤ c.used_in.result.nodes) × (c.used_in.result.nodes ≤ node_limit)
count c =
    let L = c.requires.1 in
    let is = ap (λ (u : Used). u.nodes) (c.used_in.ensures ∙ L.packed.used_is) in
    (omega (arith, L.facts.some_node), omega (arith, L.facts.nodes≤))

pub used_in-requires : goal.used_in-requires
used_in-requires c = c.requires.1.packed.size

pub overflow_sub-last : goal.overflow_sub-last
overflow_sub-last c = omega (arith, (count (goal.at.overflow_sub-last c).After-used_in).0)

pub bounds-flags-last : goal.bounds-flags-last
bounds-flags-last c = omega (arith, count (goal.at.bounds-flags-last c).After-used_in)

pub mark_all-requires : goal.mark_all-requires
mark_all-requires c =
    record { lent = c.requires; flags_len = (simp length-set, refl); taken = λ t L m o x z. absurd (no_flag automaton_limit m o) }

pub returns : goal.returns
unfolding sheet_of stands_of
returns c =
    λ t L.
    c.mark_all.ensures t L
    ∙ ap (λ (n : ℕ). stands_from (sheet_of t) t.used.nodes (set (replicate node_limit false) (n - 1) true)) (ap (λ (u : Used). u.nodes) (c.used_in.ensures ∙ L.packed.used_is))

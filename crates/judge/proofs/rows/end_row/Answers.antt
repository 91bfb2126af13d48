-- `end_row` meets its contract: the numbers passed are those of the plain row. Assumes nothing.
use Rattle.std.specs.Prelude.{◌≡◌, ℕ, ◌+◌, ◌<◌, ◌&&◌, true, eqb, List, length}
use Rattle.aldlf.proofs.Bools.{or_right}
use Rattle.aldlf.specs.Constants.{automaton_limit, letter_b, letter_d, node_limit, state_limit}
use Rattle.aldlf.specs.Outcomes.{pack_bits}
use Rattle.aldlf.specs.Parts.{counts}
use Rattle.aldlf.specs.Sheet.{sheet_of}
use Rattle.aldlf.specs.Verdict.{plain}
use Rattle.aldlf.specs.declared.Automaton.{Automaton}
use Rattle.aldlf.specs.declared.NodeLine.{NodeLine}
use Rattle.aldlf.specs.declared.Table.{Table}
use Rattle.aldlf.specs.declared.Used.{Used}
use Rattle.judge.proofs.Adds.{filled_end, filled_next, filled_same, filled_start}
use Rattle.judge.proofs.GivenLaws.{automaton_facts, in_sheet, line_there, modal_facts, none_after, plain_b, plain_other}
use Rattle.judge.specs.Nodes.{modal_kind, Filled}
use Rattle.sheet.specs.Facts.{Lent, automaton_at, node_at}
use Rattle.packing.specs.Numbers.{lent_automaton}
use borrow.Author.Tests.{eq-eqb}
use lib.ListN.{length-set}
use mathlib.Core.Path.{◌∙◌, ap, refl, subst, sym}
use native.Mathlib.Omega.{arith}
use Rattle.judge.proofs.rows.end_row.Goals as goal
use Rattle.judge.proofs.rows.end_row.Goals.{After-line_at-line, In-loop-k, then-line-eq66, else-line-eq66}

-- the plain row's numbers
abbrev plain_at : Table → ℕ → ℕ
plain_at t k = pack_bits state_limit (λ s. counts (sheet_of t) ((sheet_of t).line k) s && plain (sheet_of t) k s)

-- the place read is on the sheet
k_in : (c : In-loop-k) → c.loop-k.k < node_limit
k_in c = let L = c.requires.1 in omega (arith, in_sheet _ _ c.loop-k.k _ L c.loop-k-test.true (ap (λ (u : Used). u.nodes) c.used_in-count.ensures), L.facts.nodes≤)

-- and its line is the table's
line_is : (c : After-line_at-line) (t : Table) → Lent t c.args.numbers.now → c.line_at-line.result ≡ node_at t c.loop-k.k
line_is c t L = c.line_at-line.ensures ∙ line_there t _ _ _ L c.loop-k-test.true (ap (λ (u : Used). u.nodes) c.used_in-count.ensures)

-- a B names an automaton of the table
module _ (t : Table) (xs : List ℕ) (L : Lent t xs) (k : ℕ) (l : NodeLine) (is : l ≡ node_at t k) (b : l.kind ≡ letter_b) where
  kind_is : modal_kind (node_at t k).kind ≡ true
  kind_is = or_right (eqb (node_at t k).kind letter_d) (eq-eqb (node_at t k).kind letter_b (sym (ap (λ (x : NodeLine). x.kind) is) ∙ b))

  named : l.a < automaton_limit
  named = omega (arith, ap (λ (x : NodeLine). x.a) is, (modal_facts t L.facts k kind_is).automaton<, L.facts.automata≤)

  theirs : (q : Automaton) → q ≡ lent_automaton xs l.a → q ≡ automaton_at t (node_at t k).a
  theirs q e = e ∙ L.packed.automaton_is l.a named ∙ ap (λ (x : NodeLine). automaton_at t x.a) is

pub automaton_at-automaton-requires : goal.automaton_at-automaton-requires
automaton_at-automaton-requires c =
    (c.requires.1.packed.size, named c.requires.0 _ c.requires.1 _ _ (line_is (goal.at.automaton_at-automaton-requires c).After-line_at-line _ c.requires.1) c.if-line-eq66.true)

pub low_bits-requires : goal.low_bits-requires
low_bits-requires c =
    let t = c.requires.0 in
    let L = c.requires.1 in
    let is = line_is (goal.at.low_bits-requires c).After-line_at-line t L in
    let b = c.if-line-eq66.true in
    omega (arith, ap (λ (x : Automaton). x.states) (theirs t _ L _ _ is b _ c.automaton_at-automaton.ensures), (automaton_facts t L.facts c.loop-k.k (kind_is t _ L _ _ is b)).states≤)

pub loop-k-init : goal.loop-k-init
loop-k-init c = (refl, λ t L. filled_start _)

pub loop-k-preserved : goal.loop-k-preserved
loop-k-preserved c =
    let l = c.loop-k in
    elim c.if-line-eq66.branch [
      | then-line-eq66 w ↦ (
        ap length w.out-is ∙ length-set l.out l.k w.low_bits.result ∙ l.invariant.0,
        λ t L.
            let is = line_is (goal.at.loop-k-preserved c).After-line_at-line t L in
            let b = w.if-line-eq66.true in
            subst (λ (z : List ℕ). Filled (plain_at t) z (l.k + 1)) (sym w.out-is)
            (filled_next _ l.out l.k w.low_bits.result (k_in (goal.at.loop-k-preserved c).In-loop-k) (l.invariant.1 t L)
            (w.low_bits.ensures ∙ plain_b t L.facts l.k _ (sym (ap (λ (x : NodeLine). x.kind) is) ∙ b) (theirs t _ L _ _ is b _ w.automaton_at-automaton.ensures))),
      )
      | else-line-eq66 w ↦ (
        ap length w.out-is ∙ l.invariant.0,
        λ t L.
            let is = line_is (goal.at.loop-k-preserved c).After-line_at-line t L in
            subst (λ (z : List ℕ). Filled (plain_at t) z (l.k + 1)) (sym w.out-is)
            (filled_same _ l.out l.k (l.invariant.1 t L) (plain_other t L.facts l.k (λ b. w.if-line-eq66.false (ap (λ (x : NodeLine). x.kind) is ∙ b)))),
      )
    ]

pub returns : goal.returns
returns c = let l = c.loop-k in
    λ t L.
    let is = ap (λ (u : Used). u.nodes) L.packed.used_is in
    ap (λ (b : List ℕ). record { bits = b })
    (filled_end _ l.out l.k (l.invariant.1 t L) (λ j h. none_after t L.facts j (omega (arith, l.auto.k-end, ap (λ (u : Used). u.nodes) c.used_in-count.ensures, is, c.loop-k-test.false)) _ (λ s. plain (sheet_of t) j s) (λ s. refl)))

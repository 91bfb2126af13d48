-- `judge_nodes` meets its contract: the words, the row and the count of the nodes passed, and whose steps are at hand. Assumes nothing.
use Rattle.std.proofs.Common.{rules}
use Rattle.std.specs.Prelude.{◌≡◌, ℕ, ◌-◌, ◌*◌, ◌^◌, ◌<◌, true, false, List, length}
use Rattle.aldlf.specs.Constants.{node_limit, word_bits}
use Rattle.aldlf.specs.Outcomes.{bit_count, bits_of}
use Rattle.aldlf.specs.Sheet.{sheet_of}
use Rattle.aldlf.specs.declared.Automaton.{Automaton}
use Rattle.aldlf.specs.declared.Table.{Table}
use Rattle.aldlf.specs.declared.Used.{Used}
use Rattle.judge.proofs.Adds.{filled_end, filled_next, filled_same, filled_start}
use Rattle.judge.proofs.GivenLaws.{in_sheet, line_there, none_after}
use Rattle.judge.proofs.KnownLaws.{asks, job_of, known_few, known_low, known_modal, known_plain, modal_done, named, plain_done, plain_fits}
use Rattle.judge.proofs.RowLaws.{inner, row_form}
use Rattle.judge.proofs.StepLaws.{kept_none, through_next}
use Rattle.judge.proofs.WordLaws.{held_read, pairs, words_end, words_none}
use Rattle.judge.specs.Nodes.{Known, modal_kind}
use Rattle.sheet.specs.Facts.{Lent, automaton_at, node_at}
use Rattle.packing.specs.Numbers.{lent_automaton}
use Rattle.reach.specs.Marks.{at, paired}
use lib.ListN.{length-set}
use mathlib.Core.Path.{◌∙◌, ap, refl, subst, sym}
use native.Mathlib.Omega.{arith}
use Rattle.judge.proofs.engine.judge_nodes.Goals as goal
use Rattle.judge.proofs.engine.judge_nodes.Goals.{In-loop-k, After-line_at-line, then-is_modal, else-is_modal}

-- the node is on the sheet,
on_sheet : (c : In-loop-k) (t : Table) → Lent t c.args.numbers.now → c.loop-k.k < t.used.nodes
on_sheet c t L = in_sheet t _ _ _ L c.loop-k-test.true (ap (λ (u : Used). u.nodes) c.used_in-count.ensures)

k_in : (c : In-loop-k) → c.loop-k.k < node_limit
k_in c = let L = c.requires.lent.1 in omega (arith, on_sheet c _ L, L.facts.nodes≤)

-- and its line is the table's
line_is : (c : After-line_at-line) (t : Table) → Lent t c.args.numbers.now → c.line_at-line.result ≡ node_at t c.loop-k.k
line_is c t L = c.line_at-line.ensures ∙ line_there t _ _ _ L c.loop-k-test.true (ap (λ (u : Used). u.nodes) c.used_in-count.ensures)

-- what is known where the node is no D or B,
plain_known : (c : After-line_at-line) (t : Table) (L : Lent t c.args.numbers.now) → modal_kind c.line_at-line.result.kind ≡ false
    → Known t c.args.part.row (job_of c.loop-k.k c.line_at-line.result (automaton_at t c.line_at-line.result.a) c.args.part.row c.args.part.way) c.args.log.now c.args.numbers.now (paired c.loop-k.words)
plain_known c t L e =
    known_plain t c.args.part.row c.args.part.way _ _ _ c.loop-k.k _ L (in_sheet t _ _ _ L c.loop-k-test.true (ap (λ (u : Used). u.nodes) c.used_in-count.ensures)) (line_is c t L) e (c.loop-k.invariant.2 t L).words_are

-- and where it is one
modal_known : (c : After-line_at-line) (t : Table) (L : Lent t c.args.numbers.now) (q : Automaton) → modal_kind c.line_at-line.result.kind ≡ true → q ≡ lent_automaton c.args.numbers.now c.line_at-line.result.a
    → Known t c.args.part.row (job_of c.loop-k.k c.line_at-line.result q c.args.part.row c.args.part.way) c.args.log.now c.args.numbers.now (paired c.loop-k.words)
modal_known c t L q e qe =
    known_modal t c.args.part.row c.args.part.way _ _ _ c.loop-k.k _ L (in_sheet t _ _ _ L c.loop-k-test.true (ap (λ (u : Used). u.nodes) c.used_in-count.ensures)) (line_is c t L) q e qe (c.loop-k.invariant.2 t L).words_are

pub loop-k-init : goal.loop-k-init
loop-k-init c =
    let n = c.requires.words_len in (
      n.2,
      refl,
      λ t L. record { words_are = words_none _ _ _ _ n.0 c.requires.by_index; row_is = filled_start _; held_is = λ l. absurd (omega arith); kept = kept_none _ _ _ _ 0 (n.1 ∙ ap (λ (z : ℕ). 49 * z) (sym (pairs c.args.log.now c.args.words.now n.0))) },
      n.0,
      λ i. omega (arith, c.type_inv.words i),
    )

pub automaton_at-automaton-requires : goal.automaton_at-automaton-requires
automaton_at-automaton-requires c =
    let L = c.requires.lent.1 in (
      L.packed.size,
      named _ c.args.part.row c.args.part.way c.args.log.now _ (paired c.loop-k.words) c.loop-k.k _ L (on_sheet (goal.at.automaton_at-automaton-requires c).In-loop-k _ L)
          (line_is (goal.at.automaton_at-automaton-requires c).After-line_at-line _ L) (sym c.is_modal.ensures ∙ c.if-is_modal.true),
    )

pub ready-now-requires : goal.ready-now-requires
ready-now-requires c =
    let t = c.requires.lent.0 in
    let L = c.requires.lent.1 in
    let e = sym c.is_modal.ensures ∙ c.if-is_modal.true in
    let so = c.loop-k.invariant.2 t L in
    record {
      modal = e;
      by_index = (t, c.args.part.row, c.args.log.now, modal_known (goal.at.ready-now-requires c).After-line_at-line t L _ e c.automaton_at-automaton.ensures);
      steps_len = (so.kept.long, omega (arith, so.words_are.size, c.requires.words_len.3));
    }

pub judge_modal-a-requires : goal.judge_modal-a-requires
judge_modal-a-requires c =
    let t = c.requires.lent.0 in
    let L = c.requires.lent.1 in
    let e = sym c.is_modal.ensures ∙ c.if-is_modal.true in
    let so = c.loop-k.invariant.2 t L in
    let K = modal_known (goal.at.judge_modal-a-requires c).After-line_at-line t L _ e c.automaton_at-automaton.ensures in
    record {
      placed = (c.ready-now.ensures t c.args.part.row c.args.log.now K so.kept).mine.placed;
      modal_fits = (asks t c.args.part.row _ c.args.log.now c.args.numbers.now _ K e).job_ok;
      masks_len = (c.loop-k.invariant.0 ∙ sym so.words_are.size, omega (arith, so.words_are.size, c.requires.words_len.3), known_low t c.args.part.row _ c.args.log.now c.args.numbers.now _ K);
    }

pub judge_plain-held-requires : goal.judge_plain-held-requires
judge_plain-held-requires c =
    let t = c.requires.lent.0 in
    let L = c.requires.lent.1 in
    let e = sym c.is_modal.ensures ∙ c.if-is_modal.false in
    let K = plain_known (goal.at.judge_plain-held-requires c).After-line_at-line t L e in
    record {
      plain_fits = plain_fits t c.args.part.row _ c.args.log.now c.args.numbers.now _ K e;
      number_lt_node_limit = (known_few t c.args.part.row _ c.args.log.now c.args.numbers.now _ K, K.words_are.size, known_low t c.args.part.row _ c.args.log.now c.args.numbers.now _ K);
    }

pub loop-k-preserved : goal.loop-k-preserved
loop-k-preserved c =
    let l = c.loop-k in
    let a = c.args in
    let row = a.part.row in
    let way = a.part.way in
    let log = a.log.now in
    let edges = a.numbers.now in
    let W = paired l.words in
    elim c.if-is_modal.branch [
      | then-is_modal w ↦
          let r = w.judge_modal-a in
          let e = sym c.is_modal.ensures ∙ w.if-is_modal.true in (
            ap length w.masks-is ∙ r.auto.masks ∙ l.invariant.0,
            ap length w.out-is ∙ length-set l.out l.k r.result.number ∙ l.invariant.1,
            λ t L.
                let so = l.invariant.2 t L in
                let K = modal_known (goal.at.loop-k-preserved c).After-line_at-line t L _ e w.automaton_at-automaton.ensures in
                let ready = w.ready-now.ensures t row log K so.kept in
                let d = modal_done t row _ log edges W K e (paired r.new.words) r.result (r.ensures _ (asks t row _ log edges W K e).edges_ok ready.mine) in
                through_next t row way log edges W l.k L so.words_are r.new.words w.ready-now.new.steps _ r.result.held _ d.words_are
                (filled_next _ l.out l.k r.result.number (k_in (goal.at.loop-k-preserved c).In-loop-k) so.row_is d.row_is) d.held_is ready.kept _ _ _ _ _ w.words-is w.steps-is w.out-is w.held-is w.have-is,
            ap length w.words-is ∙ r.auto.words ∙ l.invariant.3,
            λ i. subst (λ (ws : List ℕ). at ws i < 2 ^ word_bits) (sym w.words-is) (search rules),
          )
      | else-is_modal w ↦
          let r = w.judge_plain-held in
          let e = sym c.is_modal.ensures ∙ w.if-is_modal.false in (
            ap length w.masks-is ∙ l.invariant.0,
            ap length w.out-is ∙ l.invariant.1,
            λ t L.
                let so = l.invariant.2 t L in
                let K = plain_known (goal.at.loop-k-preserved c).After-line_at-line t L e in
                let d = plain_done t row _ log edges W K e (paired r.new.words) r.result r.ensures in
                through_next t row way log edges W l.k L so.words_are r.new.words l.steps l.out r.result l.have d.words_are
                (filled_same _ l.out l.k so.row_is d.row_is) d.held_is so.kept _ _ _ _ _ w.words-is w.steps-is w.out-is w.held-is w.have-is,
            ap length w.words-is ∙ r.auto.words ∙ l.invariant.3,
            λ i. subst (λ (ws : List ℕ). at ws i < 2 ^ word_bits) (sym w.words-is) (search rules),
          )
    ]

pub returns : goal.returns
unfolding sheet_of
returns c =
    let l = c.loop-k in
    let p = c.args.part in
    λ t L.
    let so = l.invariant.2 t L in
    let is = ap (λ (u : Used). u.nodes) L.packed.used_is in
    let end : l.k ≡ t.used.nodes = omega (arith, l.auto.k-end, ap (λ (u : Used). u.nodes) c.used_in-count.ensures, is, c.loop-k-test.false) in
    record {
      row_is = ap (λ (b : List ℕ). record { bits = b }) (filled_end _ l.out l.k so.row_is (λ j h.
          none_after t L.facts j (omega (arith, end)) _ (λ s. inner p.way (sheet_of t) c.args.log.now (bits_of p.row) j s)
          (λ s. row_form p.way (sheet_of t) c.args.log.now (bits_of p.row) j s)));
      words_are = words_end (sheet_of t) (bits_of p.row) c.args.log.now l.k l.words l.invariant.3 l.invariant.4 so.words_are end;
      held_is = so.held_is (omega (arith, end, L.facts.some_node)) ∙ held_read c.args.log.now l.words (l.k - 1) l.invariant.3 (omega (arith, end, L.facts.nodes≤))
          ∙ ap (λ (k : ℕ). bit_count (length c.args.log.now) l.words (k - 1)) end;
    }

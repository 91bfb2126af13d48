-- The digit that a page prints at an entry is 1 exactly where the rule holds by Definition 4, and the count that it prints is that of its 1s. By demand 2.
use Prim.Native.Nat.{ℕ, ◌+◌, ◌*◌, ◌/◌, ◌%◌, ◌<◌}
use mathlib.Core.Path.{◌≡◌, refl, ap, sym, ◌∙◌}
use mathlib.Core.Logic.{◌↔◌}
use mathlib.Core.Bool.{Bool, true, false}
use mathlib.Core.List.{List}
use native.Mathlib.Omega.{arith}
use borrow.Author.Tests.{lt-ltb, leb-true}
use lib.Dec.{eqb}
use lib.ListN.{length, take, length-take}
use lib.Seq.{get_or-take}
use Rattle.aldlf.specs.Constants.{node_limit, word_bits}
use Rattle.aldlf.specs.Sheet.{bit, sheet_of}
use Rattle.aldlf.specs.Meaning.{Holds}
use Rattle.aldlf.specs.Outcomes.{one, Whole, count_below, verdict_at, whole_outcome, WholeRight}
use Rattle.aldlf.specs.declared.Table.{Table}
use Rattle.aldlf.proofs.Bools.{count_cong}
use Rattle.aldlf.proofs.Outcomes.{whole_yes}
use Rattle.sheet.specs.Given.{well_formed}
use Rattle.sheet.specs.Facts.{TableFacts}
use Rattle.sheet.proofs.Facts.{table_facts}
use Rattle.judge.proofs.Demand.{demand_2}
use Rattle.lines.specs.Lines.{entries_in, verdict_digit}
use Rattle.report.specs.Page.{rule_of, lent_words}

one_iff : (b : Bool) → (one b ≡ 1) ↔ (b ≡ true)
one_iff true = (λ _. refl, λ _. refl)
one_iff false = (λ e. absurd (omega arith), λ e. ap one e)

one_is : (b : Bool) → eqb (one b) 1 ≡ b
one_is true = refl
one_is false = refl

module _ (t : Table) (log : List ℕ) (accepted : (whole_outcome (well_formed t) (sheet_of t) log lent_words).number ≡ 0) where
  -- what the page is printed from
  abbrev outcome : Whole
  outcome = whole_outcome (well_formed t) (sheet_of t) log lent_words

  -- the digit that it prints at entry i
  abbrev digit : ℕ → ℕ
  digit i = verdict_digit (take (2 * length log) outcome.buffer) i (rule_of t)

  right : WholeRight (sheet_of t) log lent_words outcome
  right = demand_2 t log lent_words accepted

  facts : TableFacts t
  facts = table_facts t (whole_yes (well_formed t) (sheet_of t) log lent_words accepted).0

  rule_there : rule_of t < (sheet_of t).nodes
  unfolding sheet_of
  rule_there = omega (arith, facts.some_node)

  rule_few : rule_of t < node_limit
  rule_few = omega (arith, facts.some_node, facts.nodes≤)

  digit_is : (i : ℕ) → i < length log → digit i ≡ one (verdict_at outcome.buffer i (rule_of t))
  digit_is i l =
      let words = take (2 * length log) outcome.buffer in
      let room = leb-true (2 * length log) (length lent_words) (whole_yes (well_formed t) (sheet_of t) log lent_words accepted).2 in
      let in_words : i < entries_in words = omega (arith, length-take (2 * length log) outcome.buffer, right.size, room) in
      rw (lt-ltb (rule_of t) node_limit rule_few, lt-ltb i (entries_in words) in_words)
      (ap (λ (w : ℕ). one (bit w (rule_of t % word_bits))) (get_or-take (2 * length log) outcome.buffer (2 * i + rule_of t / word_bits) 0 (omega (arith, rule_few))))

  -- a 1 stands exactly where the rule holds by Definition 4
  pub printed_iff : (i : ℕ) → i < length log → (digit i ≡ 1) ↔ Holds (sheet_of t) log (rule_of t) i
  printed_iff i l =
      let is = one_iff (verdict_at outcome.buffer i (rule_of t)) in
      let holds = right.verdicts i (rule_of t) l rule_there in
      (λ e. holds.0 (is.0 (sym (digit_is i l) ∙ e)), λ h. digit_is i l ∙ is.1 (holds.1 h))

  -- the count is that of the 1s
  pub printed_count : outcome.held ≡ count_below (length log) (λ i. eqb (digit i) 1)
  unfolding sheet_of
  printed_count =
      right.counted
      ∙ count_cong (length log) (λ i. verdict_at outcome.buffer i (rule_of t)) (λ i. eqb (digit i) 1) (λ i l. sym (ap (λ (d : ℕ). eqb d 1) (digit_is i l) ∙ one_is (verdict_at outcome.buffer i (rule_of t))))

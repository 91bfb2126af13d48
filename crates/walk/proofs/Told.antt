-- What an answer of the call says to its caller: how many edges a walk that is shown can have, and that a refusal is its outcome.
use Prim.Native.Nat.{ℕ, ◌≤◌, ◌<◌}
use native.Mathlib.Omega.{arith}
use mathlib.Core.Path.{◌≡◌, sym, ap, ◌∙◌}
use mathlib.Core.List.{List}
use borrow.Author.Tests.{leb-true, ltb-true}
use lib.ListN.{length}
use Rattle.aldlf.specs.Sheet.{sheet_of}
use Rattle.aldlf.specs.Walks.{walk_of, edges_of, walk_outcome}
use Rattle.aldlf.specs.Walks as walks
use Rattle.aldlf.specs.declared.Table.{Table}
use Rattle.sheet.specs.Given.{well_formed}
use Rattle.aldlf.specs.Refusals.{refusal_number}
use Rattle.aldlf.specs.declared.Refusal.{Refusal}
use Rattle.judge.proofs.OutcomeLaws.{some_number}
use Rattle.std.specs.Prelude.{Result, Ok, Err}
use Rattle.walk.specs.Answer.{answer_of}
use Rattle.walk.proofs.Questions.{outcome_0}
use Rattle.walk.proofs.Shown.{present-some, short}

module _ (t : Table) (log : List ℕ) (k i : ℕ) (buffer after : List ℕ) (r : Result ℕ Refusal) (is : answer_of r after ≡ walk_outcome (well_formed t) (sheet_of t) log k i buffer) where
  -- a walk that is shown has a place for each edge, and fewer than 8,192 edges
  pub told_count : (n : ℕ) → r ≡ Ok n → (n ≤ length buffer) × (n < 8192)
  unfolding answer_of
  told_count n h =
      let o : answer_of (Ok n) after ≡ walk_outcome (well_formed t) (sheet_of t) log k i buffer = ap (λ (x : Result ℕ Refusal). answer_of x after) (sym h) ∙ is in
      let ((w, f, entry, there, long), e) = outcome_0 (sheet_of t) log k i buffer (well_formed t) (sym (ap (λ (x : walks.Shown). x.number) o)) in
      let es = edges_of (walk_of (sheet_of t) log k i) in
      let c : n ≡ length es = ap (λ (x : walks.Shown). x.count) (o ∙ e) in
      (omega (arith, c, leb-true (length es) (length buffer) long), omega (arith, c, short t log k i w f (ltb-true i (length log) entry) es (present-some (walk_of (sheet_of t) log k i) there)))

  -- a refusal is the outcome of its number, and no question has number 0
  pub told_refused : (q : Refusal) → r ≡ Err q → (refusal_number q ≡ 0 → ⊥) × (record { number = refusal_number q; count = 0; buffer = after } ≡ walk_outcome (well_formed t) (sheet_of t) log k i buffer)
  unfolding answer_of
  told_refused q h = (some_number q, ap (λ (x : Result ℕ Refusal). answer_of x after) (sym h) ∙ is)

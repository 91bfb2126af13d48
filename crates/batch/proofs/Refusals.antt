-- EVERY ANSWER IS THE RIGHT ONE: a list is accepted exactly where it should be, and a refusal is about the first log that its question fails of.
use Prim.Native.Nat.{ℕ, zero, suc, ◌+◌, ◌*◌, ◌-◌, ◌≤◌, ◌<◌}
use native.Mathlib.Omega.{arith}
use mathlib.Core.Path.{◌≡◌, refl, sym, subst, ap, ◌∙◌}
use mathlib.Core.Logic.{◌⊎◌, inl, inr, ◌↔◌}
use mathlib.Core.Bool.{Bool, true, false}
use mathlib.Core.List.{List, [], ◌∷◌}
use lib.ListN.{length, take, get_or}
use borrow.Author.Tests.{lt-ltb, le-leb}
use Rattle.aldlf.specs.Constants.{entry_limit}
use Rattle.aldlf.specs.Sheet.{sheet_of}
use Rattle.aldlf.specs.declared.Table.{Table}
use Rattle.aldlf.proofs.Bools.{and_intro, bool_cases, lt-or-le}
use Rattle.sheet.specs.Given.{well_formed}
use Rattle.batch.specs.Batch.{BatchAnswer}
use Rattle.batch.specs.Batch.{list_limit, total, first_log, fits, has_room, misfit, roomless, answer_to, batch_outcome}
use Rattle.batch.specs.Right.{Accepts, AllPass, Right, no_table, no_log, left_over, no_room, all_judged}
use Rattle.batch.proofs.Firsts.{Fits, fits_yes, room_yes, all_pass, none_found, first_not, total_next, misfit_log, misfit_left, misfit_none, misfit_yes, fits_within, room_within}
use Rattle.batch.proofs.Answers.{no_31, no_32, no_33, all_yes, accepted, number_is, log_is}

-- The answer, case by case ----------------------------------------------------------------------------------------------------

module _ (given : Bool) (words : ℕ) (ns : List ℕ) (verdicts held : ℕ) where
  Is : BatchAnswer → Type 0
  Is a = Right given words ns verdicts held a.number a.log

  answer_right : Is (answer_to given words ns verdicts held)
  unfolding Is
  answer_right = go (bool_cases given)
    where
      by : (a : BatchAnswer) → a ≡ answer_to given words ns verdicts held → Is a → Is (answer_to given words ns verdicts held)
      by a e r = subst Is e r

      rooms : (g : given ≡ true) → first_log (fits words) 0 0 ns ≡ 0 → words ≤ total ns → (r : ℕ) → roomless verdicts held ns ≡ r → Is (answer_to given words ns verdicts held)
      rooms g f l zero e =
          by _ (all_yes given words ns verdicts held g 0 (misfit_none words ns f l) refl 0 (sym e) refl)
          (all_judged g (all_pass (fits words) ns f) (omega (arith, fits_within words ns f)) (all_pass (has_room verdicts held) ns e))
      rooms g f l (suc j) e =
          by _ (no_33 given words ns verdicts held g 0 (misfit_none words ns f l) refl (suc j) (sym e) (λ z. omega arith))
          (no_room g (all_pass (fits words) ns f) (omega (arith, fits_within words ns f)) (first_not (has_room verdicts held) ns j e))

      logs : (g : given ≡ true) → (f : ℕ) → first_log (fits words) 0 0 ns ≡ f → Is (answer_to given words ns verdicts held)
      logs g (suc j) f =
          by _ (no_32 given words ns verdicts held g (suc j) (misfit_log words ns j f) (λ z. omega arith))
          (no_log g (first_not (fits words) ns j f))
      logs g zero f = ends (lt-or-le (total ns) words)
        where
          ends : (total ns < words) ⊎ (words ≤ total ns) → Is (answer_to given words ns verdicts held)
          ends (inl l) =
              by _ (no_32 given words ns verdicts held g (suc (length ns)) (misfit_left words ns f l) (λ z. omega arith))
              (left_over g (all_pass (fits words) ns f) l)
          ends (inr l) = rooms g f l (roomless verdicts held ns) refl

      go : (given ≡ true) ⊎ (given ≡ false) → Is (answer_to given words ns verdicts held)
      go (inr e) = by _ (no_31 given words ns verdicts held e) (no_table e)
      go (inl e) = logs e (first_log (fits words) 0 0 ns) refl

-- the theorem, of the call's outcome
pub answers_right : (t : Table) (words lengths verdicts held : List ℕ)
    → Right (well_formed t) (length words) lengths (length verdicts) (length held)
    (batch_outcome (well_formed t) (sheet_of t) words lengths verdicts held).number (batch_outcome (well_formed t) (sheet_of t) words lengths verdicts held).log
unfolding Is
answers_right t words lengths verdicts held =
    let a = answer_to (well_formed t) (length words) lengths (length verdicts) (length held) in
    rw (number_is (well_formed t) (sheet_of t) words lengths verdicts held a refl, log_is (well_formed t) (sheet_of t) words lengths verdicts held a refl)
    (answer_right (well_formed t) (length words) lengths (length verdicts) (length held))

below : (n b : ℕ) → ((j : ℕ) → j < n → j < b) → n ≤ b
below zero b f = omega arith
below (suc n) b f = omega (arith, f n (omega arith))

-- a refusal is about one of the first 65,536 logs
pub log_small : (t : Table) (words lengths verdicts held : List ℕ) → (batch_outcome (well_formed t) (sheet_of t) words lengths verdicts held).log ≤ suc list_limit
log_small t words lengths verdicts held = go (answers_right t words lengths verdicts held)
  where
    -- so many logs as pass question 32 are few
    few : (k : ℕ) → ((j : ℕ) → j < k → fits (length words) j (total (take j lengths)) (get_or lengths j 0) ≡ true) → k ≤ list_limit
    few k f = below k list_limit (λ j h. (fits_yes (length words) j (total (take j lengths)) (get_or lengths j 0) (f j h)).early)

    go : {number log : ℕ} → Right (well_formed t) (length words) lengths (length verdicts) (length held) number log → log ≤ suc list_limit
    go (no_table e) = omega arith
    go (no_log {j} g f) = omega (arith, few j f.before)
    go (left_over g f l) = omega (arith, few (length lengths) f)
    go (no_room {j} g f l r) = omega (arith, few (length lengths) f, r.in_list)
    go (all_judged g f l r) = omega arith

-- Accepted ----------------------------------------------------------------------------------------------------------------------

total-le : (ns : List ℕ) (k : ℕ) → total (take k ns) ≤ total ns
total-le [] zero = omega arith
total-le [] (suc k) = omega arith
total-le (n ∷ ns) zero = omega arith
total-le (n ∷ ns) (suc k) = omega (arith, total-le ns k)

module _ (given : Bool) (words ns verdicts held : List ℕ) where
  -- every question got a yes: so the list is as it should be
  accepts : given ≡ true → misfit (length words) ns ≡ 0 → roomless (length verdicts) (length held) ns ≡ 0 → Accepts given words ns verdicts held
  accepts g m r =
      let f = misfit_yes (length words) ns m in
      let all : total ns ≡ length words = omega (arith, f.1, fits_within (length words) ns f.0) in
      let rooms : 2 * total ns ≤ length verdicts = room_within (length verdicts) (length held) ns r in
      let fit : (j : ℕ) → j < length ns → Fits (length words) j (total (take j ns)) (get_or ns j 0) = λ j h. fits_yes (length words) j (total (take j ns)) (get_or ns j 0) (all_pass (fits (length words)) ns f.0 j h) in
      let room : (j : ℕ) → j < length ns → j < length held = λ j h.
      (room_yes (length verdicts) (length held) j (total (take j ns)) (get_or ns j 0) (all_pass (has_room (length verdicts) (length held)) ns r j h) (omega (arith, total-le ns j))).1 in
      record {
        table = g;
        logs = below (length ns) list_limit (λ j h. (fit j h).early);
        entries = λ j h. ((fit j h).some, (fit j h).few);
        all_words = all;
        verdicts_room = omega arith;
        held_room = below (length ns) (length held) room;
      }

  -- and back
  module _ (a : Accepts given words ns verdicts held) where
    ends : (j : ℕ) → j < length ns → total (take j ns) + get_or ns j 0 ≤ length words
    ends j h = omega (arith, total_next ns j h, total-le ns (j + 1), a.all_words)

    fit : AllPass (fits (length words)) ns
    fit j h =
        let n = get_or ns j 0 in
        let e = ends j h in
        and_intro (and_intro (and_intro (lt-ltb j list_limit (omega (arith, a.logs))) (le-leb 1 n (a.entries j h).0)) (le-leb n entry_limit (a.entries j h).1))
        (le-leb n (length words - total (take j ns)) (omega arith))

    room : AllPass (has_room (length verdicts) (length held)) ns
    room j h =
        let n = get_or ns j 0 in
        let e = ends j h in
        and_intro (le-leb (2 * n) (length verdicts - 2 * total (take j ns)) (omega (arith, a.verdicts_room))) (lt-ltb j (length held) (omega (arith, a.held_room)))

    accepted_so : (answer_to given (length words) ns (length verdicts) (length held)).number ≡ 0
    accepted_so =
        sym (ap (λ (x : BatchAnswer). x.number)
        (all_yes given (length words) ns (length verdicts) (length held) a.table
        0 (misfit_none (length words) ns (none_found (fits (length words)) ns fit) (omega (arith, a.all_words))) refl
        0 (sym (none_found (has_room (length verdicts) (length held)) ns room)) refl))

-- the theorem, of the call's outcome
pub accepted_iff : (t : Table) (words lengths verdicts held : List ℕ)
    → ((batch_outcome (well_formed t) (sheet_of t) words lengths verdicts held).number ≡ 0) ↔ Accepts (well_formed t) words lengths verdicts held
accepted_iff t words lengths verdicts held =
    let a = answer_to (well_formed t) (length words) lengths (length verdicts) (length held) in
    let is = number_is (well_formed t) (sheet_of t) words lengths verdicts held a refl in (
      λ z. let y = accepted (well_formed t) (length words) lengths (length verdicts) (length held) (sym is ∙ z) in accepts (well_formed t) words lengths verdicts held y.0 y.1 y.2,
      λ p. is ∙ accepted_so (well_formed t) words lengths verdicts held p,
    )

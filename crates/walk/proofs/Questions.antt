-- The questions of a walk at an accepted table and log, from 36 on: what the first no, or the last yes, answers.
use Prim.Native.Nat.{ℕ, zero, suc, ◌≤◌}
use native.Mathlib.Omega.{arith}
use mathlib.Core.Path.{◌≡◌, refl, sym, ap, ◌∙◌}
use mathlib.Core.Bool.{Bool, true, false, false≢true}
use mathlib.Core.List.{List, [], ◌∷◌, ◌++◌}
use mathlib.Core.Option.{Option, none, some}
use lib.Dec.{eqb, leb, ltb}
use lib.ListN.{length, drop}
use Rattle.aldlf.specs.Sheet.{Sheet, by_mode}
use Rattle.aldlf.specs.Outcomes.{first_no, log_fits}
use Rattle.aldlf.specs.Walks.{present, edges_of, walk_of, walk_number, walk_outcome}
use Rattle.aldlf.specs.Walks as walks

-- the answer by the first no's number
abbrev settled : ℕ → List ℕ → List ℕ → walks.Shown
settled number es buffer =
    elim number [
      | zero ↦ record { number = 0; count = length es; buffer = es ++ drop (length es) buffer }
      | suc q ↦ record { number = suc q; count = 0; buffer = buffer }
    ]

-- the first no's number
abbrev asked : (given fits node entry modal there room : Bool) → ℕ
asked given fits node entry modal there room =
    first_no ((given, 31) ∷ (fits, 32) ∷ (node, 36) ∷ (entry, 37) ∷ (modal, 38) ∷ (there, 39) ∷ (room, 40) ∷ [])

-- a refusal
abbrev pub refusal : ℕ → List ℕ → walks.Shown
refusal number buffer = record { number = number; count = 0; buffer = buffer }

-- question 40, of a walk that there is
abbrev pub by_room : Bool → List ℕ → List ℕ → walks.Shown
by_room true es buffer = record { number = 0; count = length es; buffer = es ++ drop (length es) buffer }
by_room false es buffer = refusal 40 buffer

-- questions 39 and 40, of the walk that there is or not
abbrev pub shown_by : Option (List ℕ) → List ℕ → walks.Shown
shown_by none buffer = refusal 39 buffer
shown_by (some es) buffer = by_room (leb (length es) (length buffer)) es buffer

settled_36 : (fits node entry modal there room : Bool) (es buffer : List ℕ) → fits ≡ true → node ≡ false
    → settled (asked true fits node entry modal there room) es buffer ≡ refusal 36 buffer
settled_36 fits node entry modal there room es buffer f n = rw (f, n)

settled_37 : (fits node entry modal there room : Bool) (es buffer : List ℕ) → fits ≡ true → node ≡ true → entry ≡ false
    → settled (asked true fits node entry modal there room) es buffer ≡ refusal 37 buffer
settled_37 fits node entry modal there room es buffer f n e = rw (f, n, e)

settled_38 : (fits node entry modal there room : Bool) (es buffer : List ℕ) → fits ≡ true → node ≡ true → entry ≡ true → modal ≡ false
    → settled (asked true fits node entry modal there room) es buffer ≡ refusal 38 buffer
settled_38 fits node entry modal there room es buffer f n e m = rw (f, n, e, m)

-- of a walk that there is, the answer is by its room
settled-room : (fits node entry modal room : Bool) (es buffer : List ℕ) → fits ≡ true → node ≡ true → entry ≡ true → modal ≡ true
    → settled (asked true fits node entry modal true room) es buffer ≡ by_room room es buffer
settled-room fits node entry modal true es buffer f n e m = rw (f, n, e, m)
settled-room fits node entry modal false es buffer f n e m = rw (f, n, e, m)

settled_walk : (fits node entry modal : Bool) (o : Option (List ℕ)) (buffer : List ℕ) → fits ≡ true → node ≡ true → entry ≡ true → modal ≡ true
    → settled (asked true fits node entry modal (present o) (leb (length (edges_of o)) (length buffer))) (edges_of o) buffer ≡ shown_by o buffer
settled_walk fits node entry modal none buffer f n e m = rw (f, n, e, m)
settled_walk fits node entry modal (some es) buffer f n e m = settled-room fits node entry modal (leb (length es) (length buffer)) es buffer f n e m

-- where judging refuses, its number is that of the walk: whatever the later questions
settled_early : (given fits room33 : Bool) → (fits ≡ true → room33 ≡ true) → eqb (first_no ((given, 31) ∷ (fits, 32) ∷ (room33, 33) ∷ [])) 0 ≡ false
    → (node entry modal there room : Bool) (es buffer : List ℕ)
    → settled (asked given fits node entry modal there room) es buffer ≡ refusal (first_no ((given, 31) ∷ (fits, 32) ∷ (room33, 33) ∷ [])) buffer
settled_early false fits room33 f p node entry modal there room es buffer = refl
settled_early true false room33 f p node entry modal there room es buffer = refl
settled_early true true true f p node entry modal there room es buffer = absurd (false≢true (sym p))
settled_early true true false f p node entry modal there room es buffer = absurd (false≢true (f refl))

-- number 0 and number 40 come only after these yeses
settled_0 : (given fits node entry modal there room : Bool) (es buffer : List ℕ) → (settled (asked given fits node entry modal there room) es buffer).number ≡ 0
    → ((given ≡ true) × (fits ≡ true) × (entry ≡ true) × (there ≡ true) × (room ≡ true)) × (settled (asked given fits node entry modal there room) es buffer ≡ by_room true es buffer)
settled_0 true true true true true true true es buffer e = ((refl, refl, refl, refl, refl), refl)
settled_0 true true true true true true false es buffer e = absurd (omega arith)
settled_0 true true true true true false room es buffer e = absurd (omega arith)
settled_0 true true true true false there room es buffer e = absurd (omega arith)
settled_0 true true true false modal there room es buffer e = absurd (omega arith)
settled_0 true true false entry modal there room es buffer e = absurd (omega arith)
settled_0 true false node entry modal there room es buffer e = absurd (omega arith)
settled_0 false fits node entry modal there room es buffer e = absurd (omega arith)

settled_40 : (given fits node entry modal there room : Bool) (es buffer : List ℕ) → (settled (asked given fits node entry modal there room) es buffer).number ≡ 40
    → ((given ≡ true) × (fits ≡ true) × (entry ≡ true) × (there ≡ true)) × (room ≡ false)
settled_40 true true true true true true true es buffer e = absurd (omega arith)
settled_40 true true true true true true false es buffer e = ((refl, refl, refl, refl), refl)
settled_40 true true true true true false room es buffer e = absurd (omega arith)
settled_40 true true true true false there room es buffer e = absurd (omega arith)
settled_40 true true true false modal there room es buffer e = absurd (omega arith)
settled_40 true true false entry modal there room es buffer e = absurd (omega arith)
settled_40 true false node entry modal there room es buffer e = absurd (omega arith)
settled_40 false fits node entry modal there room es buffer e = absurd (omega arith)

-- no question of a walk has a larger number than 40
settled_most : (given fits node entry modal there room : Bool) (es buffer : List ℕ) → (settled (asked given fits node entry modal there room) es buffer).number ≤ 40
settled_most true true true true true true true es buffer = omega arith
settled_most true true true true true true false es buffer = omega arith
settled_most true true true true true false room es buffer = omega arith
settled_most true true true true false there room es buffer = omega arith
settled_most true true true false modal there room es buffer = omega arith
settled_most true true false entry modal there room es buffer = omega arith
settled_most true false node entry modal there room es buffer = omega arith
settled_most false fits node entry modal there room es buffer = omega arith

module _ (S : Sheet) (log : List ℕ) (k i : ℕ) (buffer : List ℕ) where
  abbrev there : Bool
  there = present (walk_of S log k i)

  abbrev edges : List ℕ
  edges = edges_of (walk_of S log k i)

  abbrev room : Bool
  room = leb (length edges) (length buffer)

  abbrev is_modal : Bool
  is_modal = by_mode (λ m a. true) (λ m a. true) false (S.line k)

  in_order : (given : Bool) → walk_outcome given S log k i buffer ≡ settled (asked given (log_fits log) (ltb k S.nodes) (ltb i (length log)) is_modal there room) edges buffer
  unfolding walk_outcome walk_number
  in_order given = refl

  pub outcome_early : (given room33 : Bool) → (log_fits log ≡ true → room33 ≡ true) → eqb (first_no ((given, 31) ∷ (log_fits log, 32) ∷ (room33, 33) ∷ [])) 0 ≡ false
      → walk_outcome given S log k i buffer ≡ refusal (first_no ((given, 31) ∷ (log_fits log, 32) ∷ (room33, 33) ∷ [])) buffer
  outcome_early given room33 f p =
      in_order given ∙ settled_early given (log_fits log) room33 f p (ltb k S.nodes) (ltb i (length log)) is_modal there room edges buffer

  pub outcome_36 : log_fits log ≡ true → ltb k S.nodes ≡ false → walk_outcome true S log k i buffer ≡ refusal 36 buffer
  outcome_36 fits n = in_order true ∙ settled_36 (log_fits log) (ltb k S.nodes) (ltb i (length log)) is_modal there room edges buffer fits n

  pub outcome_37 : log_fits log ≡ true → ltb k S.nodes ≡ true → ltb i (length log) ≡ false → walk_outcome true S log k i buffer ≡ refusal 37 buffer
  outcome_37 fits n e = in_order true ∙ settled_37 (log_fits log) (ltb k S.nodes) (ltb i (length log)) is_modal there room edges buffer fits n e

  pub outcome_38 : log_fits log ≡ true → ltb k S.nodes ≡ true → ltb i (length log) ≡ true → is_modal ≡ false → walk_outcome true S log k i buffer ≡ refusal 38 buffer
  outcome_38 fits n e m = in_order true ∙ settled_38 (log_fits log) (ltb k S.nodes) (ltb i (length log)) is_modal there room edges buffer fits n e m

  pub outcome_walk : log_fits log ≡ true → ltb k S.nodes ≡ true → ltb i (length log) ≡ true → is_modal ≡ true → walk_outcome true S log k i buffer ≡ shown_by (walk_of S log k i) buffer
  outcome_walk fits n e m = in_order true ∙ settled_walk (log_fits log) (ltb k S.nodes) (ltb i (length log)) is_modal (walk_of S log k i) buffer fits n e m

  pub outcome_0 : (given : Bool) → (walk_outcome given S log k i buffer).number ≡ 0
      → ((given ≡ true) × (log_fits log ≡ true) × (ltb i (length log) ≡ true) × (there ≡ true) × (room ≡ true)) × (walk_outcome given S log k i buffer ≡ by_room true edges buffer)
  outcome_0 given e =
      let r = settled_0 given (log_fits log) (ltb k S.nodes) (ltb i (length log)) is_modal there room edges buffer (ap (λ (x : walks.Shown). x.number) (sym (in_order given)) ∙ e) in
      (r.0, in_order given ∙ r.1)

  pub outcome_40 : (given : Bool) → (walk_outcome given S log k i buffer).number ≡ 40
      → ((given ≡ true) × (log_fits log ≡ true) × (ltb i (length log) ≡ true) × (there ≡ true)) × (room ≡ false)
  outcome_40 given e =
      settled_40 given (log_fits log) (ltb k S.nodes) (ltb i (length log)) is_modal there room edges buffer (ap (λ (x : walks.Shown). x.number) (sym (in_order given)) ∙ e)

  pub outcome_most : (given : Bool) → (walk_outcome given S log k i buffer).number ≤ 40
  outcome_most given =
      let m = settled_most given (log_fits log) (ltb k S.nodes) (ltb i (length log)) is_modal there room edges buffer in
      omega (arith, m, ap (λ (x : walks.Shown). x.number) (in_order given))

-- The field beside a sheet's refusal: 7 never occurs, the field is 0 except beside 71 to 76, and there the leftmost that is out of range. By the order of the questions, then by induction over the lines.
use Prim.Native.Nat.{ℕ, suc, ◌+◌, ◌-◌, ◌≤◌, ◌<◌}
use mathlib.Core.Path.{◌≡◌, refl, ap, subst, ◌∙◌}
use mathlib.Core.Logic.{◌⊎◌, ⊎_elim}
use mathlib.Core.List.{List, [], ◌∷◌}
use mathlib.Core.Bool.{Bool, true, false, cond}
use native.Mathlib.Omega.{arith}
use lib.ListN.{length, get_or, take}
use lib.Dec.{eqb, ltb, leb}
use borrow.Author.Tests.{eqb-false}
use Rattle.text.specs.Text.{byte_limit, lines, fields, ends_in_lf}
use Rattle.sheet.specs.declared.line.Line.{Line}
use Rattle.sheet.specs.declared.build.Reading.{Reading}
use Rattle.sheet.specs.Answers.{Stop, SheetAnswer}
use Rattle.sheet.specs.Ranges.{a_fact, a_count, is_of_kind, kinds, numbers_of, stop_at, going_on, out_of_range}
use Rattle.sheet.specs.Questions.{parsed, known_line, all_numbers, room_left, belongs, last, newly_accepting, plain_step, question, added, start, refused_by, refused, whole_of, finish, read_lines, read_sheet}
use Rattle.sheet.specs.Fields.{added_all, Leftmost, FieldRight}
use Rattle.sheet.proofs.InRange.{LineStops, out_of_range_lem, stops_named}

-- at one line: what a stop says
pub record StopRight (r : Reading) (l : Line) (s : Stop) : Type 0 where
  pub never_7 : s.number ≡ 7 → ⊥
  pub no_field : (s.number < a_fact) ⊎ (a_count < s.number) → s.field ≡ 0
  pub leftmost : a_fact ≤ s.number → s.number ≤ a_count → Leftmost r l s.number s.field
  pub number≤ : s.number ≤ a_count
  pub field≤ : s.field ≤ 5

module _ (r : Reading) (l : Line) where
  either : (b : Bool) (x y : Stop) → StopRight r l x → StopRight r l y → StopRight r l (cond b x y)
  either true x y p q = p
  either false x y p q = q

  -- a question about the line as a whole
  whole_line : (n : ℕ) → n < a_fact → (n ≡ 7 → ⊥) → StopRight r l (stop_at n 0)
  whole_line n h f = record { never_7 = f; no_field = λ c. refl; leftmost = λ a b. absurd (omega arith); number≤ = omega arith; field≤ = omega arith }

  asked : (b : Bool) (n : ℕ) (later : Stop) → n < a_fact → (n ≡ 7 → ⊥) → StopRight r l later → StopRight r l (cond b later (stop_at n 0))
  asked b n later h f p = either b later (stop_at n 0) p (whole_line n h f)

  -- question 7, where it stops
  abbrev wrong_field : Stop
  wrong_field = out_of_range r.table.used (last r.table) l

  at_leftmost : LineStops r.table.used (last r.table) l wrong_field → Leftmost r l wrong_field.number wrong_field.field
  at_leftmost a =
      let s = wrong_field in
      let e : a.place ≡ s.field - 2 = omega (arith, a.field) in
      record {
        above = omega (arith, a.field);
        there = omega (arith, a.field, a.there);
        kind = a.number ∙ ap (λ (i : ℕ). get_or (kinds l.letter) i 0) e;
        wrong = subst (λ (i : ℕ). is_of_kind r.table.used _ (get_or (kinds l.letter) i 0) (get_or (numbers_of l) i 0) ≡ false) e a.wrong;
        left = λ g m h. a.left (g - 2) (omega (arith, a.field));
      }

  range_right : (wrong_field.number ≡ 0 → ⊥) → StopRight r l wrong_field
  range_right f =
      ⊎_elim (λ p. absurd (f (ap (λ (s : Stop). s.number) p.goes_on)))
      (λ a.
      let n = stops_named r.table.used (last r.table) l wrong_field a in
      record {
        never_7 = λ e. absurd (omega (arith, n.from));
        no_field = ⊎_elim (λ h. absurd (omega (arith, n.from))) (λ h. absurd (omega (arith, n.to)));
        leftmost = λ h k. at_leftmost a;
        number≤ = n.to;
        field≤ = n.field≤;
      })
      (out_of_range_lem r.table.used (last r.table) l)

  fields_asked : (later : Stop) → StopRight r l later → StopRight r l (cond (eqb wrong_field.number 0) later wrong_field)
  fields_asked later p = go (eqb wrong_field.number 0) refl
    where
      go : (b : Bool) → eqb wrong_field.number 0 ≡ b → StopRight r l (cond b later wrong_field)
      go true e = p
      go false e = range_right (eqb-false wrong_field.number 0 e)

  pub question_right : StopRight r l (question r l)
  unfolding question
  question_right =
      asked (known_line l) 3 _ (omega arith) (omega arith)
      (asked (all_numbers l) 4 _ (omega arith) (omega arith)
      (asked (room_left r.table.used l) 5 _ (omega arith) (omega arith)
      (asked (belongs r.inside l) 6 _ (omega arith) (omega arith)
      (fields_asked _
      (asked (newly_accepting (last r.table) l) 8 _ (omega arith) (omega arith)
      (asked (plain_step r.table.nodes l) 9 going_on (omega arith) (omega arith)
      (whole_line 0 (omega arith) (omega arith))))))))

-- it stops at one of the lines ls, the first of which is line k + 1
record StopsIn (r : Reading) (k : ℕ) (ls : List (List ℕ)) (a : SheetAnswer) : Type 0 where
  place : ℕ
  line : a.line ≡ k + 1 + place
  leftmost : Leftmost (added_all r k (take place ls)) (parsed (fields (get_or ls place []))) a.number a.field

record LinesRight (r : Reading) (k : ℕ) (ls : List (List ℕ)) (a : SheetAnswer) : Type 0 where
  never_7 : a.number ≡ 7 → ⊥
  no_field : (a.number < a_fact) ⊎ (a_count < a.number) → a.field ≡ 0
  stops : a_fact ≤ a.number → a.number ≤ a_count → StopsIn r k ls a

pick_right : {r : Reading} {k : ℕ} {ls : List (List ℕ)} (b : Bool) (x y : SheetAnswer) → LinesRight r k ls x → LinesRight r k ls y → LinesRight r k ls (cond b x y)
pick_right true x y p q = p
pick_right false x y p q = q

-- an answer about no field
no_field_right : (r : Reading) (k : ℕ) (ls : List (List ℕ)) (a : SheetAnswer) → a.number < a_fact → (a.number ≡ 7 → ⊥) → a.field ≡ 0 → LinesRight r k ls a
no_field_right r k ls a h f e = record { never_7 = f; no_field = λ c. e; stops = λ c d. absurd (omega arith) }

-- a stop at the first line, and one at a later line
module _ (r : Reading) (k : ℕ) (l : List ℕ) (ls : List (List ℕ)) where
  abbrev x : Line
  x = parsed (fields l)

  here_right : LinesRight r k (l ∷ ls) (refused_by (question r x) (k + 1))
  unfolding added_all
  here_right =
      let q = question_right r x in
      record { never_7 = q.never_7; no_field = q.no_field; stops = λ a b. record { place = 0; line = omega arith; leftmost = q.leftmost a b } }

  later_right : (a : SheetAnswer) → LinesRight (added r (k + 1) x) (k + 1) ls a → LinesRight r k (l ∷ ls) a
  unfolding added_all
  later_right a p =
      record {
        never_7 = p.never_7;
        no_field = p.no_field;
        stops = λ h t. let s = p.stops h t in record { place = suc s.place; line = omega (arith, s.line); leftmost = s.leftmost };
      }

finish_right : (r' r : Reading) (k n : ℕ) (ls : List (List ℕ)) → LinesRight r' k ls (finish r n)
unfolding finish
finish_right r' r k n ls =
    pick_right (ltb (whole_of r.table) r.table.used.automata) _ _ (no_field_right r' k ls _ (omega arith) (omega arith) refl)
    (pick_right r.inside _ _ (no_field_right r' k ls _ (omega arith) (omega arith) refl) (no_field_right r' k ls _ (omega arith) (omega arith) refl))

lines_right : (r : Reading) (k : ℕ) (ls : List (List ℕ)) → LinesRight r k ls (read_lines r k ls)
unfolding read_lines
lines_right r k [] = finish_right r r k k []
lines_right r k (l ∷ ls) =
    pick_right (eqb (question r (parsed (fields l))).number 0) _ _ (later_right r k l ls _ (lines_right (added r (k + 1) (parsed (fields l))) (k + 1) ls)) (here_right r k l ls)

-- the whole text
text_right : (text : List ℕ) → LinesRight start 0 (lines text) (read_sheet text)
unfolding read_sheet
text_right text =
    let ls = lines text in
    pick_right (leb (length text) byte_limit) _ _
    (pick_right (ends_in_lf text) _ _ (lines_right start 0 ls) (no_field_right start 0 ls (refused 2 0) (omega arith) (omega arith) refl))
    (no_field_right start 0 ls (refused 1 0) (omega arith) (omega arith) refl)

pub field_right : (text : List ℕ) → FieldRight text (read_sheet text)
field_right text =
    let a = read_sheet text in
    let p = text_right text in
    record {
      never_7 = p.never_7;
      no_field = p.no_field;
      leftmost =
          λ h k.
          let s = p.stops h k in
          let e : s.place ≡ a.line - 1 = omega (arith, s.line) in
          subst (λ (i : ℕ). Leftmost (added_all start 0 (take i (lines text))) (parsed (fields (get_or (lines text) i []))) a.number a.field) e s.leftmost;
    }

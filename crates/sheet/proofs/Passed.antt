-- What a line that passes questions 3 to 9 says in numbers, letter by letter; the fields that a line has not are 0.
use Prim.Native.Nat.{ℕ, ◌-◌, ◌≤◌, ◌<◌, min}
use mathlib.Core.Path.{◌≡◌, refl}
use mathlib.Core.List.{List, [], ◌∷◌}
use mathlib.Core.Bool.{Bool, true, false, cond, not}
use mathlib.Core.Logic.{◌⊎◌, ⊎_elim}
use native.Mathlib.Omega.{arith}
use lib.ListN.{length, get_or}
use lib.Dec.{ltb, leb, eqb}
use borrow.Author.Tests.{ne_eqb, le-ltb, ltb-true, leb-true, eqb-true, eqb-false, not-true}
use Rattle.aldlf.specs.Constants.{node_limit, letter_p, letter_n, letter_a, letter_o, letter_d, letter_b, letter_m, letter_g, letter_e}
use Rattle.aldlf.specs.Sheet.{bit}
use Rattle.aldlf.specs.declared.Table.{Table}
use Rattle.text.specs.Text.{number}
use Rattle.sheet.specs.declared.line.Line.{Line}
use Rattle.sheet.specs.declared.build.Reading.{Reading}
use Rattle.sheet.specs.Answers.{Stop}
use Rattle.sheet.specs.Ranges.{a_fact, a_node, an_automaton, a_state, a_direction, a_count, is_of_kind, kinds, numbers_of, states_on, stop_at, going_on, out_of_range}
use Rattle.sheet.specs.Questions.{parsed, arity, known_line, all_numbers, room_left, belongs, last, newly_accepting, plain_step, question}
use Rattle.sheet.proofs.Bools.{both}
use Rattle.sheet.proofs.InRange.{all_in_range}

-- what it says that a question does not stop: of the line, and of its fields
yes_of : (a : Bool) (x : Stop) (n : ℕ) → (n ≡ 0 → ⊥) → (cond a x (stop_at n 0)).number ≡ 0 → (a ≡ true) × (x.number ≡ 0)
yes_of true x n f e = (refl, e)
yes_of false x n f e = absurd (f e)

fields_of : (s x : Stop) → (cond (eqb s.number 0) x s).number ≡ 0 → (s.number ≡ 0) × (x.number ≡ 0)
fields_of s x e = go (eqb s.number 0) refl e
  where
    go : (b : Bool) → eqb s.number 0 ≡ b → (cond b x s).number ≡ 0 → (s.number ≡ 0) × (x.number ≡ 0)
    go true z h = (eqb-true s.number 0 z, h)
    go false z h = absurd (eqb-false s.number 0 z h)

pub record Passed (r : Reading) (l : Line) : Type 0 where
  pub p3 : known_line l ≡ true
  pub p4 : all_numbers l ≡ true
  pub p5 : room_left r.table.used l ≡ true
  pub p6 : belongs r.inside l ≡ true
  pub p7 : (out_of_range r.table.used (last r.table) l).number ≡ 0
  pub p8 : newly_accepting (last r.table) l ≡ true
  pub p9 : plain_step r.table.nodes l ≡ true

pub passed : (r : Reading) (l : Line) → (question r l).number ≡ 0 → Passed r l
unfolding question
passed r l e =
    let y3 = yes_of (known_line l) _ 3 (omega arith) e in
    let y4 = yes_of (all_numbers l) _ 4 (omega arith) y3.1 in
    let y5 = yes_of (room_left r.table.used l) _ 5 (omega arith) y4.1 in
    let y6 = yes_of (belongs r.inside l) _ 6 (omega arith) y5.1 in
    let y7 = fields_of (out_of_range r.table.used (last r.table) l) _ y6.1 in
    let y8 = yes_of (newly_accepting (last r.table) l) _ 8 (omega arith) y7.1 in
    let y9 = yes_of (plain_step r.table.nodes l) going_on 9 (omega arith) y8.1 in
    record { p3 = y3.0; p4 = y4.0; p5 = y5.0; p6 = y6.0; p7 = y7.0; p8 = y8.0; p9 = y9.0 }

-- the fields that a line has not are 0
pub record Absent (l : Line) : Type 0 where
  pub a0 : l.count ≤ 0 → l.a ≡ 0
  pub b0 : l.count ≤ 1 → l.b ≡ 0
  pub c0 : l.count ≤ 2 → l.c ≡ 0
  pub d0 : l.count ≤ 3 → l.d ≡ 0
  pub few : l.count ≤ 5

none_at : (n i x : ℕ) → i ≤ 4 → min 5 (n - 1) < i → cond (ltb i n) x 0 ≡ 0
none_at n i x w h = rw (le-ltb i n (omega arith))

pub absent : (fs : List (List ℕ)) → Absent (parsed fs)
unfolding parsed
absent fs =
    record {
      a0 = λ h. none_at (length fs) 1 (number (get_or fs 1 [])) (omega arith) (omega arith);
      b0 = λ h. none_at (length fs) 2 (number (get_or fs 2 [])) (omega arith) (omega arith);
      c0 = λ h. none_at (length fs) 3 (number (get_or fs 3 [])) (omega arith) (omega arith);
      d0 = λ h. none_at (length fs) 4 (number (get_or fs 4 [])) (omega arith) (omega arith);
      few = omega arith;
    }

-- what each letter's questions say, in numbers
pub record Said-M (t : Table) (l : Line) : Type 0 where
  pub room : t.used.automata < 16
  pub range : (1 ≤ l.a) × (l.a ≤ 16) × (l.b < l.a)

pub record Said-G (r : Reading) (l : Line) : Type 0 where
  pub in_M : r.inside ≡ true
  pub range : l.a < (last r.table).states
  pub clear : bit (last r.table).accepting l.a ≡ false

pub record Said-E (r : Reading) (l : Line) : Type 0 where
  pub room : r.table.used.edges < 256
  pub in_M : r.inside ≡ true
  pub range : (l.a < (last r.table).states) × (l.b < 3) × (l.c < r.table.used.nodes) × (l.d < (last r.table).states)

module _ (r : Reading) (l : Line) (p : Passed r l) where
  -- each number is of its field's kind
  fits : (ks : List ℕ) → kinds l.letter ≡ ks → (i : ℕ) → i < length ks → is_of_kind r.table.used (states_on (last r.table) l) (get_or ks i 0) (get_or (numbers_of l) i 0) ≡ true
  fits = all_in_range r.table.used (last r.table) l p.p7

  pub said_M : l.letter ≡ letter_m → Said-M r.table l
  unfolding room_left kinds is_of_kind
  said_M e =
      let h5 : ltb r.table.used.automata 16 ≡ true = rw e at p.p5 in
      let h7 = fits (a_count ∷ a_state ∷ []) (rw e) in
      let start : ltb l.b l.a ≡ true = rw e at (h7 1 (omega arith)) in
      let (some, few) = both (leb 1 l.a) (leb l.a 16) (h7 0 (omega arith)) in
      record { room = ltb-true _ _ h5; range = (leb-true 1 l.a some, leb-true l.a 16 few, ltb-true l.b l.a start) }

  pub said_G : l.letter ≡ letter_g → Said-G r l
  unfolding belongs kinds is_of_kind newly_accepting
  said_G e =
      let h6 : r.inside ≡ true = rw e at p.p6 in
      let h7 : ltb l.a (last r.table).states ≡ true = rw e at (fits (a_state ∷ []) (rw e) 0 (omega arith)) in
      let h8 : not (bit (last r.table).accepting l.a) ≡ true = rw e at p.p8 in
      record { in_M = h6; range = ltb-true _ _ h7; clear = not-true (bit (last r.table).accepting l.a) h8 }

  pub said_E : l.letter ≡ letter_e → Said-E r l
  unfolding room_left belongs kinds is_of_kind
  said_E e =
      let t = r.table in
      let h5 : ltb t.used.edges 256 ≡ true = rw e at p.p5 in
      let h6 : r.inside ≡ true = rw e at p.p6 in
      let h7 = fits (a_state ∷ a_direction ∷ a_node ∷ a_state ∷ []) (rw e) in
      let from : ltb l.a (last t).states ≡ true = rw e at (h7 0 (omega arith)) in
      let to : ltb l.d (last t).states ≡ true = rw e at (h7 3 (omega arith)) in
      record {
        room = ltb-true _ _ h5;
        in_M = h6;
        range = (ltb-true _ _ from, ltb-true l.b 3 (h7 1 (omega arith)), ltb-true l.c t.used.nodes (h7 2 (omega arith)), ltb-true _ _ to);
      }

  pub said_count : l.count ≡ arity l.letter
  unfolding known_line
  said_count = eqb-true l.count (arity l.letter) p.p3

  pub said_room : (l.letter ≡ letter_m → ⊥) → (l.letter ≡ letter_g → ⊥) → (l.letter ≡ letter_e → ⊥) → r.table.used.nodes < node_limit
  unfolding room_left
  said_room m g e =
      let h : ltb r.table.used.nodes node_limit ≡ true = rw (ne_eqb l.letter letter_m m, ne_eqb l.letter letter_g g, ne_eqb l.letter letter_e e) at p.p5 in
      ltb-true _ _ h

  pub said_P : l.letter ≡ letter_p → l.a < 32
  unfolding kinds is_of_kind
  said_P e = ltb-true l.a 32 (fits (a_fact ∷ []) (rw e) 0 (omega arith))

  pub said_N : l.letter ≡ letter_n → l.a < r.table.used.nodes
  unfolding kinds is_of_kind
  said_N e = ltb-true l.a r.table.used.nodes (fits (a_node ∷ []) (rw e) 0 (omega arith))

  pub said_two : (l.letter ≡ letter_a) ⊎ (l.letter ≡ letter_o) → (l.a < r.table.used.nodes) × (l.b < r.table.used.nodes)
  unfolding kinds is_of_kind
  said_two c =
      let h = fits (a_node ∷ a_node ∷ []) (⊎_elim (λ e. rw e) (λ e. rw e) c) in
      (ltb-true l.a r.table.used.nodes (h 0 (omega arith)), ltb-true l.b r.table.used.nodes (h 1 (omega arith)))

  pub said_walk : (l.letter ≡ letter_d) ⊎ (l.letter ≡ letter_b) → (l.a < r.table.used.automata) × (l.b < r.table.used.nodes)
  unfolding kinds is_of_kind
  said_walk c =
      let h = fits (an_automaton ∷ a_node ∷ []) (⊎_elim (λ e. rw e) (λ e. rw e) c) in
      (ltb-true l.a r.table.used.automata (h 0 (omega arith)), ltb-true l.b r.table.used.nodes (h 1 (omega arith)))

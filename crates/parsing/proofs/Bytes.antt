-- A formula's work is its instructions, where there is room for them; its two marks say what refusal 54 asks.
use Prim.Native.Nat.{ℕ, suc, ◌+◌, ◌≤◌, ◌<◌}
use mathlib.Core.Path.{◌≡◌, refl, ap, subst, ◌∙◌}
use mathlib.Core.List.{List, [], ◌∷◌, ◌++◌, append_assoc}
use mathlib.Core.Bool.{Bool, true, false, not, ◌&&◌, ◌||◌}
use native.Mathlib.Omega.{arith}
use lib.ListN.{length, length-append}
use borrow.Author.Tests.{lt-ltb}
use Rattle.aldlf.specs.Sheet.{ahead, back, stay}
use Rattle.formula.specs.Formula.{Formula, always, fact, neg, both, either, some, every, Path, step, seq, alt, many}
use Rattle.formula.specs.Outcome.{plain, steps_plain, steps_plain_in}
use Rattle.formula.specs.Code.{code, code_in, code_true, code_keep, code_and, code_or, code_not, code_apply, code_begin, code_some, code_every, code_step, code_keep_part, code_seq, code_alt, code_many}
use Rattle.formula.proofs.Coding.{length_one, length_two}
use Rattle.parsing.specs.Work.{Work, put_in, put, masked, ended, stepped}
use Rattle.parsing.specs.Build.{build, build_in}

-- the two marks
or-and : (x y m : Bool) → not y || (not x || m) ≡ not (x && y) || m
or-and true true m = refl
or-and true false m = refl
or-and false true m = refl
or-and false false m = refl

or-true : (x : Bool) → not x || true ≡ true
or-true true = refl
or-true false = refl

step_stay : (x s : Bool) → (not x || s) || false ≡ not x || s
step_stay true true = refl
step_stay true false = refl
step_stay false s = refl

step_moves : (p x s : Bool) → (not x || s) || (not p || false) ≡ not (p && x) || s
step_moves true true true = refl
step_moves true true false = refl
step_moves true false s = refl
step_moves false true true = refl
step_moves false true false = refl
step_moves false false s = refl

modal-build : (a : Formula) (w : Work) → (build a w).modal ≡ not (plain a) || w.modal
unfolding build put ended
modal-build always w = refl
modal-build (fact f) w = refl
modal-build (neg a) w = modal-build a (put code_not w)
modal-build (both a b) w = modal-build b (put code_keep (build a w)) ∙ ap (λ (z : Bool). not (plain b) || z) (modal-build a w) ∙ or-and (plain a) (plain b) w.modal
modal-build (either a b) w = modal-build b (put code_keep (build a w)) ∙ ap (λ (z : Bool). not (plain b) || z) (modal-build a w) ∙ or-and (plain a) (plain b) w.modal
modal-build (some p a) w = modal-build a (ended code_some (build_in p (put code_begin w))) ∙ or-true (plain a)
modal-build (every p a) w = modal-build a (ended code_every (build_in p (put code_begin w))) ∙ or-true (plain a)

mutual
  unfolding build put ended masked stepped

  pub stray-build : (a : Formula) (w : Work) → (build a w).stray ≡ not (steps_plain a) || w.stray
  stray-build always w = refl
  stray-build (fact f) w = refl
  stray-build (neg a) w = stray-build a (put code_not w)
  stray-build (both a b) w = stray-build b (put code_keep (build a w)) ∙ ap (λ (z : Bool). not (steps_plain b) || z) (stray-build a w) ∙ or-and (steps_plain a) (steps_plain b) w.stray
  stray-build (either a b) w = stray-build b (put code_keep (build a w)) ∙ ap (λ (z : Bool). not (steps_plain b) || z) (stray-build a w) ∙ or-and (steps_plain a) (steps_plain b) w.stray
  stray-build (some p a) w = stray-build a (ended code_some (build_in p (put code_begin w))) ∙ ap (λ (z : Bool). not (steps_plain a) || z) (stray_in p (put code_begin w)) ∙ or-and (steps_plain_in p) (steps_plain a) w.stray
  stray-build (every p a) w = stray-build a (ended code_every (build_in p (put code_begin w))) ∙ ap (λ (z : Bool). not (steps_plain a) || z) (stray_in p (put code_begin w)) ∙ or-and (steps_plain_in p) (steps_plain a) w.stray

  stray_in : (p : Path) (w : Work) → (build_in p w).stray ≡ not (steps_plain_in p) || w.stray
  stray_in (step stay a) w = ap (λ (z : Bool). z || false) (stray-build a (masked w)) ∙ step_stay (steps_plain a) w.stray
  stray_in (step ahead a) w = ap (λ (z : Bool). z || (build a (masked w)).modal) (stray-build a (masked w)) ∙ ap (λ (z : Bool). (not (steps_plain a) || w.stray) || z) (modal-build a (masked w)) ∙ step_moves (plain a) (steps_plain a) w.stray
  stray_in (step back a) w = ap (λ (z : Bool). z || (build a (masked w)).modal) (stray-build a (masked w)) ∙ ap (λ (z : Bool). (not (steps_plain a) || w.stray) || z) (modal-build a (masked w)) ∙ step_moves (plain a) (steps_plain a) w.stray
  stray_in (seq p q) w = stray_in q (put code_keep_part (build_in p w)) ∙ ap (λ (z : Bool). not (steps_plain_in q) || z) (stray_in p w) ∙ or-and (steps_plain_in p) (steps_plain_in q) w.stray
  stray_in (alt p q) w = stray_in q (put code_keep_part (build_in p w)) ∙ ap (λ (z : Bool). not (steps_plain_in q) || z) (stray_in p w) ∙ or-and (steps_plain_in p) (steps_plain_in q) w.stray
  stray_in (many p) w = stray_in p w

module _ (room : ℕ) where
  -- one instruction more, where there is room
  room_put : (b : ℕ) (xs : List ℕ) → length xs < room → put_in room b xs ≡ xs ++ (b ∷ [])
  room_put b xs l = rw (lt-ltb (length xs) room l)

  -- xs is what stood before, ys what came since, and b comes now
  more : (b : ℕ) (xs ys zs : List ℕ) → zs ≡ xs ++ ys → length xs + length ys < room → put_in room b zs ≡ xs ++ (ys ++ (b ∷ []))
  more b xs ys zs e l =
      let h = length-append xs ys in
      ap (put_in room b) e ∙ room_put b (xs ++ ys) (omega arith) ∙ append_assoc xs ys (b ∷ [])

  -- an instruction before and one behind
  around : (b c : ℕ) (ws vs xs : List ℕ) → length ws + (length xs + 2) ≤ room → (length (put_in room b ws) + length xs ≤ room → vs ≡ put_in room b ws ++ xs) → put_in room c vs ≡ ws ++ (b ∷ (xs ++ (c ∷ [])))
  around b c ws vs xs l rec =
      let e = room_put b ws (omega arith) in
      let n : length (put_in room b ws) ≡ length ws + 1 = ap length e ∙ length-append ws (b ∷ []) in
      let v : vs ≡ ws ++ (b ∷ xs) = rec (omega arith) ∙ ap (λ (z : List ℕ). z ++ xs) e ∙ append_assoc ws (b ∷ []) xs in
      more c ws (b ∷ xs) vs v (omega arith)

  -- one between two sides and one behind
  between : (k c : ℕ) (ws us vs xs ys : List ℕ) → length ws + (length xs + length ys + 2) ≤ room → (length ws + length xs ≤ room → us ≡ ws ++ xs) → (length (put_in room k us) + length ys ≤ room → vs ≡ put_in room k us ++ ys)
      → put_in room c vs ≡ ws ++ (xs ++ (k ∷ (ys ++ (c ∷ []))))
  between k c ws us vs xs ys l left right =
      let e = more k ws xs us (left (omega arith)) (omega arith) in
      let h = length-append xs (k ∷ []) in
      let n : length (put_in room k us) ≡ length ws + (length xs + 1) = ap length e ∙ length-append ws (xs ++ (k ∷ [])) ∙ ap (λ (z : ℕ). length ws + z) h in
      let v : vs ≡ ws ++ ((xs ++ (k ∷ [])) ++ ys) = right (omega arith) ∙ ap (λ (z : List ℕ). z ++ ys) e ∙ append_assoc ws (xs ++ (k ∷ [])) ys in
      let m = length-append (xs ++ (k ∷ [])) ys in
      more c ws ((xs ++ (k ∷ [])) ++ ys) vs v (omega arith) ∙ ap (λ (z : List ℕ). ws ++ z) (append_assoc (xs ++ (k ∷ [])) ys (c ∷ []) ∙ append_assoc xs (k ∷ []) (ys ++ (c ∷ [])))

  -- a path mark: one before the path, one between it and the formula, one behind
  mark : (b k c : ℕ) (ws us vs xs ys : List ℕ) → length ws + (length xs + length ys + 3) ≤ room → (length (put_in room b ws) + length xs ≤ room → us ≡ put_in room b ws ++ xs) → (length (put_in room k us) + length ys ≤ room → vs ≡ put_in room k us ++ ys)
      → put_in room c vs ≡ ws ++ (b ∷ (xs ++ (k ∷ (ys ++ (c ∷ [])))))
  mark b k c ws us vs xs ys l left right =
      let e = room_put b ws (omega arith) in
      let n : length (put_in room b ws) ≡ length ws + 1 = ap length e ∙ length-append ws (b ∷ []) in
      between k c (put_in room b ws) us vs xs ys (omega arith) left right ∙ ap (λ (z : List ℕ). z ++ (xs ++ (k ∷ (ys ++ (c ∷ []))))) e ∙ append_assoc ws (b ∷ []) (xs ++ (k ∷ (ys ++ (c ∷ []))))

-- nothing changes the room
mutual
  unfolding build put ended masked stepped

  room-build : (a : Formula) (w : Work) → (build a w).room ≡ w.room
  room-build always w = refl
  room-build (fact f) w = refl
  room-build (neg a) w = room-build a (put code_not w)
  room-build (both a b) w = room-build b (put code_keep (build a w)) ∙ room-build a w
  room-build (either a b) w = room-build b (put code_keep (build a w)) ∙ room-build a w
  room-build (some p a) w = room-build a (ended code_some (build_in p (put code_begin w))) ∙ room_in p (put code_begin w)
  room-build (every p a) w = room-build a (ended code_every (build_in p (put code_begin w))) ∙ room_in p (put code_begin w)

  room_in : (p : Path) (w : Work) → (build_in p w).room ≡ w.room
  room_in (step d a) w = room-build a (masked w)
  room_in (seq p q) w = room_in q (put code_keep_part (build_in p w)) ∙ room_in p w
  room_in (alt p q) w = room_in q (put code_keep_part (build_in p w)) ∙ room_in p w
  room_in (many p) w = room_in p w

-- what is said of one room, of another that is the same
abbrev Behind : (k : ℕ) (us vs ys : List ℕ) → ℕ → Type 0
Behind k us vs ys room = length (put_in room k us) + length ys ≤ room → vs ≡ put_in room k us ++ ys

-- what is shown of a formula and of a path, whatever was written before
abbrev Says : Formula → Type 0
Says a = (w : Work) → length w.bytes + length (code a) ≤ w.room → (build a w).bytes ≡ w.bytes ++ code a

abbrev SaysIn : Path → Type 0
SaysIn p = (w : Work) → length w.bytes + length (code_in p) ≤ w.room → (build_in p w).bytes ≡ w.bytes ++ code_in p

sides : (a b : Formula) (c : ℕ) (w : Work) → length w.bytes + length (code a ++ (code_keep ∷ (code b ++ (c ∷ [])))) ≤ w.room → Says a → Says b
    → (put c (build b (put code_keep (build a w)))).bytes ≡ w.bytes ++ (code a ++ (code_keep ∷ (code b ++ (c ∷ []))))
unfolding build put ended masked stepped
sides a b c w l ra rb =
    let u = build a w in
    let v = build b (put code_keep u) in
    let h = length_two (code a) (code b) code_keep c in
    ap (λ (z : ℕ). put_in z c v.bytes) (room-build b (put code_keep u) ∙ room-build a w)
    ∙ between w.room code_keep c w.bytes u.bytes v.bytes (code a) (code b) (omega arith) (λ m. ra w m) (subst (Behind code_keep u.bytes v.bytes (code b)) (room-build a w) (λ m. rb (put code_keep u) m))

marked : (p : Path) (a : Formula) (c : ℕ) (w : Work) → length w.bytes + suc (length (code_in p ++ (c ∷ (code a ++ (code_apply ∷ []))))) ≤ w.room → SaysIn p → Says a
    → (put code_apply (build a (ended c (build_in p (put code_begin w))))).bytes ≡ w.bytes ++ (code_begin ∷ (code_in p ++ (c ∷ (code a ++ (code_apply ∷ [])))))
unfolding build put ended masked stepped
marked p a c w l rp ra =
    let u = build_in p (put code_begin w) in
    let v = build a (ended c u) in
    let h = length_two (code_in p) (code a) c code_apply in
    ap (λ (z : ℕ). put_in z code_apply v.bytes) (room-build a (ended c u) ∙ room_in p (put code_begin w))
    ∙ mark w.room code_begin c code_apply w.bytes u.bytes v.bytes (code_in p) (code a) (omega arith) (λ m. rp (put code_begin w) m) (subst (Behind c u.bytes v.bytes (code a)) (room_in p (put code_begin w)) (λ m. ra (ended c u) m))

parts : (p q : Path) (c : ℕ) (w : Work) → length w.bytes + length (code_in p ++ (code_keep_part ∷ (code_in q ++ (c ∷ [])))) ≤ w.room → SaysIn p → SaysIn q
    → (put c (build_in q (put code_keep_part (build_in p w)))).bytes ≡ w.bytes ++ (code_in p ++ (code_keep_part ∷ (code_in q ++ (c ∷ []))))
unfolding build put ended masked stepped
parts p q c w l rp rq =
    let u = build_in p w in
    let v = build_in q (put code_keep_part u) in
    let h = length_two (code_in p) (code_in q) code_keep_part c in
    ap (λ (z : ℕ). put_in z c v.bytes) (room_in q (put code_keep_part u) ∙ room_in p w)
    ∙ between w.room code_keep_part c w.bytes u.bytes v.bytes (code_in p) (code_in q) (omega arith) (λ m. rp w m) (subst (Behind code_keep_part u.bytes v.bytes (code_in q)) (room_in p w) (λ m. rq (put code_keep_part u) m))

mutual
  unfolding build put ended masked stepped

  pub bytes_build : (a : Formula) → Says a
  bytes_build always w l = room_put w.room code_true w.bytes (omega arith)
  bytes_build (fact f) w l = room_put w.room f w.bytes (omega arith)
  bytes_build (neg a) w l =
      let v = build a (put code_not w) in
      let h = length_one (code a) code_apply in
      ap (λ (z : ℕ). put_in z code_apply v.bytes) (room-build a (put code_not w)) ∙ around w.room code_not code_apply w.bytes v.bytes (code a) (omega arith) (λ m. bytes_build a (put code_not w) m)
  bytes_build (both a b) w l = sides a b code_and w l (λ u k. bytes_build a u k) (λ u k. bytes_build b u k)
  bytes_build (either a b) w l = sides a b code_or w l (λ u k. bytes_build a u k) (λ u k. bytes_build b u k)
  bytes_build (some p a) w l = marked p a code_some w l (λ u k. bytes_in p u k) (λ u k. bytes_build a u k)
  bytes_build (every p a) w l = marked p a code_every w l (λ u k. bytes_in p u k) (λ u k. bytes_build a u k)

  bytes_in : (p : Path) → SaysIn p
  bytes_in (step d a) w l =
      let v = build a (masked w) in
      let h = length_one (code a) (code_step d) in
      ap (λ (z : ℕ). put_in z (code_step d) v.bytes) (room-build a (masked w)) ∙ more w.room (code_step d) w.bytes (code a) v.bytes (bytes_build a (masked w) (omega arith)) (omega arith)
  bytes_in (seq p q) w l = parts p q code_seq w l (λ u k. bytes_in p u k) (λ u k. bytes_in q u k)
  bytes_in (alt p q) w l = parts p q code_alt w l (λ u k. bytes_in p u k) (λ u k. bytes_in q u k)
  bytes_in (many p) w l =
      let h = length_one (code_in p) code_many in
      ap (λ (z : ℕ). put_in z code_many (build_in p w).bytes) (room_in p w) ∙ more w.room code_many w.bytes (code_in p) (build_in p w).bytes (bytes_in p w (omega arith)) (omega arith)

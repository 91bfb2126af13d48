-- One entry: a mask closed by its columns is closed by its edges.
use Prim.Native.Nat.{ℕ, zero, suc, ◌+◌, ◌*◌, ◌^◌, ◌≤◌, ◌<◌}
use native.Mathlib.Omega.{arith}
use mathlib.Core.Path.{◌≡◌, refl, sym, subst, ap, ◌∙◌}
use mathlib.Core.Logic.{◌⊎◌, inl, inr}
use mathlib.Core.Bool.{Bool, true, false, not, ◌&&◌, ◌||◌, true≢false}
use mathlib.Core.List.{List}
use lib.Bits.{bit_or, or_lt}
use lib.Dec.{eqb}
use lib.ListN.{length}
use borrow.Author.Tests.{eqb-true, ne_eqb}
use Rattle.aldlf.specs.Constants.{state_limit}
use Rattle.aldlf.specs.Sheet.{bit}
use Rattle.aldlf.proofs.Bools.{bool_cases}
use Rattle.reach.specs.Marks.{at, from_of, to_of, dir_in, EdgesFit}
use Rattle.reach.specs.Columns.{group_of, Told, Step, Columns}
use Rattle.reach.specs.Steps.{side_of, lands_in, Pulls, Beside, Closed}
use Rattle.reach.proofs.Bits.{bit-zero, le_or, in_left, in_right, in_either}

-- Directions by their groups ------------------------------------------------------------------------------------------------------

pub group_back : (d : ℕ) → 2 ≤ d → group_of d ≡ 2
group_back d l = rw (ne_eqb d 0 (λ z. omega arith), ne_eqb d 1 (λ z. omega arith)) refl

-- what P says of where an edge of a direction goes, by its group
stays_in : (d x y : ℕ) (P : ℕ → Bool) (to : ℕ) → group_of d ≡ 0 → P to ≡ true → lands_in d x y P to ≡ true
stays_in zero x y P to g p = p
stays_in (suc zero) x y P to g p = absurd (omega arith)
stays_in (suc (suc d)) x y P to g p = absurd (omega (arith, group_back (suc (suc d)) (omega arith)))

ahead_in : (d x y : ℕ) (P : ℕ → Bool) (to : ℕ) → group_of d ≡ 1 → bit x to ≡ true → lands_in d x y P to ≡ true
ahead_in zero x y P to g p = absurd (omega arith)
ahead_in (suc zero) x y P to g p = p
ahead_in (suc (suc d)) x y P to g p = absurd (omega (arith, group_back (suc (suc d)) (omega arith)))

back_in : (d x y : ℕ) (P : ℕ → Bool) (to : ℕ) → group_of d ≡ 2 → bit y to ≡ true → lands_in d x y P to ≡ true
back_in zero x y P to g p = absurd (omega arith)
back_in (suc zero) x y P to g p = absurd (omega arith)
back_in (suc (suc d)) x y P to g p = rw (ne_eqb (suc (suc d)) 0 (λ z. omega arith), ne_eqb (suc (suc d)) 1 (λ z. omega arith)) p

-- a no of the test whether edges that stay are looked at
looked : (a b c : Bool) → a ≡ true → a && (b || not c) ≡ false → (b ≡ false) × (c ≡ true)
looked a true c e p = absurd (true≢false (sym (rw e refl) ∙ p))
looked a false true e p = (refl, refl)
looked a false false e p = absurd (true≢false (sym (rw e refl) ∙ p))

module _ (E : List ℕ) (f : EdgesFit E) (looks due : ℕ) (told : Told E looks (length E)) (word ahead behind : ℕ) (C : List ℕ) (p : ℕ) (K : Columns E word C p) (start x y w : ℕ)
    (A : Beside (bit due 1) C (p + 16) ahead x) (B : Beside (bit due 2) C (p + 32) behind y)
    (G : Beside (bit looks 0 && (bit due 0 || not (eqb (bit_or (bit_or start x) y) start))) C p (bit_or (bit_or start x) y) w) where
  abbrev grown : ℕ
  grown = bit_or (bit_or start x) y

  abbrev r : ℕ
  r = bit_or grown w

  from_start : (s : ℕ) → bit start s ≡ true → bit (bit_or (bit_or (bit_or start x) y) w) s ≡ true
  from_start s b = in_left grown w s (in_left (bit_or start x) y s (in_left start x s b))

  -- a step pulls its state, where P is right of where it goes
  pulled : (P : ℕ → Bool) → Pulls E word ahead behind P → (g s t : ℕ) → (S : Step E word (length E) g s t) → lands_in (dir_in (at E S.edge)) ahead behind P t ≡ true → P s ≡ true
  pulled P u g s t S b = subst (λ (z : ℕ). P z ≡ true) S.from
      (u S.edge S.early S.holds (subst (λ (z : ℕ). lands_in (dir_in (at E S.edge)) ahead behind P z ≡ true) (sym S.lands) b))

  seed : (P : ℕ → Bool) → ((s : ℕ) → s < state_limit → bit start s ≡ true → P s ≡ true) → Pulls E word ahead behind P → (s : ℕ) → s < state_limit → bit (bit_or (bit_or start x) y) s ≡ true → P s ≡ true
  seed P q u s l b = go (in_either (bit_or start x) y s b)
    where
      by-ahead : bit x s ≡ true → P s ≡ true
      by-ahead b =
          let t = A.sound s b in
          let S = K.only 1 t.0 s (omega arith) (omega arith) t.1 l (subst (λ (z : ℕ). bit (at C z) s ≡ true) (omega arith) t.3) in
          pulled P u 1 s t.0 S (ahead_in (dir_in (at E S.edge)) ahead behind P t.0 S.group t.2)

      by-back : bit y s ≡ true → P s ≡ true
      by-back b =
          let t = B.sound s b in
          let S = K.only 2 t.0 s (omega arith) (omega arith) t.1 l (subst (λ (z : ℕ). bit (at C z) s ≡ true) (omega arith) t.3) in
          pulled P u 2 s t.0 S (back_in (dir_in (at E S.edge)) ahead behind P t.0 S.group t.2)

      either : (bit start s ≡ true) ⊎ (bit x s ≡ true) → P s ≡ true
      either (inl b) = q s l b
      either (inr b) = by-ahead b

      go : (bit (bit_or start x) s ≡ true) ⊎ (bit y s ≡ true) → P s ≡ true
      go (inl b) = either (in_either start x s b)
      go (inr b) = by-back b

  stay : (P : ℕ → Bool) → Pulls E word ahead behind P → (s t : ℕ) → Step E word (length E) 0 s t → P t ≡ true → P s ≡ true
  stay P u s t S b = pulled P u 0 s t S (stays_in (dir_in (at E S.edge)) ahead behind P t S.group b)

  sound : (P : ℕ → Bool) → ((s : ℕ) → s < state_limit → bit start s ≡ true → P s ≡ true) → Pulls E word ahead behind P
      → (s : ℕ) → s < state_limit → bit (bit_or (bit_or (bit_or start x) y) w) s ≡ true → P s ≡ true
  sound P q u s l b = go (in_either grown w s b)
    where
      go : (bit (bit_or (bit_or start x) y) s ≡ true) ⊎ (bit w s ≡ true) → P s ≡ true
      go (inl b) = seed P q u s l b
      go (inr b) = let t = G.sound s b in K.sound P (stay P u) s t.0 l t.1 t.3 (seed P q u t.0 t.1 t.2)

  -- An edge settled: one that stays
  module _ (e : ℕ) (le : e < length E) where
    abbrev from : ℕ
    from = from_of (at E e)

    abbrev to : ℕ
    to = to_of (at E e)

    stay_on : bit looks 0 && (bit due 0 || not (eqb (bit_or (bit_or start x) y) start)) ≡ true → bit (at C (p + to_of (at E e))) (from_of (at E e)) ≡ true
        → bit (bit_or (bit_or (bit_or start x) y) w) (to_of (at E e)) ≡ true → bit (bit_or (bit_or (bit_or start x) y) w) (from_of (at E e)) ≡ true
    stay_on on col b = in_right grown w from (go (in_either grown w to b))
      where
        go : (bit (bit_or (bit_or start x) y) (to_of (at E e)) ≡ true) ⊎ (bit w (to_of (at E e)) ≡ true) → bit w (from_of (at E e)) ≡ true
        go (inl b) = G.all on from to (f.each e le).to_fits b col
        go (inr b) = let t = G.sound to b in
            G.all on from t.0 t.1 t.2 (K.through from to t.0 (f.each e le).from_fits (f.each e le).to_fits t.1 col t.3)

    stay_off : bit looks 0 && (bit due 0 || not (eqb (bit_or (bit_or start x) y) start)) ≡ false → bit looks 0 ≡ true → (bit due 0 ≡ false → bit start (to_of (at E e)) ≡ true → bit start (from_of (at E e)) ≡ true)
        → bit (bit_or (bit_or (bit_or start x) y) w) (to_of (at E e)) ≡ true → bit (bit_or (bit_or (bit_or start x) y) w) (from_of (at E e)) ≡ true
    stay_off off there given b =
        let no = looked (bit looks 0) (bit due 0) (eqb grown start) there off in
        let same : grown ≡ start = eqb-true grown start no.1 in
        from_start from (given no.0 (go same (in_either grown w to b)))
      where
        go : bit_or (bit_or start x) y ≡ start → (bit (bit_or (bit_or start x) y) (to_of (at E e)) ≡ true) ⊎ (bit w (to_of (at E e)) ≡ true) → bit start (to_of (at E e)) ≡ true
        go same (inl b) = ap (λ (z : ℕ). bit z to) (sym same) ∙ b
        go same (inr b) = absurd (true≢false (sym b ∙ ap (λ (z : ℕ). bit z to) (G.none off) ∙ bit-zero to))

    -- one that leaves: looked at, or settled before
    leaves : (g z m : ℕ) → Beside (bit due g) C (p + 16 * g) m z → ((s : ℕ) → bit z s ≡ true → bit (bit_or (bit_or (bit_or start x) y) w) s ≡ true)
        → bit (at C (p + (16 * g + to_of (at E e)))) (from_of (at E e)) ≡ true → (bit due g ≡ false → bit start (from_of (at E e)) ≡ true)
        → bit m (to_of (at E e)) ≡ true → bit (bit_or (bit_or (bit_or start x) y) w) (from_of (at E e)) ≡ true
    leaves g z m D into col given b = go (bool_cases (bit due g))
      where
        go : (bit due g ≡ true) ⊎ (bit due g ≡ false) → bit (bit_or (bit_or (bit_or start x) y) w) (from_of (at E e)) ≡ true
        go (inl on) = into from (D.all on from to (f.each e le).to_fits b (subst (λ (q : ℕ). bit (at C q) from ≡ true) (omega arith) col))
        go (inr off) = from_start from (given off)

    settled : (d : ℕ) → dir_in (at E e) ≡ d → bit (at C (p + (16 * group_of d + to_of (at E e)))) (from_of (at E e)) ≡ true
        → (bit due (group_of d) ≡ false → bit (side_of d start ahead behind) (to_of (at E e)) ≡ true → bit start (from_of (at E e)) ≡ true)
        → bit (side_of d (bit_or (bit_or (bit_or start x) y) w) ahead behind) (to_of (at E e)) ≡ true → bit (bit_or (bit_or (bit_or start x) y) w) (from_of (at E e)) ≡ true
    settled zero d col given b = go (bool_cases (bit looks 0 && (bit due 0 || not (eqb grown start))))
      where
        go : (bit looks 0 && (bit due 0 || not (eqb (bit_or (bit_or start x) y) start)) ≡ true) ⊎ (bit looks 0 && (bit due 0 || not (eqb (bit_or (bit_or start x) y) start)) ≡ false)
            → bit (bit_or (bit_or (bit_or start x) y) w) (from_of (at E e)) ≡ true
        go (inl on) = stay_on on (subst (λ (q : ℕ). bit (at C q) from ≡ true) (omega arith) col) b
        go (inr off) = stay_off off (ap (λ (d : ℕ). bit looks (group_of d)) (sym d) ∙ told e le) given b
    settled (suc zero) d col given b = leaves 1 x ahead A (λ s h. in_left grown w s (in_left (bit_or start x) y s (in_right start x s h))) col (λ off. given off b) b
    settled (suc (suc d)) eq col given b =
        let g2 : group_of (suc (suc d)) ≡ 2 = group_back (suc (suc d)) (omega arith) in
        let side : (z : ℕ) → side_of (suc (suc d)) z ahead behind ≡ behind = λ z. rw (ne_eqb (suc (suc d)) 0 (λ z. omega arith), ne_eqb (suc (suc d)) 1 (λ z. omega arith)) refl in
        let at_back : bit behind to ≡ true = ap (λ (z : ℕ). bit z to) (sym (side r)) ∙ b in
        leaves 2 y behind B (λ s h. in_left grown w s (in_right (bit_or start x) y s h)) (subst (λ (g : ℕ). bit (at C (p + (16 * g + to))) from ≡ true) g2 col)
        (λ off. given (ap (bit due) g2 ∙ off) (ap (λ (z : ℕ). bit z to) (side start) ∙ at_back)) at_back

  pub closed_columns : Closed E word ahead behind due start (bit_or (bit_or (bit_or start x) y) w)
  closed_columns = record {
    keeps = from_start;
    sound = sound;
    still = λ e le given h b. settled e le (dir_in (at E e)) refl (K.have e le h) (λ off s. given off h s) b;
  }

pub closed_size : (start x y w : ℕ) → start < 2 ^ state_limit → x < 2 ^ state_limit → y < 2 ^ state_limit → w < 2 ^ state_limit
    → (start ≤ bit_or (bit_or (bit_or start x) y) w) × (bit_or (bit_or (bit_or start x) y) w < 2 ^ state_limit)
closed_size start x y w a b c d = (
  omega (arith, le_or start x, le_or (bit_or start x) y, le_or (bit_or (bit_or start x) y) w),
  or_lt state_limit (bit_or (bit_or start x) y) w (or_lt state_limit (bit_or start x) y (or_lt state_limit start x a b) c) d,
)

-- With the plain row the meaning of a part is Definition 4, so the verdict on a whole log is Definition 4's.
use Prim.Native.Nat.{ℕ, zero, suc, ◌<◌}
use native.Mathlib.Omega.{arith}
use mathlib.Core.Path.{◌≡◌, refl, sym, ap, ◌∙◌}
use mathlib.Core.Logic.Iff
use mathlib.Core.Logic.{◌⊎◌, inl, inr, ◌↔◌}
use mathlib.Core.Bool.{Bool, true, false, false≢true}
use mathlib.Core.List.{List, [], ◌∷◌}
use lib.Dec.{eqb}
use lib.ListN.{length}
use Rattle.aldlf.specs.Sheet.{Sheet, Line, T, F, P, N, A, O, D, B}
use Rattle.aldlf.specs.Meaning.{Values, Walk, SomeWalk, EveryWalk, Says, SaysFrom, Nodes, Below, Holds, choose}
use Rattle.aldlf.specs.Parts.{SomeOut, EveryOut, SaysIn, BelowIn, SaysInFrom, row_entry, RowGives}
use Rattle.aldlf.specs.Verdict.{plain_line, plain, verdict, row_of}
use Rattle.aldlf.specs.Run.{RowSays}
use Rattle.aldlf.specs.declared.Way.{Way}
use Rattle.aldlf.proofs.Reach.{moves_in}
use Rattle.aldlf.proofs.Agree.{walk_in, judge_iff, entry_in, row_of_iff}

-- a walk is a walk under whatever holds at least as much
pub walk_map : (S : Sheet) (n m : ℕ) (H H' : Values) → ((k i : ℕ) → i < n → H k i → H' k i)
    → (es : List ℕ) (s i s' j : ℕ) → i < n → Walk S H n m es s i s' j → Walk S H' n m es s i s' j
walk_map S n m H H' f [] s i s' j l w = w
walk_map S n m H H' f (e ∷ es) s i s' j l (t, (h, mv, w)) = (
  record { above = t.above; below = t.below; leaves = t.leaves; holds = f (S.edge e).test i l t.holds },
  (h, mv, walk_map S n m H H' f es (S.edge e).to h s' j (moves_in n (S.edge e).dir i h l mv) w),
)

module _ (S : Sheet) (log : List ℕ) where
  module _ (H H' : Values) (f : (k i : ℕ) → i < length log → H k i ↔ H' k i) (k m a : ℕ) where
    abbrev n : ℕ
    n = length log

    some_plain : S.line k ≡ D m a → (s i : ℕ) → i < length log → SomeOut S H (length log) (plain S) k m a s i ↔ SomeWalk S H' (length log) m a s i
    some_plain e s i b = (there, hence)
      where
        there : SomeOut S H (length log) (plain S) k m a s i → SomeWalk S H' (length log) m a s i
        there (inl (j, (es, s', w, g), v)) =
            (j, (es, s', walk_map S n m H H' (λ k i l. (f k i l).0) es s i s' j b w, g), (f a j (walk_in S H n m es s i s' j b w)).0 v)
        there (inr (u, x, r)) = absurd (false≢true (sym (ap plain_line e) ∙ r))

        hence : SomeWalk S H' (length log) m a s i → SomeOut S H (length log) (plain S) k m a s i
        hence (j, (es, s', w, g), v) =
            inl (j, (es, s', walk_map S n m H' H (λ k i l. (f k i l).1) es s i s' j b w, g), (f a j (walk_in S H' n m es s i s' j b w)).1 v)

    every_plain : S.line k ≡ B m a → (s i : ℕ) → i < length log → EveryOut S H (length log) (plain S) k m a s i ↔ EveryWalk S H' (length log) m a s i
    every_plain e s i b = (there, hence)
      where
        there : EveryOut S H (length log) (plain S) k m a s i → EveryWalk S H' (length log) m a s i
        there (ev, ex) j (es, s', w, g) =
            (f a j (walk_in S H' n m es s i s' j b w)).0 (ev j (es, s', walk_map S n m H' H (λ k i l. (f k i l).1) es s i s' j b w, g))

        hence : EveryWalk S H' (length log) m a s i → EveryOut S H (length log) (plain S) k m a s i
        hence ev = (walks, λ u x. ap plain_line e)
          where
            walks : EveryWalk S H (length log) m a s i
            walks j (es, s', w, g) =
                (f a j (walk_in S H n m es s i s' j b w)).1 (ev j (es, s', walk_map S n m H H' (λ k i l. (f k i l).0) es s i s' j b w, g))

  says_plain : (H H' : Values) → ((k i : ℕ) → i < length log → H k i ↔ H' k i)
      → (k : ℕ) (l : Line) → S.line k ≡ l → (i : ℕ) → i < length log → SaysIn S log (plain S) H k l i ↔ Says S log H' l i
  says_plain H H' f k T e i b = (λ z. z, λ z. z)
  says_plain H H' f k F e i b = (λ z. z, λ z. z)
  says_plain H H' f k (P x) e i b = (λ z. z, λ z. z)
  says_plain H H' f k (N a) e i b = (λ z v. z ((f a i b).1 v), λ z v. z ((f a i b).0 v))
  says_plain H H' f k (A a c) e i b = (λ z. ((f a i b).0 z.0, (f c i b).0 z.1), λ z. ((f a i b).1 z.0, (f c i b).1 z.1))
  says_plain H H' f k (O a c) e i b = (there, hence)
    where
      there : H a i ⊎ H c i → H' a i ⊎ H' c i
      there (inl v) = inl ((f a i b).0 v)
      there (inr v) = inr ((f c i b).0 v)

      hence : H' a i ⊎ H' c i → H a i ⊎ H c i
      hence (inl v) = inl ((f a i b).1 v)
      hence (inr v) = inr ((f c i b).1 v)
  says_plain H H' f k (D m a) e i b = some_plain H H' f k m a e (S.automaton m).start i b
  says_plain H H' f k (B m a) e i b = every_plain H H' f k m a e (S.automaton m).start i b

  pub plain_iff : (n k i : ℕ) → i < length log → BelowIn S log (plain S) n k i ↔ Below S log n k i
  unfolding Nodes
  plain_iff zero k i l = (λ z. z, λ z. z)
  plain_iff (suc n) k i l = go (eqb k n) (plain_iff n)
    where
      go : (b : Bool) → ((k' i' : ℕ) → i' < length log → BelowIn S log (plain S) n k' i' ↔ Below S log n k' i')
          → choose b (SaysIn S log (plain S) (BelowIn S log (plain S) n) n (S.line n) i) (BelowIn S log (plain S) n k i)
          ↔ choose b (Says S log (Below S log n) (S.line n) i) (Below S log n k i)
      go true rec = says_plain (BelowIn S log (plain S) n) (Below S log n) rec n (S.line n) refl i l
      go false rec = rec k i l

  -- THE VERDICT ON A WHOLE LOG is Definition 4's, at every entry
  pub verdict_iff : (k i : ℕ) → i < length log → (verdict S log k i ≡ true) ↔ Holds S log k i
  verdict_iff k i l = Iff.trans (judge_iff S log (plain S) (suc k) k i l) (plain_iff (suc k) k i l)

  from_plain : (k : ℕ) (l : Line) → S.line k ≡ l → (s i : ℕ) → i < length log
      → SaysInFrom S log (plain S) (BelowIn S log (plain S) k) k l s i ↔ SaysFrom S log (Below S log k) l s i
  from_plain k T e s i b = (λ z. z, λ z. z)
  from_plain k F e s i b = (λ z. z, λ z. z)
  from_plain k (P f) e s i b = (λ z. z, λ z. z)
  from_plain k (N a) e s i b = (λ z. z, λ z. z)
  from_plain k (A a c) e s i b = (λ z. z, λ z. z)
  from_plain k (O a c) e s i b = (λ z. z, λ z. z)
  from_plain k (D m a) e s i b = some_plain (BelowIn S log (plain S) k) (Below S log k) (plain_iff k) k m a e s i b
  from_plain k (B m a) e s i b = every_plain (BelowIn S log (plain S) k) (Below S log k) (plain_iff k) k m a e s i b

-- the row of a log, given the plain row, is Definition 4's
row_plain : (w : Way) (S : Sheet) (log : List ℕ) (k s : ℕ) → RowGives w S log (plain S) k s ↔ RowSays w S log k s
row_plain w S [] k s = (λ z. z, λ z. z)
row_plain w S (x ∷ xs) k s =
    let f = from_plain S (x ∷ xs) k (S.line k) refl s (row_entry w (length (x ∷ xs))) (entry_in w (length (x ∷ xs)) (omega arith)) in
    (λ z. (z.0, f.0 z.1), λ z. (z.0, f.1 z.1))

pub row_iff : (w : Way) (S : Sheet) (log : List ℕ) (k s : ℕ) → (row_of w S log (plain S) k s ≡ true) ↔ RowSays w S log k s
row_iff w S log k s = Iff.trans (row_of_iff w S log (plain S) k s) (row_plain w S log k s)

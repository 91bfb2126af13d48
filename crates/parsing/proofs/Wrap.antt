-- Prefixes: the instructions of those that were read, and as many times the one that makes a prefix's node behind the atom, are those of the formula. And where an operand's reading stands.
use Prim.Native.Nat.{ℕ, suc, ◌+◌, ◌≤◌, ◌<◌}
use mathlib.Core.Path.{◌≡◌, refl, ap, sym, ◌∙◌}
use mathlib.Core.List.{List, [], ◌∷◌}
use mathlib.Core.Bool.{true, false}
use native.Mathlib.Omega.{arith}
use native.Mathlib.Numerals.{add-one}
use lib.ListN.{length}
use Rattle.formula.specs.Formula.{Formula, neg, some, every}
use Rattle.formula.specs.Parse.{Got, ok, bad, deep, Inner, Prefix, bang, angle, square, wrap, map_got, is_prefix, prefixed, byte, atom_at, prefix_at, operand_from}
use Rattle.parsing.specs.Work.{Work, applied}
use Rattle.parsing.specs.Build.{build, Seen, got_of, opened}
use Rattle.parsing.proofs.Laws.{fuel_down}
use Rattle.parsing.proofs.Chain.{Read, is, read_ok, read_fail}

-- the prefixes that were read, the last one first, on a work
unfoldable pub begun : List Prefix → Work → Work
begun [] w = w
begun (p ∷ ps) w = opened p (begun ps w)

wrap_law : (ps : List Prefix) (a : Formula) (w : Work) → applied (length ps) (build a (begun ps w)) ≡ build (wrap ps a) w
unfolding begun applied build opened
wrap_law [] a w = refl
wrap_law (bang ∷ ps) a w = wrap_law ps (neg a) w
wrap_law (angle p ∷ ps) a w = wrap_law ps (some p a) w
wrap_law (square p ∷ ps) a w = wrap_law ps (every p a) w

module _ (text : List ℕ) (I : Inner) where
  -- where an operand's reading stands, with so many prefixes read
  pub record Waits (whole : Got Formula) (w₀ : Work) (at count : ℕ) (w : Work) : Type 0 where
    pub ps : List Prefix
    pub n : ℕ
    pub fuel : length text ≤ at + n
    pub counted : count ≡ length ps
    pub few : count ≤ at
    pub works : w ≡ begun ps w₀
    pub rest : whole ≡ operand_from text I (suc n) ps at

  pub waits_start : (w₀ : Work) (at : ℕ) → Waits (operand_from text I (suc (length text)) [] at) w₀ at 0 w₀
  unfolding begun
  waits_start w₀ at = record { ps = []; n = length text; fuel = omega arith; counted = refl; few = omega arith; works = refl; rest = refl }

  from_prefix : (n : ℕ) (ps : List Prefix) (at : ℕ) → is_prefix (byte text at) ≡ true → operand_from text I (suc n) ps at ≡ prefixed (operand_from text I n) ps (prefix_at text I at)
  unfolding operand_from
  from_prefix n ps at e = rw e

  from_atom : (n : ℕ) (ps : List Prefix) (at : ℕ) → is_prefix (byte text at) ≡ false → operand_from text I (suc n) ps at ≡ map_got (wrap ps) (atom_at text I at)
  unfolding operand_from
  from_atom n ps at e = rw e

  wrapped_map : (ps : List Prefix) (w₀ : Work) (g : Got Formula)
      → map_got (applied (length ps)) (map_got (λ (a : Formula). build a (begun ps w₀)) g) ≡ map_got (λ (a : Formula). build a w₀) (map_got (wrap ps) g)
  wrapped_map ps w₀ (ok a to) = ap (λ (z : Work). ok z to) (wrap_law ps a w₀)
  wrapped_map ps w₀ (bad to) = refl
  wrapped_map ps w₀ (deep to) = refl

  pub waits_end : {whole : Got Formula} {w₀ : Work} {at count : ℕ} {w : Work} → Waits whole w₀ at count w → is_prefix (byte text at) ≡ false → (q r : Seen)
      → got_of q ≡ map_got (λ (a : Formula). build a w) (atom_at text I at) → got_of r ≡ map_got (applied count) (got_of q) → got_of r ≡ map_got (λ (a : Formula). build a w₀) whole
  waits_end {whole} {w₀} {at} {count} {w} i e q r h k =
      k ∙ ap (λ (z : Got Work). map_got (applied count) z) (h ∙ ap (λ (z : Work). map_got (λ (a : Formula). build a z) (atom_at text I at)) i.works)
      ∙ ap (λ (z : ℕ). map_got (applied z) (map_got (λ (a : Formula). build a (begun i.ps w₀)) (atom_at text I at))) i.counted
      ∙ wrapped_map i.ps w₀ (atom_at text I at)
      ∙ ap (λ (z : Got Formula). map_got (λ (a : Formula). build a w₀) z) (sym (i.rest ∙ from_atom i.n i.ps at e))

  pub waits_fail : {whole : Got Formula} {w₀ : Work} {at count : ℕ} {w : Work} → Waits whole w₀ at count w → is_prefix (byte text at) ≡ true → (p : Seen)
      → got_of p ≡ map_got (λ (x : Prefix). opened x w) (prefix_at text I at) → ¬ (p.number ≡ 0) → got_of p ≡ map_got (λ (a : Formula). build a w₀) whole
  waits_fail {whole} {w₀} {at} {count} {w} i e p h ne =
      read_fail (λ (x : Prefix). opened x w) (λ (a : Formula). build a w₀) p (prefix_at text I at) whole h ne
      (λ to k. i.rest ∙ from_prefix i.n i.ps at e ∙ ap (λ (z : Got Prefix). prefixed (operand_from text I i.n) i.ps z) k)
      (λ to k. i.rest ∙ from_prefix i.n i.ps at e ∙ ap (λ (z : Got Prefix). prefixed (operand_from text I i.n) i.ps z) k)

  pub waits_more : {whole : Got Formula} {w₀ : Work} {at count : ℕ} {w : Work} → Waits whole w₀ at count w → is_prefix (byte text at) ≡ true → at < length text → (p : Seen)
      → got_of p ≡ map_got (λ (x : Prefix). opened x w) (prefix_at text I at) → p.number ≡ 0 → at < p.at → Waits whole w₀ p.at (count + 1) p.work
  unfolding begun
  waits_more {whole} {w₀} {at} {count} {w} i e l p h z k = go (prefix_at text I at) (read_ok (λ (x : Prefix). opened x w) p (prefix_at text I at) h z) (i.rest ∙ from_prefix i.n i.ps at e)
    where
      go : (g : Got Prefix) → Read (λ (x : Prefix). opened x w) p g → whole ≡ prefixed (operand_from text I i.n) i.ps g → Waits whole w₀ p.at (count + 1) p.work
      go g (is {x} r) q =
          let d = fuel_down text i.n at l i.fuel in
          record {
            ps = x ∷ i.ps;
            n = d.0;
            fuel = (let a = d.1 in let b = i.fuel in omega arith);
            counted = add-one count ∙ ap suc i.counted;
            few = (let b = i.few in omega arith);
            works = r ∙ ap (λ (s : Work). opened x s) i.works;
            rest = q ∙ ap (λ (s : ℕ). operand_from text I s (x ∷ i.ps) p.at) d.1;
          }

-- The walk that is written so far: an edge more at each step, until the distance is 0.
use mathlib.Core.Path.{◌≡◌, refl, ap, sym, ◌∙◌, subst}
use mathlib.Core.List.{List, [], ◌∷◌, ◌++◌, append_assoc}
use Prim.Native.Nat.{ℕ, suc, ◌+◌, ◌<◌}
use native.Mathlib.Numerals.{add-one}
use native.Mathlib.Omega.{arith}
use lib.ListN.{length, get_or, set, drop, length-append, length-set}
use lib.Seq.{drop-cons, set_at}
use Rattle.graph.specs.Graph.{Graph, at}
use Rattle.shortest.specs.Descent.{Descent, Lowest, Written}

pub record Traced (G : Graph) (D before : List ℕ) (c : ℕ) (after : List ℕ) (here k : ℕ) : Type 0 where
  pub walk : List ℕ
  pub long : length walk ≡ k
  pub written : after ≡ walk ++ drop k before
  pub leads : Descent G D walk c here
  pub left : at D c ≡ at D here + k
  pub inside : here < G.size
  pub same : length after ≡ length before

pub traced_none : (G : Graph) (D out : List ℕ) (c : ℕ) → c < G.size → Traced G D out c out c 0
traced_none G D out c l = record { walk = []; long = refl; written = refl; leads = refl; left = omega arith; inside = l; same = refl }

module _ (G : Graph) (D : List ℕ) where
  longer : (w : List ℕ) (p h e q : ℕ) → Descent G D w p h → Lowest G D h (at D q) e q → at D h ≡ at D q + 1 → Descent G D (w ++ (e ∷ [])) p q
  longer [] p h e q g l n = subst (λ (x : ℕ). Descent G D (e ∷ []) x q) (sym g) (q, l, n, refl)
  longer (a ∷ w) p h e q g l n = (g.0, g.1, g.2, longer w g.0 h e q g.3 l n)

  pub traced_more :
      (before : List ℕ) (c : ℕ) (after : List ℕ) (here k e q d : ℕ) → Traced G D before c after here k → Lowest G D here d e q → at D here ≡ d + 1 → k < length before →
      Traced G D before c (set after k e) q (k + 1)
  traced_more before c after here k e q d t l n room =
      let nq : at D q ≡ d = l.near in
      record {
        walk = t.walk ++ (e ∷ []);
        long = length-append t.walk (e ∷ []) ∙ ap (λ (x : ℕ). x + 1) t.long;
        written =
            ap (λ (x : List ℕ). set x k e) (t.written ∙ ap (λ (x : List ℕ). t.walk ++ x) (drop-cons before k 0 room)) ∙
            (set_at t.walk (get_or before k 0) (drop (suc k) before) e k t.long ∙
            (ap (λ (x : ℕ). t.walk ++ (e ∷ drop x before)) (sym (add-one k)) ∙ sym (append_assoc t.walk (e ∷ []) (drop (k + 1) before))));
        leads =
            longer t.walk c here e q t.leads (subst (λ (x : ℕ). Lowest G D here x e q) (sym nq) l) (omega arith);
        left = let m = t.left in omega arith;
        inside = l.step.target_in;
        same = length-set after k e ∙ t.same;
      }

  pub all_written : (before : List ℕ) (c : ℕ) (after : List ℕ) (here k : ℕ) → Traced G D before c after here k → k ≡ at D c → Written G D c before after (at D c)
  all_written before c after here k t e =
      record {
        walk = t.walk;
        end = here;
        leads = t.leads;
        ends = let a = t.left in omega arith;
        long = t.long ∙ e;
        written = t.written ∙ ap (λ (x : ℕ). t.walk ++ drop x before) e;
      }

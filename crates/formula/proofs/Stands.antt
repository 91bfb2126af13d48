-- Question 10 on a path's edges, by induction over the path: each state stands on an edge.
use Prim.Native.Nat.{ℕ, ◌+◌, ◌≤◌, ◌<◌}
use native.Mathlib.Omega.{arith}
use mathlib.Core.Path.{◌≡◌, sym}
use mathlib.Core.Logic.{◌⊎◌, inl, inr, ⊎_elim}
use Rattle.aldlf.specs.declared.Edge.{Edge}
use Rattle.sheet.proofs.Bools.{same, split}
use Rattle.formula.specs.Formula.{Path, step, seq, alt, many}
use Rattle.formula.specs.Numbering.{within, states, edges}
use Rattle.formula.proofs.Laws.{Some, some_left, some_right}

-- the edge stands on state s
abbrev pub OnEdge : ℕ → Edge → Type 0
OnEdge s x = (x.from.0 ≡ s) ⊎ (x.to.0 ≡ s)

-- QUESTION 10: each state of a path stands on one of its edges
pub stands : (p : Path) (k b s : ℕ) → b ≤ s → s < b + states p → Some (OnEdge s) (edges k b p)
stands (step d a) k b s l h = ⊎_elim (λ e. inl (inl (sym e))) (λ ne. inl (inr (omega arith))) (same s b)
stands (seq p q) k b s l h = cases (split (b + states p) s) (stands p k b s l) (stands q (k + within p) (b + states p) s)
  where
    cases : (b + states p ≤ s) ⊎ (s < b + states p) → (s < b + states p → Some (OnEdge s) (edges k b p))
        → (b + states p ≤ s → s < b + states p + states q → Some (OnEdge s) (edges (k + within p) (b + states p) q)) → Some (OnEdge s) (edges k b (seq p q))
    cases (inl m) f g = some_right (OnEdge s) (edges k b p) _ (some_left (OnEdge s) (edges (k + within p) (b + states p) q) _ (g m (omega arith)))
    cases (inr m) f g = some_left (OnEdge s) (edges k b p) _ (f m)
stands (alt p q) k b s l h = cases (split (b + states p) s) (split (b + (states p + states q)) s) (same s (b + (states p + states q))) (stands p k b s l) (stands q (k + within p) (b + states p) s)
  where
    cases : (b + states p ≤ s) ⊎ (s < b + states p) → (b + (states p + states q) ≤ s) ⊎ (s < b + (states p + states q)) → (s ≡ b + (states p + states q)) ⊎ (¬ (s ≡ b + (states p + states q)))
        → (s < b + states p → Some (OnEdge s) (edges k b p)) → (b + states p ≤ s → s < b + states p + states q → Some (OnEdge s) (edges (k + within p) (b + states p) q)) → Some (OnEdge s) (edges k b (alt p q))
    cases (inr m) o e f g = some_left (OnEdge s) (edges k b p) _ (f m)
    cases (inl m) (inr o) e f g = some_right (OnEdge s) (edges k b p) _ (some_left (OnEdge s) (edges (k + within p) (b + states p) q) _ (g m (omega arith)))
    cases (inl m) (inl o) (inl e) f g = some_right (OnEdge s) (edges k b p) _ (some_right (OnEdge s) (edges (k + within p) (b + states p) q) _ (inl (inl (sym e))))
    cases (inl m) (inl o) (inr e) f g = some_right (OnEdge s) (edges k b p) _ (some_right (OnEdge s) (edges (k + within p) (b + states p) q) _ (inr (inr (inl (inr (omega arith))))))
stands (many p) k b s l h = cases (split (b + states p) s) (same s (b + states p)) (stands p k b s l)
  where
    cases : (b + states p ≤ s) ⊎ (s < b + states p) → (s ≡ b + states p) ⊎ (¬ (s ≡ b + states p)) → (s < b + states p → Some (OnEdge s) (edges k b p)) → Some (OnEdge s) (edges k b (many p))
    cases (inr m) e f = some_left (OnEdge s) (edges k b p) _ (f m)
    cases (inl m) (inl e) f = some_right (OnEdge s) (edges k b p) _ (inl (inl (sym e)))
    cases (inl m) (inr e) f = some_right (OnEdge s) (edges k b p) _ (inr (inr (inl (inr (omega arith)))))

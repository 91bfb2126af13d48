-- The seeds, and what the marks grown from them are: what is reached of the goal.
use Prim.Native.Nat.{ℕ, ◌^◌, ◌<◌}
use mathlib.Core.Path.{◌≡◌, refl, sym, subst, ap, ◌∙◌}
use mathlib.Core.Bool.{Bool, true, false, ◌&&◌, true≢false}
use mathlib.Core.List.{List}
use lib.ListN.{length}
use native.Mathlib.Omega.{arith}
use Rattle.aldlf.specs.Constants.{state_limit}
use Rattle.aldlf.specs.Sheet.{bit}
use Rattle.aldlf.specs.Verdict.{facing}
use Rattle.aldlf.proofs.Across.{reached_cong}
use Rattle.reach.specs.declared.Goal.{Goal}
use Rattle.reach.specs.Marks.{at, pick, slice_sheet, holds_in, goal_of, EdgesFit, Reaching}
use Rattle.reach.specs.Steps.{reached_from, Seeded, Marking, all_due, none_due}
use Rattle.reach.proofs.Bits.{bit-zero}
use Rattle.reach.proofs.Marking.{marked, seeds_reached}

-- the seeds themselves: every edge is due
pub marking_start : (E : List ℕ) (exits : ℕ) (words seeds : List ℕ) → length seeds ≡ length words → ((i : ℕ) → i < length words → at seeds i < 2 ^ state_limit)
    → Marking E exits words seeds seeds all_due
marking_start E exits words seeds same small = record {
  same = same;
  fits = small;
  keeps = λ s i li p. p;
  sound = λ s i ls li p. seeds_reached E exits words seeds s i li p;
  still = λ i e li le d. absurd (true≢false d);
}

-- the seeds are masks of states
pub seeds_fit : (g : Goal) (words seeds : List ℕ) → g.accepting < 2 ^ state_limit → Seeded g words (length words) seeds → (i : ℕ) → i < length words → at seeds i < 2 ^ state_limit
seeds_fit g words seeds f s i l = subst (λ (x : ℕ). x < 2 ^ state_limit) (sym (s.masks i l)) (go (facing g.want (holds_in words g.node.0 i)))
  where
    go : (b : Bool) → pick b g.accepting 0 < 2 ^ state_limit
    go true = f
    go false = omega arith

bit_goal : (b : Bool) (x u : ℕ) → bit (pick b x 0) u ≡ bit x u && b
bit_goal b x u = go b (bit x u) refl
  where
    go : (b c : Bool) → bit x u ≡ c → bit (pick b x 0) u ≡ c && b
    go true true e = e
    go true false e = e
    go false true e = bit-zero u
    go false false e = bit-zero u

pub reaching : (E : List ℕ) → EdgesFit E → (g : Goal) (words seeds M : List ℕ) → Seeded g words (length words) seeds → Marking E g.exits words seeds M none_due → Reaching E g words M
unfolding reached_from
reaching E f g words seeds M s K =
    record {
      same = K.same;
      fits = K.fits;
      right = λ u i lu li. marked E f g.exits words seeds M K u i lu li
          ∙ reached_cong (slice_sheet E) (length words) 0 (holds_in words) (holds_in words) (λ u j. bit (at seeds j) u) (goal_of g words)
          (λ u. bit g.exits u) (λ u. bit g.exits u)
          (λ e i _ _ l. refl) (λ u j l. ap (λ (z : ℕ). bit z u) (s.masks j l) ∙ bit_goal (facing g.want (holds_in words g.node.0 j)) g.accepting u) (λ c p q. refl) u i li;
    }

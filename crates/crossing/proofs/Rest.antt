-- Node lines past the nodes in use that are all zeros: they fit, and a number 0 is such a line, so that only the others need to be converted.
use Prim.Native.Nat.{ℕ, zero, suc, ◌+◌, ◌*◌, ◌-◌, ◌≤◌, ◌<◌}
use mathlib.Core.Path.{◌≡◌, refl, ap, sym, ◌∙◌}
use mathlib.Core.Logic.{◌⊎◌, inl, inr}
use mathlib.Core.Bool.{Bool, true, and-true}
use mathlib.Core.List.{List}
use native.Mathlib.Omega.{arith}
use lib.Bits.{bit_or, or_add_and, and_le_l, and_le_r}
use lib.ListN.{get_or}
use Rattle.aldlf.specs.Constants.{node_limit}
use Rattle.aldlf.specs.Sheet.{no_line}
use Rattle.aldlf.proofs.Bools.{lt-or-le}
use Rattle.packing.specs.Numbers.{lines_place, line_in}
use Rattle.packing.specs.Packed.{Put}
use Rattle.crossing.specs.Numbers.{line_size, line_at, lines_in, line_fits, all_of}
use Rattle.crossing.specs.Steps.{first_lines, NoLinesFrom, line_cut, cut_in}
use Rattle.crossing.proofs.Listed.{listed_at}
use Rattle.crossing.proofs.Lent.{fit_next}

-- the places from a on, before e, are 0 where the or of their numbers is
pub record Joined (xs : List ℕ) (a e : ℕ) (all : ℕ) : Type 0 where
  pub start : a ≤ e
  pub zeros : all ≡ 0 → (i : ℕ) → a ≤ i → i < e → get_or xs i 0 ≡ 0

pub joined_none : (xs : List ℕ) (a : ℕ) → Joined xs a a 0
joined_none xs a = record { start = omega arith; zeros = λ z i h l. absurd (omega arith) }

pub joined_next : (xs : List ℕ) (a e all : ℕ) → Joined xs a e all → Joined xs a (e + 1) (bit_or all (get_or xs e 0))
joined_next xs a e all J =
    record {
      start = omega arith;
      zeros = λ z i h l. go z i h (lt-or-le i e) l;
    }
  where
    go : bit_or all (get_or xs e 0) ≡ 0 → (i : ℕ) → a ≤ i → (i < e) ⊎ (e ≤ i) → i < e + 1 → get_or xs i 0 ≡ 0
    go z i h (inl b) l = J.zeros (omega (arith, or_add_and all (get_or xs e 0), and_le_r all (get_or xs e 0))) i h b
    go z i h (inr b) l =
        let at : i ≡ e = omega arith in
        ap (λ (j : ℕ). get_or xs j 0) at ∙ omega (arith, or_add_and all (get_or xs e 0), and_le_l all (get_or xs e 0))

module _ (xs : List ℕ) (n : ℕ) (none : NoLinesFrom xs n) where
  -- a line past n has three zeros
  line_none : (k : ℕ) → n ≤ k → k < node_limit → line_at xs (line_size * k) ≡ no_line
  line_none k h l = rw (none (line_size * k) (omega arith) (omega arith), none (line_size * k + 1) (omega arith) (omega arith), none (line_size * k + 2) (omega arith) (omega arith))

  -- d lines more, which fit
  fit_more : (d : ℕ) → n + d ≤ node_limit → all_of line_fits (first_lines xs (n + d)) ≡ all_of line_fits (first_lines xs n)
  fit_more zero h = ap (λ (m : ℕ). all_of line_fits (first_lines xs m)) (omega arith)
  fit_more (suc d) h =
      let last : line_fits (line_at xs (line_size * (n + d))) ≡ true = ap line_fits (line_none (n + d) (omega arith) (omega arith)) in
      let next : n + suc d ≡ n + d + 1 = omega arith in
      ap (λ (m : ℕ). all_of line_fits (first_lines xs m)) next
      ∙ sym (fit_next line_fits (λ k. line_at xs (line_size * k)) (n + d) (all_of line_fits (first_lines xs (n + d))) true refl (sym last))
      ∙ and-true (all_of line_fits (first_lines xs (n + d)))
      ∙ fit_more d (omega arith)

  -- the first n lines converted and the others 0: all lines
  pub lines_lent : (fit : Bool) (before first after : List ℕ) → n ≤ node_limit
      → (fit ≡ all_of line_fits (first_lines xs n)) × Put (λ (k p : ℕ). line_in p ≡ get_or (cut_in xs).nodes k no_line) lines_place n before first
      → Put (λ (k p : ℕ). p ≡ 0) (lines_place + n) (node_limit - n) first after
      → (fit ≡ all_of line_fits (lines_in xs)) × Put (λ (k p : ℕ). line_in p ≡ get_or (cut_in xs).nodes k no_line) lines_place node_limit before after
  lines_lent fit before first after h (all, P) Z = (
    all ∙ sym (fit_more (node_limit - n) (omega arith)) ∙ ap (λ (m : ℕ). all_of line_fits (first_lines xs m)) (omega arith),
    record {
      same = Z.same ∙ P.same;
      done = λ k l. go k l (lt-or-le k n);
      low = λ i l. Z.low i (omega arith) ∙ P.low i l;
      high = λ i l. Z.high i (omega arith) ∙ P.high i (omega arith);
    },
  )
    where
      go : (k : ℕ) → k < node_limit → (k < n) ⊎ (n ≤ k) → line_in (get_or after (lines_place + k) 0) ≡ get_or (cut_in xs).nodes k no_line
      go k l (inl b) = ap line_in (Z.low (lines_place + k) (omega arith)) ∙ P.done k b
      go k l (inr b) =
          let at : lines_place + n + (k - n) ≡ lines_place + k = omega arith in
          let zero-there : get_or after (lines_place + k) 0 ≡ 0 = ap (λ (i : ℕ). get_or after i 0) (sym at) ∙ Z.done (k - n) (omega arith) in
          ap line_in zero-there
          ∙ sym (listed_at node_limit (λ i. line_cut (line_at xs (line_size * i))) k no_line l ∙ ap line_cut (line_none k b l))

-- One turn of each loop of the parser's cycle.
use Prim.Native.Nat.{ℕ, ◌+◌, ◌-◌, ◌≤◌, ◌<◌}
use mathlib.Core.Path.{◌≡◌, ap, sym, subst, ◌∙◌}
use mathlib.Core.List.{List}
use mathlib.Core.Bool.{Bool, true, false}
use native.Mathlib.Omega.{arith}
use lib.ListN.{length}
use Rattle.formula.specs.Formula.{Formula, both, either, Path, seq, alt}
use Rattle.formula.specs.Code.{code_keep, code_and, code_or, code_keep_part, code_seq, code_alt}
use Rattle.formula.specs.Parse.{Got, ok, Inner, Prefix, map_got, is_prefix, byte, operand_at, piece_at, starred_at, prefix_at, outside, inner}
use Rattle.parsing.specs.declared.parse.Next as next
use Rattle.parsing.specs.declared.parse.Next.TheVariants.{Goes, Stops}
use Rattle.parsing.specs.declared.parse.Waiting.{Waiting}
use Rattle.parsing.specs.declared.writing.Writing.{Writing}
use Rattle.parsing.specs.Work.{Work, work_of}
use Rattle.parsing.specs.Build.{build, build_in, Seen, got_of, next_of, followed, opened, stars_on}
use Rattle.parsing.proofs.Laws.{map_starred}
use Rattle.parsing.proofs.Chain.{Stands, chain_starts, chain_fails, chain_goes, Outcome, both_law, either_law, seq_law, alt_law, inner_down}
use Rattle.parsing.proofs.Ahead.{operand_on, starred_on, prefix_on, prefix_stands}
use Rattle.parsing.proofs.Wrap.{Waits, waits_more}

module _ (text : List ℕ) (d : ℕ) where
  abbrev pub InFormula : Got Formula → Work → ℕ → Work → Bool → Bool → Type 0
  InFormula = Stands text both either code_and code_or code_keep (operand_at text (inner text d)) build

  pub formula_starts : (depth start : ℕ) (w : Work) → 1 ≤ depth → d ≡ depth - 1 → InFormula ((inner text depth).formula start) w start w false false
  formula_starts depth start w l e =
      subst (λ (z : Inner). InFormula (z.formula start) w start w false false) (sym (inner_down text depth l ∙ ap (λ (z : ℕ). outside text (inner text z)) (sym e)))
      (chain_starts text both either code_and code_or code_keep (operand_at text (inner text d)) build w start)

  pub formula_fails : {whole : Got Formula} {w₀ : Work} {at : ℕ} {w : Work} {second first : Bool} → InFormula whole w₀ at w second first → (p : Seen)
      → got_of p ≡ map_got (λ (x : Formula). build x w) (operand_at text (inner text d) at) → ¬ (p.number ≡ 0) → got_of p ≡ map_got (λ (x : Formula). build x w₀) whole
  formula_fails i p e ne = chain_fails text both either code_and code_or code_keep (operand_at text (inner text d)) build i p e ne

  module _ {whole : Got Formula} {w₀ : Work} {at : ℕ} {w : Work} {second first : Bool} (i : InFormula whole w₀ at w second first) (p : Seen)
      (e : got_of p ≡ map_got (λ (x : Formula). build x w) (operand_at text (inner text d) at)) (z : p.number ≡ 0) (n : next.Next) (out : List ℕ) (b : ℕ) (b-is : b ≡ byte text p.at)
      (k : next_of n out ≡ followed code_and code_or code_keep b second first p.work) where
    turn : Outcome text both either code_and code_or code_keep (operand_at text (inner text d)) build both_law either_law (omega arith) (omega arith) whole w₀ p.at (next_of n out)
    turn =
        chain_goes text both either code_and code_or code_keep (operand_at text (inner text d)) build both_law either_law (omega arith) (omega arith) i p e z
        (operand_on text d (λ (x : Formula). build x w) at p e z) (next_of n out) (k ∙ ap (λ (y : ℕ). followed code_and code_or code_keep y second first p.work) b-is)

    pub formula_stop : {v : Writing} → n ≡ Stops v → ok (work_of v out) p.at ≡ map_got (λ (x : Formula). build x w₀) whole
    unfolding next_of
    formula_stop h = rw h at turn

    pub formula_more : {v : Writing} {q : Waiting} → n ≡ Goes q v → (at < p.at) × (p.at < length text) × InFormula whole w₀ (p.at + 1) (work_of v out) q.second q.first
    unfolding next_of
    formula_more h =
        let g = rw h at turn in
        (operand_on text d (λ (x : Formula). build x w) at p e z, g.0, g.1)

  abbrev pub InPath : Got Path → Work → ℕ → Work → Bool → Bool → Type 0
  InPath = Stands text seq alt code_seq code_alt code_keep_part (starred_at text (inner text d)) build_in

  pub path_starts : (depth start : ℕ) (w : Work) → 1 ≤ depth → d ≡ depth - 1 → InPath ((inner text depth).path start) w start w false false
  path_starts depth start w l e =
      subst (λ (z : Inner). InPath (z.path start) w start w false false) (sym (inner_down text depth l ∙ ap (λ (z : ℕ). outside text (inner text z)) (sym e)))
      (chain_starts text seq alt code_seq code_alt code_keep_part (starred_at text (inner text d)) build_in w start)

  starred_is : (at : ℕ) (w : Work) (q p : Seen) → got_of q ≡ map_got (λ (x : Path). build_in x w) (piece_at text (inner text d) at) → got_of p ≡ stars_on text (got_of q)
      → got_of p ≡ map_got (λ (x : Path). build_in x w) (starred_at text (inner text d) at)
  starred_is at w q p e f = f ∙ ap (λ (z : Got Work). stars_on text z) e ∙ sym (map_starred text w (piece_at text (inner text d) at))

  pub path_fails : {whole : Got Path} {w₀ : Work} {at : ℕ} {w : Work} {second first : Bool} → InPath whole w₀ at w second first → (q p : Seen)
      → got_of q ≡ map_got (λ (x : Path). build_in x w) (piece_at text (inner text d) at) → got_of p ≡ stars_on text (got_of q) → ¬ (p.number ≡ 0) → got_of p ≡ map_got (λ (x : Path). build_in x w₀) whole
  path_fails {at = at} {w = w} i q p e f ne = chain_fails text seq alt code_seq code_alt code_keep_part (starred_at text (inner text d)) build_in i p (starred_is at w q p e f) ne

  module _ {whole : Got Path} {w₀ : Work} {at : ℕ} {w : Work} {second first : Bool} (i : InPath whole w₀ at w second first) (q p : Seen)
      (e : got_of q ≡ map_got (λ (x : Path). build_in x w) (piece_at text (inner text d) at)) (f : got_of p ≡ stars_on text (got_of q)) (z : p.number ≡ 0) (n : next.Next) (out : List ℕ) (b : ℕ) (b-is : b ≡ byte text p.at)
      (k : next_of n out ≡ followed code_seq code_alt code_keep_part b second first p.work) where
    turn_in : Outcome text seq alt code_seq code_alt code_keep_part (starred_at text (inner text d)) build_in seq_law alt_law (omega arith) (omega arith) whole w₀ p.at (next_of n out)
    turn_in =
        chain_goes text seq alt code_seq code_alt code_keep_part (starred_at text (inner text d)) build_in seq_law alt_law (omega arith) (omega arith) i p (starred_is at w q p e f) z
        (starred_on text d (λ (x : Path). build_in x w) at p (starred_is at w q p e f) z) (next_of n out) (k ∙ ap (λ (y : ℕ). followed code_seq code_alt code_keep_part y second first p.work) b-is)

    pub path_stop : {v : Writing} → n ≡ Stops v → ok (work_of v out) p.at ≡ map_got (λ (x : Path). build_in x w₀) whole
    unfolding next_of
    path_stop h = rw h at turn_in

    pub path_more : {v : Writing} {q : Waiting} → n ≡ Goes q v → (at < p.at) × (p.at < length text) × InPath whole w₀ (p.at + 1) (work_of v out) q.second q.first
    unfolding next_of
    path_more h =
        let g = rw h at turn_in in
        (starred_on text d (λ (x : Path). build_in x w) at p (starred_is at w q p e f) z, g.0, g.1)

  pub operand_more : {whole : Got Formula} {w₀ : Work} {at count : ℕ} {w : Work} → Waits text (inner text d) whole w₀ at count w → is_prefix (byte text at) ≡ true → (p : Seen)
      → got_of p ≡ map_got (λ (x : Prefix). opened x w) (prefix_at text (inner text d) at) → p.number ≡ 0
      → (at < p.at) × (at < length text) × Waits text (inner text d) whole w₀ p.at (count + 1) p.work
  operand_more {at = at} {w = w} i t p e z =
      let on : at < p.at = prefix_on text d (λ (x : Prefix). opened x w) at p t e z in
      let there : at < length text = prefix_stands text at t in
      (on, there, waits_more text (inner text d) i t there p e z on)

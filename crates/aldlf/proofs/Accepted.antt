-- What an accepted part gives, read off its outcome: the bits of the nodes that the rule stands on, as the whole sheet says, all other bits 0; and ignored row bits do not matter.
use Prim.Native.Nat.{ℕ, zero, suc, ◌+◌, ◌*◌, ◌/◌, ◌%◌, ◌≤◌, ◌<◌}
use native.Mathlib.Omega.{arith}
use mathlib.Core.Path.{◌≡◌, refl, sym, ap, ap₂, ◌∙◌, fun_ext}
use mathlib.Core.Bool.{Bool, true, false, ◌&&◌}
use mathlib.Core.List.{List, [], ◌∷◌, ◌++◌}
use lib.Dec.{leb}
use lib.ListN.{length, drop, length-append, length-drop, get_or-append}
use lib.Seq.{drop-append_seam}
use borrow.Author.Tests.{leb-true}
use Rattle.aldlf.specs.Constants.{node_limit, state_limit, entry_limit, word_bits}
use Rattle.aldlf.specs.Sheet.{Sheet, bit}
use Rattle.aldlf.specs.Stands.{StandsOn, stands, rule_sheet}
use Rattle.aldlf.specs.Parts.{counts, looks_only, Sound}
use Rattle.aldlf.specs.Verdict.{judge, row_of}
use Rattle.aldlf.specs.Outcomes.{pack_bits, verdict_at, halves, bits_of, pack_row, no_row, part_verdicts, part_words, first_no, Part, part_number, part_outcome, PartRight}
use Rattle.aldlf.specs.declared.Row.{Row}
use Rattle.aldlf.specs.declared.Way.{Way}
use Rattle.aldlf.proofs.Bools.{and_left, and_right}
use Rattle.aldlf.proofs.Agree.{judge_iff, row_of_iff}
use Rattle.aldlf.proofs.Same.{judge_same, row_of_same}
use Rattle.aldlf.proofs.Stands.{stands_iff, stood_lt, not_stood, stood_iff}
use Rattle.aldlf.proofs.Rule.{rule_counts, rule_sound, rule_row, part_judge, rule_bits}
use Rattle.aldlf.proofs.Packing.{tabulate_ext, bits_of_pack}
use Rattle.aldlf.proofs.Words.{words_length}

-- an accepted part: its row and its words
module _ (given : Bool) (w : Way) (S : Sheet) (row : Row) (words buffer : List ℕ) where
  abbrev outcome : Part
  outcome = part_outcome given w S row words buffer

  abbrev given_out : Part
  given_out = record { number = 0; row = pack_row (row_of w (rule_sheet S) words (bits_of row)); buffer = part_words (rule_sheet S) (bits_of row) words ++ drop (2 * length words) buffer }

  -- all four questions got a yes
  accepted : outcome.number ≡ 0 → (given ≡ true) × (2 * length words ≤ length buffer) × (outcome ≡ given_out)
  unfolding part_outcome part_number
  accepted e =
      let r = go given (looks_only w S) (leb (length words) entry_limit) (leb (2 * length words) (length buffer)) e in
      (r.0, leb-true (2 * length words) (length buffer) r.1, r.2)
    where
      answer : ℕ → Part
      answer q = elim q [ zero ↦ given_out | suc q ↦ record { number = suc q; row = no_row; buffer = buffer } ]

      go : (b₁ b₂ b₃ b₄ : Bool) → let a = answer (first_no ((b₁, 31) ∷ (b₂, 34) ∷ (b₃, 32) ∷ (b₄, 33) ∷ [])) in a.number ≡ 0 → (b₁ ≡ true) × (b₄ ≡ true) × (a ≡ given_out)
      go false b₂ b₃ b₄ e = absurd (omega arith)
      go true false b₃ b₄ e = absurd (omega arith)
      go true true false b₄ e = absurd (omega arith)
      go true true true false e = absurd (omega arith)
      go true true true true e = (refl, refl, refl)

  pub part_given : outcome.number ≡ 0 → given ≡ true
  part_given e = (accepted e).0

  module _ (sound : Sound S) (yes : outcome.number ≡ 0) where
    -- the verdict on node k at entry i: that of the whole sheet with this row, of the nodes that the rule stands on; of others 0
    pub part_bits : (i k : ℕ) → i < length words → k < node_limit → verdict_at outcome.buffer i k ≡ stands S k && judge S words (bits_of row) (suc k) k i
    part_bits i k l lk =
        ap (λ (a : Part). verdict_at a.buffer i k) (accepted yes).2
        ∙ ap (λ (v : ℕ). bit v (k % word_bits)) (get_or-append (part_words (rule_sheet S) (bits_of row) words) (drop (2 * length words) buffer) 0 (2 * i + k / word_bits) (omega (arith, words_length (rule_sheet S) (bits_of row) words)))
        ∙ rule_bits S sound words (bits_of row) i k l lk
        ∙ part_judge S sound words (bits_of row) k i l

    -- bit s of number k of the row likewise
    pub part_row : (k s : ℕ) → k < node_limit → s < state_limit → bits_of outcome.row k s ≡ stands S k && row_of w S words (bits_of row) k s
    part_row k s l ls =
        ap (λ (a : Part). bits_of a.row k s) (accepted yes).2
        ∙ bits_of_pack (row_of w (rule_sheet S) words (bits_of row)) k s l ls
        ∙ rule_row w S sound words (bits_of row) k s

    -- WHAT A PART GIVES, in the words of the meaning
    pub part_right : PartRight w S row words buffer outcome
    part_right =
        record {
          verdicts = λ i k l o. let r = stood_iff S sound k (verdict_at outcome.buffer i k) (judge S words (bits_of row) (suc k) k i) (part_bits i k l (stood_lt S sound k o)) (judge_iff S words (bits_of row) (suc k) k i l) in (λ p. (r.0 p).1, λ z. r.1 (o, z));
          others = λ i k l lk o. part_bits i k l lk ∙ ap (λ (b : Bool). b && judge S words (bits_of row) (suc k) k i) (not_stood S sound k o);
          row_gives = λ k s l ls. stood_iff S sound k (bits_of outcome.row k s) (row_of w S words (bits_of row) k s) (part_row k s l ls) (row_of_iff w S words (bits_of row) k s);
          size = ap (λ (a : Part). length a.buffer) (accepted yes).2
              ∙ omega (arith, length-append (part_words (rule_sheet S) (bits_of row) words) (drop (2 * length words) buffer), words_length (rule_sheet S) (bits_of row) words, length-drop (2 * length words) buffer, (accepted yes).1);
          kept = ap₂ drop (sym (words_length (rule_sheet S) (bits_of row) words)) (ap (λ (a : Part). a.buffer) (accepted yes).2) ∙ drop-append_seam (part_words (rule_sheet S) (bits_of row) words) (drop (2 * length words) buffer);
        }

-- row bits that do not count are ignored
pub part_ignores : (given : Bool) (w : Way) (S : Sheet) → Sound S → (row row' : Row) → ((k s : ℕ) → StandsOn S k → counts S (S.line k) s ≡ true → bits_of row k s ≡ bits_of row' k s)
    → (words buffer : List ℕ) → part_outcome given w S row words buffer ≡ part_outcome given w S row' words buffer
unfolding part_outcome part_verdicts
part_ignores given w S sound row row' same words buffer =
    ap₂ (λ (r : Row) (v : List ℕ). elim (part_number given w S words buffer) [ zero ↦ record { number = 0; row = r; buffer = v ++ drop (2 * length words) buffer } | suc q ↦ record { number = suc q; row = no_row; buffer = buffer } ])
    (ap pack_row (fun_ext (λ k. fun_ext (λ s. row_of_same w (rule_sheet S) (rule_sound S sound) words (bits_of row) (bits_of row') rows k s))))
    (ap halves (tabulate_ext (length words) _ _ (λ i l. ap (pack_bits (rule_sheet S).nodes) (fun_ext (λ k. judge_same (rule_sheet S) (rule_sound S sound) words (bits_of row) (bits_of row') rows (suc k) k i l)))))
  where
    rows : (k s : ℕ) → counts (rule_sheet S) ((rule_sheet S).line k) s ≡ true → bits_of row k s ≡ bits_of row' k s
    rows k s c =
        let yes = sym (rule_counts S k s) ∙ c in
        same k s ((stands_iff S sound k).0 (and_left (stands S k) (counts S (S.line k) s) yes)) (and_right (stands S k) (counts S (S.line k) s) yes)

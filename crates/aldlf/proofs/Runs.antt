-- DEMAND 3 over the defined outcomes: wherever a run stands, its verdicts and its row are the joined log's by Definition 4. By splitting, call by call.
use Prim.Native.Nat.{ℕ, zero, suc, ◌*◌, ◌^◌, ◌≤◌, ◌<◌}
use native.Mathlib.Omega.{arith}
use mathlib.Core.Path.{◌≡◌, refl, sym, subst, ap, ap₂, ◌∙◌, fun_ext}
use mathlib.Core.Logic.Iff
use mathlib.Core.Logic.{◌⊎◌, inl, inr, ◌↔◌}
use mathlib.Core.Bool.{Bool, true, false, ◌&&◌, false≢true}
use mathlib.Core.List.{List, [], ◌∷◌, ◌++◌}
use lib.Dec.{ltb, leb}
use lib.ListN.{get_or, length, take, drop, get_or-eq_default}
use lib.Seq.{take_at}
use borrow.Author.Tests.{ltb-true, ltb-false}
use Rattle.aldlf.specs.Constants.{node_limit, state_limit, entry_limit}
use Rattle.aldlf.specs.Sheet.{Sheet}
use Rattle.aldlf.specs.Stands.{StandsOn, stands, rule_sheet}
use Rattle.aldlf.specs.Parts.{counts, join, looks_only, Sound}
use Rattle.aldlf.specs.Verdict.{verdict, row_of, plain}
use Rattle.aldlf.specs.Outcomes.{pack_bits, tabulate, verdict_at, halves, bits_of, pack_row, no_row, plain_row, part_verdicts, part_words, log_words, first_no, Part, whole_number, whole_outcome, part_number, part_outcome}
use Rattle.aldlf.specs.Run.{Call, Stand, after_call, run_from, run, IsPlain, RowSays, RowOf, Right}
use Rattle.aldlf.specs.declared.Row.{Row}
use Rattle.aldlf.specs.declared.Way.{Way}
use Rattle.aldlf.proofs.Bools.{bool_cases, eq_iff, and_intro, and_left, and_right}
use Rattle.aldlf.proofs.Plain.{verdict_iff, row_iff}
use Rattle.aldlf.proofs.Cut.{near_at, far_at}
use Rattle.aldlf.proofs.Same.{judge_same, row_of_same}
use Rattle.aldlf.proofs.Splitting.{Uses, Any, length-join, split_near, split_far, split_row, cleared}
use Rattle.aldlf.proofs.Stands.{stands_in, stands_iff, stood_lt, not_stood, stood_iff}
use Rattle.aldlf.proofs.Rule.{rule_counts, rule_plain, rule_sound, rule_used, rule_verdict, other_verdict, rule_plain_row, rule_bits}
use Rattle.aldlf.proofs.Packing.{length-tabulate, get_d_tabulate, tabulate_ext, tabulate-join, pack_bits-lt, bits_of_pack}
use Rattle.aldlf.proofs.Words.{halves_join, words_length}
use Rattle.aldlf.proofs.Outcomes.{whole_bit}

-- Verdicts and row of a stand are the joined log's: the row on the bits that count, and whole once a call has returned it
pub record Fine (w : Way) (S : Sheet) (st : Stand) : Type 0 where
  pub words : st.verdicts ≡ log_words S st.joined
  pub agrees : (k s : ℕ) → counts S (S.line k) s ≡ true → bits_of st.row k s ≡ row_of w S st.joined (plain S) k s
  pub row : st.answered ≡ true → st.row ≡ pack_row (row_of w S st.joined (plain S))

-- An accepted call
module _ (w : Way) (S : Sheet) (sound : Sound S) (used : (k : ℕ) → Uses w S Any (S.line k)) (st : Stand) (fine : Fine w S st) (x : List ℕ) where
  row_right : pack_row (row_of w S x (bits_of st.row)) ≡ pack_row (row_of w S (join w x st.joined) (plain S))
  row_right = ap pack_row (fun_ext (λ k. fun_ext (λ s.
      row_of_same w S sound x (bits_of st.row) (row_of w S st.joined (plain S)) fine.agrees k s
      ∙ sym (split_row w S used sound x st.joined (plain S) k s))))

  row_agrees : (k s : ℕ) → counts S (S.line k) s ≡ true
      → bits_of (pack_row (row_of w S x (bits_of st.row))) k s ≡ row_of w S (join w x st.joined) (plain S) k s
  row_agrees k s c =
      ap (λ (r : Row). bits_of r k s) row_right
      ∙ bits_of_pack (row_of w S (join w x st.joined) (plain S)) k s (sound.fits k s c).0 (sound.fits k s c).1

  near_right : part_verdicts S (bits_of st.row) x
      ≡ tabulate (length x) (λ i. pack_bits S.nodes (λ k. verdict S (join w x st.joined) k (near_at w (length st.joined) i)))
  unfolding part_verdicts
  near_right = tabulate_ext (length x) _ _ (λ i l. ap (pack_bits S.nodes) (fun_ext (λ k.
      judge_same S sound x (bits_of st.row) (row_of w S st.joined (plain S)) fine.agrees (suc k) k i l
      ∙ sym (split_near w S used sound x st.joined (plain S) (suc k) k i l))))

  far_right : part_verdicts S (plain S) st.joined
      ≡ tabulate (length st.joined) (λ i. pack_bits S.nodes (λ k. verdict S (join w x st.joined) k (far_at w (length x) i)))
  unfolding part_verdicts
  far_right = tabulate_ext (length st.joined) _ _ (λ i l. ap (pack_bits S.nodes) (fun_ext (λ k.
      sym (split_far w S used sound x st.joined (plain S) (suc k) k i l))))

  words_right : (rest : List ℕ) → join w (take (2 * length x) (part_words S (bits_of st.row) x ++ rest)) st.verdicts ≡ log_words S (join w x st.joined)
  unfolding part_verdicts
  words_right rest =
      ap₂ (join w) (take_at (part_words S (bits_of st.row) x) rest (2 * length x) (words_length S (bits_of st.row) x) ∙ ap halves near_right) (fine.words ∙ ap halves far_right)
      ∙ sym (ap halves (tabulate-join w (length (join w x st.joined)) (length x) (length st.joined) (length-join w x st.joined)
      (λ i. pack_bits S.nodes (λ k. verdict S (join w x st.joined) k i)))
      ∙ halves_join w _ _)

-- A run judges `rule_sheet S`
module _ (given : Bool) (w : Way) (S : Sheet) (sound : Sound S) where
  abbrev R : Sheet
  R = rule_sheet S

  call_fine : (st : Stand) → Fine w R st → (c : Call) → Fine w R (after_call w st c (part_outcome given w S st.row c.words c.buffer))
  unfolding part_outcome part_number
  call_fine st fine c =
      go given (looks_only w S) (leb (length c.words) entry_limit) (leb (2 * length c.words) (length c.buffer)) (λ e. e)
    where
      rest : List ℕ
      rest = drop (2 * length c.words) c.buffer

      answer : ℕ → Part
      answer q =
          elim q [
            | zero ↦ record { number = 0; row = pack_row (row_of w R c.words (bits_of st.row)); buffer = part_words R (bits_of st.row) c.words ++ rest }
            | suc q ↦ record { number = suc q; row = no_row; buffer = c.buffer }
          ]

      go : (b₁ b₂ b₃ b₄ : Bool) → (b₂ ≡ true → looks_only w S ≡ true)
          → Fine w R (after_call w st c (answer (first_no ((b₁, 31) ∷ (b₂, 34) ∷ (b₃, 32) ∷ (b₄, 33) ∷ []))))
      go false b₂ b₃ b₄ o = fine
      go true false b₃ b₄ o = fine
      go true true false b₄ o = fine
      go true true true false o = fine
      go true true true true o =
          let used = rule_used w S sound (o refl) in
          record {
            words = words_right w R (rule_sound S sound) used st fine c.words rest;
            agrees = row_agrees w R (rule_sound S sound) used st fine c.words;
            row = λ _. row_right w R (rule_sound S sound) used st fine c.words;
          }

  run_fine : (st : Stand) → Fine w R st → (calls : List Call) → Fine w R (run_from given w S st calls)
  run_fine st fine [] = fine
  run_fine st fine (c ∷ cs) = run_fine (after_call w st c (part_outcome given w S st.row c.words c.buffer)) (call_fine st fine c) cs

  start_fine : (row : Row) → IsPlain S row → Fine w R (record { row = row; answered = false; joined = []; verdicts = [] })
  unfolding part_verdicts
  start_fine row plain-Row = record { words = refl; agrees = agrees; row = λ e. absurd (false≢true e) }
    where
      agrees : (k s : ℕ) → counts R (R.line k) s ≡ true → bits_of row k s ≡ row_of w R [] (plain R) k s
      agrees k s c =
          let yes : stands S k && counts S (S.line k) s ≡ true = sym (rule_counts S k s) ∙ c in
          let on : stands S k ≡ true = and_left (stands S k) (counts S (S.line k) s) yes in
          plain-Row k s ((stands_iff S sound k).0 on) (and_right (stands S k) (counts S (S.line k) s) yes) ∙ sym (rule_plain S k s on) ∙ cleared w R (plain R) k s c

-- a packed row of the sheet that parts judge is the log's row
row_says : (w : Way) (S : Sheet) → Sound S → (log : List ℕ) (k s : ℕ) → (row_of w (rule_sheet S) log (plain (rule_sheet S)) k s ≡ true) ↔ (StandsOn S k × RowSays w S log k s)
row_says w S sound log k s = stood_iff S sound k _ (row_of w S log (plain S) k s) (rule_plain_row w S sound log k s) (row_iff w S log k s)

packed_row : (w : Way) (S : Sheet) → Sound S → (log : List ℕ) → RowOf w S log (pack_row (row_of w (rule_sheet S) log (plain (rule_sheet S))))
packed_row w S sound log =
    record {
      numbers = length-tabulate node_limit (λ k. pack_bits state_limit (λ s. row_of w (rule_sheet S) log (plain (rule_sheet S)) k s));
      small = λ k. go k (bool_cases (ltb k node_limit));
      bits = λ k s l ls. Iff.trans (eq_iff _ _ (bits_of_pack (row_of w (rule_sheet S) log (plain (rule_sheet S))) k s l ls)) (row_says w S sound log k s);
    }
  where
    number : ℕ → ℕ
    number k = pack_bits state_limit (λ s. row_of w (rule_sheet S) log (plain (rule_sheet S)) k s)

    go : (k : ℕ) → (ltb k node_limit ≡ true) ⊎ (ltb k node_limit ≡ false) → get_or (tabulate node_limit number) k 0 < 2 ^ state_limit
    go k (inl e) = rw (get_d_tabulate node_limit number k 0 (ltb-true k node_limit e)) (pack_bits-lt state_limit (λ s. row_of w (rule_sheet S) log (plain (rule_sheet S)) k s))
    go k (inr e) =
        let l : node_limit ≤ k = ltb-false k node_limit e in
        let past : length (tabulate node_limit number) ≤ k = omega (arith, length-tabulate node_limit number) in
        rw (get_or-eq_default (tabulate node_limit number) 0 past) (omega arith)

fine_right : (given : Bool) (w : Way) (S : Sheet) → Sound S → (st : Stand) → Fine w (rule_sheet S) st → Right given w S st
fine_right given w S sound st fine =
    record {
      entries = ap length fine.words ∙ words_length (rule_sheet S) (plain (rule_sheet S)) st.joined;
      verdicts = λ i k l o. Iff.trans (eq_iff (verdict_at st.verdicts i k) (verdict S st.joined k i) (on i k l o)) (verdict_iff S st.joined k i l);
      others = λ i k l lk o. bit_at i k l lk ∙ other_verdict S sound st.joined k i (not_stood S sound k o);
      row = λ e. rw (fine.row e) (packed_row w S sound st.joined);
      whole = λ buffer e i k l o. whole_bit given S st.joined buffer e i k l (stands_in S sound k ((stands_iff S sound k).1 o)) (stood_lt S sound k o) ∙ sym (on i k l o);
    }
  where
    bit_at : (i k : ℕ) → i < length st.joined → k < node_limit → verdict_at st.verdicts i k ≡ verdict (rule_sheet S) st.joined k i
    bit_at i k l lk = ap (λ (v : List ℕ). verdict_at v i k) fine.words ∙ rule_bits S sound st.joined (plain (rule_sheet S)) i k l lk

    on : (i k : ℕ) → i < length st.joined → StandsOn S k → verdict_at st.verdicts i k ≡ verdict S st.joined k i
    on i k l o = bit_at i k l (stood_lt S sound k o) ∙ rule_verdict S sound st.joined k i ((stands_iff S sound k).1 o) l

-- with a table that no sheet gives every call is refused
run_none : (w : Way) (S : Sheet) (st : Stand) (calls : List Call) → run_from false w S st calls ≡ st
unfolding part_outcome part_number
run_none w S st [] = refl
run_none w S st (c ∷ cs) = run_none w S st cs

none_right : (w : Way) (S : Sheet) (row : Row) → Right false w S (record { row = row; answered = false; joined = []; verdicts = [] })
unfolding whole_outcome whole_number
none_right w S row =
    record {
      entries = refl;
      verdicts = λ i k l o. absurd (omega arith);
      others = λ i k l lk o. absurd (omega arith);
      row = λ e. absurd (false≢true e);
      whole = λ buffer e i k l o. absurd (omega arith);
    }

-- THE RUN THEOREM: every list of calls, from every row that is plain on the bits that count
pub run_right : (given : Bool) (w : Way) (S : Sheet) → (given ≡ true → Sound S) → (row : Row) → IsPlain S row → (calls : List Call)
    → Right given w S (run given w S row calls)
unfolding run
run_right true w S sound row plain-Row calls =
    let fine = sound refl in
    fine_right true w S fine (run true w S row calls) (run_fine true w S fine _ (start_fine true w S fine row plain-Row) calls)
run_right false w S sound row plain-Row calls = subst (Right false w S) (sym (run_none w S _ calls)) (none_right w S row)

-- the plain row of the sheet that parts judge is plain: a run may start from it
pub plain_row_is_plain : (S : Sheet) → Sound S → IsPlain S (plain_row (rule_sheet S))
plain_row_is_plain S sound k s o c =
    let l = sound.fits k s c in
    let on = (stands_iff S sound k).1 o in
    bits_of_pack (λ k s. counts (rule_sheet S) ((rule_sheet S).line k) s && plain (rule_sheet S) k s) k s l.0 l.1
    ∙ ap₂ ◌&&◌ (rule_counts S k s ∙ and_intro on c) (rule_plain S k s on)

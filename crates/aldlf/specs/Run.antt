-- Runs of part judgings, and what demand 3 says of every one of them.
use Rattle.std.specs.Prelude.{ℕ, zero, suc, ◌*◌, ◌^◌, ◌<◌, ◌≡◌, ◌↔◌, Bool, true, false, List, [], ◌∷◌, get_or, length, take}
use Rattle.aldlf.specs.Constants.{node_limit, state_limit}
use Rattle.aldlf.specs.Sheet.{Sheet}
use Rattle.aldlf.specs.Meaning.{Holds, HoldsFrom}
use Rattle.aldlf.specs.Stands.{StandsOn}
use Rattle.aldlf.specs.Parts.{counts, join, row_entry}
use Rattle.aldlf.specs.Verdict.{plain}
use Rattle.aldlf.specs.Outcomes.{verdict_at, bits_of, Part, part_outcome, whole_outcome}
use Rattle.aldlf.specs.declared.Row.{Row}
use Rattle.aldlf.specs.declared.Way.{Way}

-- A call of a run: the words and the buffer that it is lent.
pub record Call : Type 0 where
  pub words : List ℕ
  pub buffer : List ℕ

-- Where a run stands: the row in hand, whether any call was accepted, the joined log, and the accepted calls' verdicts in its order.
pub record Stand : Type 0 where
  pub row : Row
  pub answered : Bool
  pub joined : List ℕ
  pub verdicts : List ℕ

-- An accepted call puts its row in hand and joins its words and its verdicts; a refused one leaves everything.
abbrev pub after_call : Way → Stand → Call → Part → Stand
after_call w st c a =
    elim a.number [
      | zero ↦ record { row = a.row; answered = true; joined = join w c.words st.joined; verdicts = join w (take (2 * length c.words) a.buffer) st.verdicts }
      | suc q ↦ st
    ]

-- The calls of a run in order, each given the row in hand.
abbrev pub run_from : Bool → Way → Sheet → Stand → List Call → Stand
run_from given w S st [] = st
run_from given w S st (c ∷ cs) = run_from given w S (after_call w st c (part_outcome given w S st.row c.words c.buffer)) cs

-- A run, from the row in hand at its start.
unfoldable pub run : Bool → Way → Sheet → Row → List Call → Stand
run given w S row calls = run_from given w S (record { row = row; answered = false; joined = []; verdicts = [] }) calls

-- The row is plain on the bits that count, those of the nodes that the rule stands on; the ignored ones may be anything.
abbrev pub IsPlain : Sheet → Row → Type 0
IsPlain S row = (k s : ℕ) → StandsOn S k → counts S (S.line k) s ≡ true → bits_of row k s ≡ plain S k s

-- What bit s of number k of a log's row says by Definition 4: of its first entry (looking back, its last); of no entry, the plain row's.
abbrev pub RowSays : Way → Sheet → List ℕ → (k s : ℕ) → Type 0
RowSays w S [] k s = (counts S (S.line k) s ≡ true) × (plain S k s ≡ true)
RowSays w S (x ∷ xs) k s = (counts S (S.line k) s ≡ true) × HoldsFrom S (x ∷ xs) k s (row_entry w (length (x ∷ xs)))

-- The row has 128 numbers of 16 bits, and they are the log's on the nodes that the rule stands on; all other bits are 0.
pub record RowOf (w : Way) (S : Sheet) (log : List ℕ) (row : Row) : Type 0 where
  pub numbers : length row.bits ≡ node_limit
  pub small : (k : ℕ) → get_or row.bits k 0 < 2 ^ state_limit
  pub bits : (k s : ℕ) → k < node_limit → s < state_limit → (bits_of row k s ≡ true) ↔ (StandsOn S k × RowSays w S log k s)

-- DEMAND 3, of where a run stands, about the nodes that the rule stands on.
pub record Right (given : Bool) (w : Way) (S : Sheet) (st : Stand) : Type 0 where
  -- two words per entry of the joined log
  pub entries : length st.verdicts ≡ 2 * length st.joined
  -- the verdict on node k, one that the rule stands on, at entry i of the joined log, is Definition 4's
  pub verdicts : (i k : ℕ) → i < length st.joined → StandsOn S k → (verdict_at st.verdicts i k ≡ true) ↔ Holds S st.joined k i
  -- all other bits are 0
  pub others : (i k : ℕ) → i < length st.joined → k < node_limit → ¬ (StandsOn S k) → verdict_at st.verdicts i k ≡ false
  -- the row that the last accepted call returned is the joined log's
  pub row : st.answered ≡ true → RowOf w S st.joined st.row
  -- judging the joined log whole gives the same verdicts on these nodes, where that call accepts it
  pub whole : (buffer : List ℕ) → (whole_outcome given S st.joined buffer).number ≡ 0
      → (i k : ℕ) → i < length st.joined → StandsOn S k
      → verdict_at (whole_outcome given S st.joined buffer).buffer i k ≡ verdict_at st.verdicts i k

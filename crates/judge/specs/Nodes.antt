-- Helper definitions that only the proofs of the code need: a node judged from the words of those before it, and what is known on the way.
use Rattle.std.specs.Prelude.{◌≡◌, ℕ, suc, ◌+◌, ◌-◌, ◌*◌, ◌%◌, ◌^◌, ◌<◌, ◌≤◌, Bool, true, false, not, ◌&&◌, ◌||◌, ◌⊎◌, List, ◌++◌, length, take, drop, ◌==◌, nat_eq, slice_index, Option, Some, IfSome}
use Rattle.aldlf.specs.Constants.{node_limit, word_bits, state_limit, letter_p, letter_n, letter_a, letter_o, letter_d, letter_b}
use Rattle.aldlf.specs.Sheet.{Sheet, Line, T, F, P, N, A, O, D, B, bit, sheet_of}
use Rattle.aldlf.specs.Parts.{Bits, row_entry, counts}
use Rattle.aldlf.specs.Verdict.{facing, judge, row_of, plain}
use Rattle.aldlf.specs.Outcomes.{count_below, pack_bits, bit_count, bits_of, pack_row, part_words}
use Rattle.aldlf.specs.declared.Table.{Table}
use Rattle.aldlf.specs.declared.Row.{Row}
use Rattle.aldlf.specs.declared.NodeLine.{NodeLine}
use Rattle.aldlf.specs.declared.Automaton.{Automaton}
use Rattle.aldlf.specs.declared.Way.{Way}
use Rattle.aldlf.specs.declared.Way.TheVariants.{Ahead, Back}
use Rattle.stands.specs.declared.Looks.{Looks}
use Rattle.sheet.specs.Facts.{node_at, automaton_at, Lent}
use Rattle.reach.specs.Marks.{at, pick, verdict_added, Reaching}
use Rattle.reach.specs.Columns as steps
use Rattle.judge.specs.declared.engine.Part.{Part}
use Rattle.judge.specs.declared.engine.CoreAnswer.{CoreAnswer}
use Rattle.judge.specs.declared.nodes.Job.{Job}
use Rattle.judge.specs.declared.nodes.Have.{Have}
use Rattle.judge.specs.declared.nodes.NodeAnswer.{NodeAnswer}

-- A D or B line's letter.
abbrev pub modal_kind : ℕ → Bool
modal_kind kind = kind == letter_d || kind == letter_b

-- A line that is no D or B, at the entry with these facts and this number of the nodes before the line.
abbrev pub says_now : Line → (facts word : ℕ) → Bool
says_now T facts word = true
says_now F facts word = false
says_now (P f) facts word = bit facts f
says_now (N a) facts word = not (bit word a)
says_now (A a b) facts word = bit word a && bit word b
says_now (O a b) facts word = bit word a || bit word b
says_now (D m a) facts word = false
says_now (B m a) facts word = false

-- What reading a line that is no D or B asks of its numbers.
pub record PlainFits (l : NodeLine) : Type 0 where
  pub plain : modal_kind l.kind ≡ false
  pub fact : l.kind ≡ letter_p → l.a < word_bits
  pub one_node : l.kind ≡ letter_n → l.a < node_limit
  pub two_nodes : (l.kind ≡ letter_a) ⊎ (l.kind ≡ letter_o) → (l.a < node_limit) × (l.b < node_limit)

-- A mask of 16 bits as it is, or the other bits.
abbrev pub facing_mask : ℕ → Bool → ℕ
facing_mask x want = pick want x (65535 - x)

-- The node's number in the row that a part with these masks gives.
unfoldable pub row_number : Job → Bool → List ℕ → ℕ
row_number j want M = pick (length M == 0) j.given (facing_mask (at M (row_entry j.way (length M))) want) % 2 ^ j.automaton.states

-- A line's number in the plain row.
abbrev pub plain_number : NodeLine → (states : ℕ) → ℕ
plain_number l states = pick (l.kind == letter_b) (65535 % 2 ^ states) 0

-- In how many of the first n numbers bit k is set.
abbrev pub set_in : (n : ℕ) → List ℕ → (k : ℕ) → ℕ
set_in n numbers k = count_below n (λ i. bit (at numbers i) k)

-- Verdicts on node k were added to the numbers of the first n entries, as f says; `held` is in how many of them its bit is set.
pub record Added (k : ℕ) (f : ℕ → Bool) (n : ℕ) (before after : List ℕ) (held : ℕ) : Type 0 where
  pub counted : held ≡ set_in n after k
  pub same : length after ≡ length before
  pub done : (i : ℕ) → i < n → at after i ≡ verdict_added (at before i) k (f i)
  pub rest : (i : ℕ) → n ≤ i → at after i ≡ at before i

-- What judging a D or B asks of its numbers.
pub record ModalFits (j : Job) : Type 0 where
  pub few_states : j.automaton.states ≤ state_limit
  pub start_fits : j.automaton.start.0 < state_limit
  pub node_fits : j.line.b < node_limit
  pub in_table : j.number.0 < node_limit

-- A D (want) or B line with these edges: its masks, its bits, its number in the row.
pub record ModalDone (E : List ℕ) (j : Job) (before after : List ℕ) (r : NodeAnswer) : Type 0 where
  pub masks : List ℕ
  pub looks : ℕ
  pub small : j.given < 65536
  pub reaching :
      let want = nat_eq j.line.kind letter_d in
      Reaching E (record { accepting = j.automaton.accepting; node = record { 0 = j.line.b }; want = want; exits = facing_mask j.given want; looks = looks }) before masks
  pub added : Added j.number.0 (λ i. facing (j.line.kind == letter_d) (bit (at masks i) j.automaton.start.0)) (length before) before after r.held
  pub number : r.number ≡ row_number j (j.line.kind == letter_d) masks

-- The entries' numbers of the nodes below k.
pub record Words (S : Sheet) (ρ : Bits) (log : List ℕ) (k : ℕ) (words : List ℕ) : Type 0 where
  pub size : length words ≡ length log
  pub each : (i : ℕ) → i < length log → at words i ≡ pack_bits k (λ j. judge S log ρ (suc j) j i)

-- The numbers f 0, f 1, .. stand in the first k places of an array of as many numbers as a row has, and 0 in the others.
pub record Filled (f : ℕ → ℕ) (out : List ℕ) (k : ℕ) : Type 0 where
  pub size : length out ≡ node_limit
  pub done : (j : ℕ) → j < k → slice_index out j ≡ f j
  pub left : (j : ℕ) → k ≤ j → slice_index out j ≡ 0

-- What is known where a node is judged.
pub record Known (t : Table) (row : Row) (j : Job) (log edges words : List ℕ) : Type 0 where
  pub lent : Lent t edges
  pub in_table : j.number.0 < t.used.nodes
  pub line_is : j.line ≡ node_at t j.number.0
  pub automaton_is : modal_kind j.line.kind ≡ true → j.automaton ≡ automaton_at t j.line.a
  pub given_is : j.given ≡ slice_index row.bits j.number.0
  pub words_are : Words (sheet_of t) (bits_of row) log j.number.0 words

-- A node is judged; the count is that of its own bits in the entries' numbers.
pub record NodeDone (t : Table) (row : Row) (j : Job) (log words : List ℕ) (r : NodeAnswer) : Type 0 where
  pub held_is : r.held ≡ set_in (length log) words j.number.0
  pub words_are : Words (sheet_of t) (bits_of row) log (j.number.0 + 1) words
  pub row_is : r.number ≡ pack_bits state_limit (λ s. row_of j.way (sheet_of t) log (bits_of row) j.number.0 s)

-- The edges of an automaton, cut out of all.
abbrev pub cut_of : Automaton → List ℕ → List ℕ
cut_of q edges = take ((q.first + q.count) - q.first) (drop q.first edges)

-- The steps are those of these edges at all entries, and the edges go these ways.
pub record Stepped (E words : List ℕ) (looks : ℕ) (C : List ℕ) : Type 0 where
  pub told : steps.Told E looks (length E)
  pub placed : steps.Placed (length words) C
  pub filled : steps.Filled E words (length words) C

-- The steps are those of an automaton that stands above node k.
pub record Served (t : Table) (edges words : List ℕ) (k : ℕ) (have : Have) (C : List ℕ) : Type 0 where
  pub there : have.automaton < t.used.automata
  pub above : (automaton_at t have.automaton).before ≤ k
  pub stepped : Stepped (cut_of (automaton_at t have.automaton) edges) words have.looks C

-- The steps at hand, if any are, are those of an automaton that stands above node k.
pub record Kept (t : Table) (edges words : List ℕ) (k : ℕ) (have : Option Have) (C : List ℕ) : Type 0 where
  pub long : length C ≡ 49 * length words
  pub served : IfSome have (λ h. Served t edges words k h C)

-- The steps at hand are ready for a D or B node: those of its automaton.
pub record Ready (t : Table) (j : Job) (edges words : List ℕ) (have : Have) (C : List ℕ) : Type 0 where
  pub kept : Kept t edges words j.number.0 (Some have) C
  pub mine : Stepped (cut_of j.automaton edges) words have.looks C

-- All nodes are judged; the count is that of the last one's bits in the words.
pub record CoreDone (t : Table) (p : Part) (log words : List ℕ) (r : CoreAnswer) : Type 0 where
  pub row_is : r.row ≡ pack_row (row_of p.way (sheet_of t) log (bits_of p.row))
  pub words_are : words ≡ part_words (sheet_of t) (bits_of p.row) log
  pub held_is : r.held ≡ bit_count (length log) words (t.used.nodes - 1)

-- The first k nodes are judged, the count is that of the last one's bits, and whose steps are at hand.
pub record Through (t : Table) (p : Part) (log numbers words steps out : List ℕ) (held : ℕ) (have : Option Have) (k : ℕ) : Type 0 where
  pub words_are : Words (sheet_of t) (bits_of p.row) log k words
  pub row_is : Filled (λ j. pack_bits state_limit (λ s. row_of p.way (sheet_of t) log (bits_of p.row) j s)) out k
  pub held_is : 1 ≤ k → held ≡ set_in (length log) words (k - 1)
  pub kept : Kept t numbers words k have steps

-- The same, with the words in the first places of a buffer and the rest of it kept.
pub record CorePut (t : Table) (p : Part) (log before after : List ℕ) (r : CoreAnswer) : Type 0 where
  pub words : List ℕ
  pub done : CoreDone t p log words r
  pub put : after ≡ words ++ drop (2 * length log) before

-- The row is plain on every bit that a row of the sheet has: whole logs are judged with such a row.
abbrev pub AllPlain : Sheet → Row → Type 0
AllPlain S row = (k s : ℕ) → counts S (S.line k) s ≡ true → bits_of row k s ≡ plain S k s

-- A log may be cut this way: the rule does not look the other way.
abbrev pub may_cut : Looks → Way → Bool
may_cut looks Ahead = not looks.back
may_cut looks Back = not looks.ahead

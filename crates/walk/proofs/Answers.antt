-- What the search answers for a D or B line of a given table is what document 01 asks: the defined walk, or question 39 or 40.
use Prim.Native.Nat.{ℕ, ◌+◌, ◌*◌, ◌%◌, ◌≤◌, ◌<◌}
use native.Mathlib.Omega.{arith}
use mathlib.Core.Path.{◌≡◌, refl, sym, ap, ap₂, subst, ◌∙◌}
use mathlib.Core.Logic.{◌⊎◌, inl, inr}
use mathlib.Core.Bool.{Bool, true, false, ◌&&◌, ◌||◌}
use mathlib.Core.List.{List, ◌++◌}
use mathlib.Core.Option.{Option, some}
use borrow.Author.Tests.{le-leb, lt-leb, lt-ltb, le-ltb, leb-true, eqb-true}
use lib.Arith.{digits_div, digits_mod}
use lib.Dec.{eqb, leb, ltb}
use lib.ListN.{length, drop}
use Rattle.aldlf.specs.Constants.{letter_d, letter_b}
use Rattle.aldlf.specs.Sheet.{Sheet, Line, D, B, by_mode, sheet_of, line_of, bit}
use Rattle.aldlf.specs.Verdict.{facing, goal, judge, plain}
use Rattle.aldlf.specs.Walks.{walk_by, walk_to, walk_of, walk_outcome}
use Rattle.aldlf.specs.Walks as walks
use Rattle.aldlf.specs.declared.Automaton.{Automaton}
use Rattle.aldlf.specs.declared.Edge.{Edge}
use Rattle.aldlf.specs.declared.NodeLine.{NodeLine}
use Rattle.aldlf.specs.declared.Table.{Table}
use Rattle.aldlf.proofs.Bools.{and_right, bool_cases}
use Rattle.aldlf.proofs.Letters.{by_letter, either_letter, neither_letter}
use Rattle.aldlf.proofs.Laws.{judge_below}
use Rattle.aldlf.proofs.Words.{verdicts_length, verdicts_bit}
use Rattle.aldlf.proofs.Short.{found}
use Rattle.sheet.specs.Facts.{node_at, automaton_at, edge_at, ModalFacts, TableFacts}
use Rattle.sheet.proofs.Facts.{tests_below}
use Rattle.graph.specs.Graph.{far, at}
use Rattle.graph.specs.Arcs.{unpacked_of}
use Rattle.graph.specs.Configurations.{graph_of, start_of, Ready}
use Rattle.shortest.specs.Goals.{goal_at, GoalAt}
use Rattle.shortest.specs.declared.Goal.{Goal}
use Rattle.walk.specs.Search.{goal_of, Found, LineReady, LineFound, JudgedLog, modal_of}
use Rattle.walk.specs.Answer.{answer_of}
use Rattle.aldlf.specs.Refusals.{refusal_number}
use Rattle.aldlf.specs.declared.Refusal.{Refusal}
use Rattle.aldlf.specs.declared.Refusal.TheVariants.{NoNode, NoEntry, NotModal}
use Rattle.std.specs.Prelude.{Result, Ok, Err}
use Rattle.walk.proofs.Agreement.{Agrees, edge_of, found-far, found_near, found_descent}
use Rattle.walk.proofs.Questions.{refusal, by_room, shown_by, outcome_36, outcome_37, outcome_38, outcome_walk}

-- Any sheet ---------------------------------------------------------------------------------------------------------------------

module _
    (S : Sheet)
    (n m : ℕ)
    (h g : ℕ → ℕ → Bool)
    (arcs : List ℕ)
    (q : Automaton)
    (words : List ℕ)
    (goal : Goal)
    (r : Ready arcs q words)
    (a : Agrees S n m h g arcs q words goal)
    (i : ℕ)
    (ls : q.start.0 < q.states)
    (li : i < n) where
  abbrev sought : Option (List ℕ)
  sought = found S n m h g q.start.0 i

  shown_room : (es buffer : List ℕ) → length es ≤ length buffer → shown_by (some es) buffer ≡ record { number = 0; count = length es; buffer = es ++ drop (length es) buffer }
  shown_room es buffer l = ap (λ (b : Bool). by_room b es buffer) (le-leb (length es) (length buffer) l)

  shown_short : (es buffer : List ℕ) → length buffer < length es → shown_by (some es) buffer ≡ refusal 40 buffer
  shown_short es buffer l = ap (λ (b : Bool). by_room b es buffer) (lt-leb (length es) (length buffer) l)

  shown_count : (es before after : List ℕ) (c : ℕ) → length es ≡ c → after ≡ es ++ drop c before
      → ◌≡◌ {A = walks.Shown} (record { number = 0; count = c; buffer = after }) (record { number = 0; count = length es; buffer = es ++ drop (length es) before })
  shown_count es before after c e w =
      ap₂ (λ (x : ℕ) (b : List ℕ). record { number = 0; count = x; buffer = b }) (sym e) (w ∙ ap (λ (x : ℕ). es ++ drop x before) (sym e))

  -- the search's answer is that of questions 39 and 40 about the walk that is found
  pub answer_right : (before after : List ℕ) (x : Result ℕ Refusal) → Found (graph_of arcs q words) (GoalAt words q goal) (start_of q i) before after x
      → answer_of x after ≡ shown_by sought before
  unfolding answer_of
  answer_right before after (Ok c) f =
      let (near, count, fits, w) = f.answered in
      let e : sought ≡ some w.walk = found_descent S n m h g arcs q words goal r a f.distances q.start.0 i f.right ls li w.walk w.end near w.leads w.ends in
      let long = w.long in
      shown_count w.walk before after c long w.written
      ∙ (sym (shown_room w.walk before (omega arith)) ∙ ap (λ (o : Option (List ℕ)). shown_by o before) (sym e))
  answer_right before after (Err c) f = go f.answered.1
    where
      kept : after ≡ before
      kept = f.answered.0

      D : List ℕ
      D = f.distances

      go : ((refusal_number c ≡ 39) × (at D (start_of q i) ≡ far)) ⊎ ((refusal_number c ≡ 40) × (at D (start_of q i) < far) × (length before < at D (start_of q i))) → refusal (refusal_number c) after ≡ shown_by sought before
      go (inl (e, z)) =
          ap₂ (λ (y : ℕ) (b : List ℕ). refusal y b) e kept
          ∙ ap (λ (o : Option (List ℕ)). shown_by o before) (sym (found-far S n m h g arcs q words goal r a D q.start.0 i f.right ls li z))
      go (inr (e, near, room)) =
          let (es, p, long) = found_near S n m h g arcs q words goal r a D q.start.0 i f.right ls li near in
          ap₂ (λ (y : ℕ) (b : List ℕ). refusal y b) e kept
          ∙ (sym (shown_short es before (omega arith)) ∙ ap (λ (o : Option (List ℕ)). shown_by o before) (sym p))

-- A given table -----------------------------------------------------------------------------------------------------------------

-- the D or B line of an automaton and a node
abbrev modal_line : Bool → ℕ → ℕ → Line
modal_line true m a = D m a
modal_line false m a = B m a

walk_modal : (S : Sheet) (log : List ℕ) (k i : ℕ) (want : Bool) (m a : ℕ) → walk_by S log k i (modal_line want m a) ≡ walk_to S log k i want m a
walk_modal S log k i true m a = refl
walk_modal S log k i false m a = refl

-- a line of another letter is no D and no B
pub not_modal : (t : Table) (k : ℕ) → modal_of (node_at t k) ≡ false → by_mode (λ m a. true) (λ m a. true) false ((sheet_of t).line k) ≡ false
unfolding sheet_of
not_modal t k e =
    let x = node_at t k in
    let none = neither_letter x.kind letter_d letter_b e in
    by_letter (λ l. by_mode (λ m a. true) (λ m a. true) false l ≡ false) x.kind x.a x.b refl (λ _. refl) (λ _. refl) (λ _. refl) (λ _. refl) (λ _. refl) (λ d. absurd (none.0 d)) (λ b. absurd (none.1 b))

-- the log of the words
module _ (t : Table) (words log : List ℕ) (W : JudgedLog t words log) where
  pub judged_long : length words ≡ length log
  judged_long = ap length W.words_are ∙ verdicts_length (sheet_of t) (plain (sheet_of t)) log

  pub judged_few : length words ≤ 512
  judged_few = let l = leb-true (length log) 512 (and_right (leb 1 (length log)) (leb (length log) 512) W.fits) in omega (arith, judged_long)

  -- questions 36 to 38
  module _ (k i : ℕ) (buffer : List ℕ) where
    pub told_36 : t.used.nodes ≤ k → answer_of (Err NoNode) buffer ≡ walk_outcome true (sheet_of t) log k i buffer
    unfolding answer_of sheet_of
    told_36 l = sym (outcome_36 (sheet_of t) log k i buffer W.fits (le-ltb k t.used.nodes l))

    pub told_37 : k < t.used.nodes → length words ≤ i → answer_of (Err NoEntry) buffer ≡ walk_outcome true (sheet_of t) log k i buffer
    unfolding answer_of sheet_of
    told_37 lk l = sym (outcome_37 (sheet_of t) log k i buffer W.fits (lt-ltb k t.used.nodes lk) (le-ltb i (length log) (omega (arith, judged_long))))

    pub told_38 : k < t.used.nodes → i < length words → modal_of (node_at t k) ≡ false → answer_of (Err NotModal) buffer ≡ walk_outcome true (sheet_of t) log k i buffer
    unfolding answer_of sheet_of
    told_38 lk li e =
        sym (outcome_38 (sheet_of t) log k i buffer W.fits (lt-ltb k t.used.nodes lk) (lt-ltb i (length log) (omega (arith, judged_long))) (not_modal t k e))

module _ (t : Table) (log : List ℕ) (k i : ℕ) (facts : TableFacts t) (lk : k < t.used.nodes) where
  abbrev S : Sheet
  S = sheet_of t

  abbrev line : NodeLine
  line = node_at t k

  abbrev q : Automaton
  q = automaton_at t line.a

  line_is : S.line k ≡ line_of line.kind line.a line.b
  unfolding sheet_of
  line_is = refl

  pub line_modal : (want : Bool) → ((line.kind ≡ letter_d) × (want ≡ true)) ⊎ ((line.kind ≡ letter_b) × (want ≡ false)) → S.line k ≡ modal_line want line.a line.b
  line_modal want (inl (e, w)) = line_is ∙ (ap (λ (x : ℕ). line_of x line.a line.b) e ∙ ap (λ (b : Bool). modal_line b line.a line.b) (sym w))
  line_modal want (inr (e, w)) = line_is ∙ (ap (λ (x : ℕ). line_of x line.a line.b) e ∙ ap (λ (b : Bool). modal_line b line.a line.b) (sym w))

  -- what the search needs of the line
  pub line_ready : ModalFacts t k → (n : ℕ) → n ≤ 512 → i < n → LineReady t line n i
  line_ready mf n few li =
      let x = facts.automaton line.a mf.automaton< in
      let nodes = facts.nodes≤ in
      record {
        automaton_fits = omega (arith, mf.automaton<, facts.automata≤);
        node_fits = omega (arith, mf.node<);
        some_state = x.some_state;
        few_states = x.states≤;
        start_fits = x.start<;
        few_edges = omega (arith, x.edges≤, facts.edges≤);
        each = λ e lo hi.
            let y = x.edge e lo hi in
            record { from_fits = y.from<; to_fits = y.to<; test_fits = omega (arith, y.test<, x.before<); dir_fits = y.dir≤ };
        few_words = few;
        entry_fits = li;
      }

  module _
      (want : Bool)
      (mf : ModalFacts t k)
      (kind_is : eqb line.kind letter_d ≡ want)
      (modal-is : S.line k ≡ modal_line want line.a line.b)
      (words : List ℕ)
      (W : JudgedLog t words log)
      (li : i < length log)
      (before after : List ℕ)
      (x : Result ℕ Refusal)
      (f : LineFound t line words i before after x) where
    abbrev h : ℕ → ℕ → Bool
    h = judge S log (plain S) k

    long : length words ≡ length log
    long = judged_long t words log W

    ready : LineReady t line (length words) i
    ready = line_ready mf (length words) (judged_few t words log W) (omega (arith, long))

    earlier_in : (a : ℕ) → a < k → a < S.nodes
    unfolding sheet_of
    earlier_in a la = omega arith

    -- the words' bits are the values of the nodes below k
    value_is : (a j : ℕ) → a < k → j < length log → h a j ≡ bit (at words j) a
    value_is a j la lj =
        judge_below S log (plain S) k a j la
        ∙ (sym (verdicts_bit S (plain S) log a j (earlier_in a la) lj) ∙ ap (λ (l : List ℕ). bit (at l j) a) (sym W.words_are))

    edge_same : (e : ℕ) → q.first ≤ e → e < q.first + q.count → unpacked_of (at f.arcs e) ≡ edge_at t e
    edge_same e lo hi = f.chained.edge_is e lo hi

    sheet_edge : (e : ℕ) → S.edge e ≡ edge_of (edge_at t e)
    unfolding sheet_of
    sheet_edge e = refl

    goal_same : (s j : ℕ) → goal S h want line.a line.b s j ≡ bit q.accepting s && facing want (h line.b j)
    unfolding sheet_of
    goal_same s j = refl

    first_same : (S.automaton line.a).first ≡ q.first
    unfolding sheet_of
    first_same = refl

    count_same : (S.automaton line.a).count ≡ q.count
    unfolding sheet_of
    count_same = refl

    start_same : (S.automaton line.a).start ≡ q.start.0
    unfolding sheet_of
    start_same = refl

    goal-at : (s j : ℕ) → s < q.states → j < length log → goal S h want line.a line.b s j ≡ goal_at words q (goal_of line) (j * q.states + s)
    unfolding goal_at
    goal-at s j ls lj =
        goal_same s j
        ∙ (ap₂ (λ (u : ℕ) (v : Bool). bit q.accepting u && facing want v) (sym (digits_mod j ls)) (value_is line.b j mf.node< lj)
        ∙ ap₂ (λ (w : Bool) (y : ℕ). bit q.accepting ((j * q.states + s) % q.states) && facing w (bit (at words y) line.b)) (sym kind_is) (sym (digits_div j ls)))

    agrees : Agrees S (length log) line.a h (goal S h want line.a line.b) f.arcs q words (goal_of line)
    agrees =
        record {
          long = long;
          first_is = first_same;
          count_is = count_same;
          edge_is = λ e lo hi. sheet_edge e ∙ ap edge_of (sym (edge_same e lo hi));
          test_is = λ e lo hi j lj.
              value_is (unpacked_of (at f.arcs e)).test.0 j
              (subst (λ (y : ℕ). y < k) (ap (λ (z : Edge). z.test.0) (sym (edge_same e lo hi))) (tests_below t k e facts mf lo hi)) lj;
          goal_is = goal-at;
        }

    walk_found : walk_of S log k i ≡ found S (length log) line.a h (goal S h want line.a line.b) q.start.0 i
    unfolding walk_of
    walk_found =
        ap (walk_by S log k i) modal-is
        ∙ (walk_modal S log k i want line.a line.b
        ∙ ap (λ (s : ℕ). found S (length log) line.a h (goal S h want line.a line.b) s i) start_same)

    is_modal : by_mode (λ m a. true) (λ m a. true) false (S.line k) ≡ true
    is_modal = ap (by_mode (λ m a. true) (λ m a. true) false) modal-is ∙ always want
      where
        always : (b : Bool) → by_mode (λ m a. true) (λ m a. true) false (modal_line b line.a line.b) ≡ true
        always true = refl
        always false = refl

    on_sheet : ltb k S.nodes ≡ true
    unfolding sheet_of
    on_sheet = lt-ltb k t.used.nodes lk

    -- what the search answers is the walk's outcome
    pub answer_outcome : answer_of x after ≡ walk_outcome true S log k i before
    answer_outcome =
        answer_right S (length log) line.a h (goal S h want line.a line.b) f.arcs q words (goal_of line) f.ready agrees i ready.start_fits li before after x f.found
        ∙ (ap (λ (o : Option (List ℕ)). shown_by o before) (sym walk_found)
        ∙ sym (outcome_walk S log k i before W.fits on_sheet (lt-ltb i (length log) li) is_modal))

  -- for either letter
  pub modal_outcome : modal_of line ≡ true → (words : List ℕ) → JudgedLog t words log → i < length log → (before after : List ℕ) (x : Result ℕ Refusal) → LineFound t line words i before after x
      → answer_of x after ≡ walk_outcome true S log k i before
  modal_outcome e words W li before after x f = go (bool_cases (eqb line.kind letter_d))
    where
      facts-of : ((line.kind ≡ letter_d) ⊎ (line.kind ≡ letter_b)) → ModalFacts t k
      facts-of = (facts.node k lk).modal

      is_b : eqb line.kind letter_d ≡ false → line.kind ≡ letter_b
      is_b d = eqb-true line.kind letter_b (subst (λ (b : Bool). b || eqb line.kind letter_b ≡ true) d e)

      go : (eqb line.kind letter_d ≡ true) ⊎ (eqb line.kind letter_d ≡ false) → answer_of x after ≡ walk_outcome true S log k i before
      go (inl d) =
          let kind = eqb-true line.kind letter_d d in
          answer_outcome true (facts-of (inl kind)) d (line_modal true (inl (kind, refl))) words W li before after x f
      go (inr d) =
          let kind = is_b d in
          answer_outcome false (facts-of (inr kind)) d (line_modal false (inr (kind, refl))) words W li before after x f

  -- a D or B line is ready
  pub modal_ready : modal_of line ≡ true → (n : ℕ) → n ≤ 512 → i < n → LineReady t line n i
  modal_ready e n few li = line_ready ((facts.node k lk).modal (either_letter line.kind letter_d letter_b e)) n few li

-- What is known where a node is judged: what its code asks, the edges of its automaton, and the node done.
use Rattle.std.specs.Prelude.{◌≡◌, ℕ, ◌+◌, ◌-◌, ◌^◌, ◌<◌, ◌≤◌, Bool, true, false, List, length, get_or, take, drop}
use native.Mathlib.Omega.{arith}
use mathlib.Core.Path.{refl, sym, subst, ap, ◌∙◌}
use lib.ListN.{length-drop}
use lib.Seq.{get_or-take, get_or-drop, length-take-le}
use Rattle.aldlf.specs.Constants.{node_limit, automaton_limit}
use Rattle.aldlf.specs.Sheet.{sheet_of, line_of}
use Rattle.aldlf.specs.Verdict.{row_of}
use Rattle.aldlf.specs.Outcomes.{bits_of}
use Rattle.aldlf.specs.declared.Table.{Table}
use Rattle.aldlf.specs.declared.Row.{Row}
use Rattle.aldlf.specs.declared.Automaton.{Automaton}
use Rattle.aldlf.specs.declared.NodeLine.{NodeLine}
use Rattle.aldlf.specs.declared.Way.{Way}
use Rattle.packing.specs.Numbers.{lent_automaton}
use Rattle.sheet.specs.Facts.{node_at, automaton_at, AutomatonFacts, Lent}
use Rattle.reach.specs.Marks.{at, EdgesFit}
use Rattle.judge.specs.declared.nodes.Job.{Job}
use Rattle.judge.specs.declared.nodes.NodeAnswer.{NodeAnswer}
use Rattle.judge.specs.Nodes.{modal_kind, says_now, PlainFits, Added, ModalFits, ModalDone, Known, Words, NodeDone, cut_of}
use Rattle.judge.proofs.Slices.{edges_fit, slice_reached}
use Rattle.judge.proofs.WordLaws.{plain_of, plain_bits, words_low, added_words, added_count}
use Rattle.judge.proofs.RowLaws.{inner, row_form, plain-number}
use Rattle.judge.proofs.ModalLaws.{job_at, node_modal}
use Rattle.judge.proofs.GivenLaws.{modal_facts, automaton_facts}

module _ (edges : List ℕ) (a c : ℕ) (l : a + c ≤ length edges) where
  cut_length : length (take ((a + c) - a) (drop a edges)) ≡ c
  cut_length = length-take-le ((a + c) - a) (drop a edges) (omega (arith, length-drop a edges)) ∙ omega arith

  cut_at : (i : ℕ) → i < c → at (take ((a + c) - a) (drop a edges)) i ≡ at edges (a + i)
  cut_at i h = get_or-take ((a + c) - a) (drop a edges) i 0 (omega arith) ∙ get_or-drop a edges i 0

module _ (t : Table) (m : ℕ) (f : AutomatonFacts t m) (edges : List ℕ) (L : Lent t edges) where
  in_edges : (automaton_at t m).first + (automaton_at t m).count ≤ length edges
  in_edges = omega (arith, f.edges≤, L.facts.edges≤, L.packed.size)

  pub size : length (cut_of (automaton_at t m) edges) ≡ (automaton_at t m).count
  size = cut_length edges (automaton_at t m).first (automaton_at t m).count in_edges

  pub at_cut : (c : ℕ) → c < length (cut_of (automaton_at t m) edges) → at (cut_of (automaton_at t m) edges) c ≡ at edges ((automaton_at t m).first + c)
  at_cut c l = cut_at edges (automaton_at t m).first (automaton_at t m).count in_edges c (omega (arith, size))

-- what judging a D or B asks for
pub record Asks (j : Job) (edges : List ℕ) : Type 0 where
  pub edges_ok : EdgesFit (cut_of j.automaton edges)
  pub job_ok : ModalFits j
  pub room : j.automaton.first + j.automaton.count ≤ length edges

module _ (t : Table) (row : Row) (j : Job) (log edges words : List ℕ) (K : Known t row j log edges words) where
  abbrev k : ℕ
  k = j.number.0

  pub known_low : (i : ℕ) → i < length words → at words i < 2 ^ k
  known_low = words_low (sheet_of t) (bits_of row) log k words K.words_are

  pub known_few : j.number.0 < node_limit
  known_few = omega (arith, K.in_table, K.lent.facts.nodes≤)

  -- A line that is no D or B ----------------------------------------------------------------------------------------------------

  pub plain_fits : modal_kind j.line.kind ≡ false → PlainFits j.line
  plain_fits e =
      let n = K.lent.facts.node k K.in_table in
      let few = known_few in
      subst PlainFits (sym K.line_is)
      (record {
        plain = ap (λ (l : NodeLine). modal_kind l.kind) (sym K.line_is) ∙ e;
        fact = λ p. omega (arith, n.fact< p);
        one_node = λ p. omega (arith, n.not< p);
        two_nodes = λ p. (omega (arith, (n.both< p).0), omega (arith, (n.both< p).1));
      })

  pub plain_done : modal_kind j.line.kind ≡ false → (after : List ℕ) (held : ℕ)
      → Added k (λ i. says_now (line_of j.line.kind j.line.a j.line.b) (at log i) (at words i)) (length words) words after held
      → NodeDone t row j log after (record { number = 0; held = held })
  unfolding sheet_of
  plain_done e after held a =
      let S = sheet_of t in
      let ρ = bits_of row in
      let kind_is : modal_kind (node_at t k).kind ≡ false = ap (λ (l : NodeLine). modal_kind l.kind) (sym K.line_is) ∙ e in
      let p = plain_of (node_at t k).kind (node_at t k).a (node_at t k).b kind_is in
      let says : ℕ → Bool = λ i. says_now (S.line k) (at log i) (at words i) in
      let b = subst (λ (l : NodeLine). Added k (λ i. says_now (line_of l.kind l.a l.b) (at log i) (at words i)) (length words) words after held) K.line_is a in
      let right = plain_bits S ρ log k words K.words_are p in
      record {
        held_is = added_count S ρ log k words K.words_are says after held b;
        words_are = added_words S ρ log k words K.words_are says after held b right;
        row_is = sym (plain-number S (S.line k) p (λ s. row_of j.way S log ρ k s) (λ s. inner j.way S log ρ k s) (λ s. row_form j.way S log ρ k s));
      }

  -- A D or B --------------------------------------------------------------------------------------------------------------------

  module _ (e : modal_kind j.line.kind ≡ true) where
    kind_is : modal_kind (node_at t j.number.0).kind ≡ true
    kind_is = ap (λ (l : NodeLine). modal_kind l.kind) (sym K.line_is) ∙ e

    job_with : NodeLine → Automaton → ℕ → Job
    job_with l q g = record { number = j.number; line = l; automaton = q; given = g; way = j.way }

    job_is : j ≡ job_at t row j.way j.number.0
    unfolding job_with
    job_is =
        ap (λ (q : Automaton). job_with j.line q j.given) (K.automaton_is e)
        ∙ ap (λ (g : ℕ). job_with j.line (automaton_at t j.line.a) g) K.given_is
        ∙ ap (λ (l : NodeLine). job_with l (automaton_at t l.a) (get_or row.bits k 0)) K.line_is

    abbrev m : ℕ
    m = (node_at t j.number.0).a

    facts : AutomatonFacts t (node_at t j.number.0).a
    facts = automaton_facts t K.lent.facts k kind_is

    pub asks : Asks j edges
    asks =
        subst (λ (x : Job). Asks x edges) (sym job_is)
        (record {
          edges_ok = edges_fit t K.lent.facts.nodes≤ K.lent.facts.edges≤ m facts edges (cut_of (automaton_at t m) edges) K.lent.packed (size t m facts edges K.lent) (at_cut t m facts edges K.lent);
          job_ok =
              record {
                few_states = facts.states≤;
                start_fits = omega (arith, facts.start<, facts.states≤);
                node_fits = omega (arith, (modal_facts t K.lent.facts k kind_is).node<, known_few);
                in_table = known_few;
              };
          room = in_edges t m facts edges K.lent;
        })

    pub modal_done : (after : List ℕ) (r : NodeAnswer) → ModalDone (cut_of j.automaton edges) j words after r → NodeDone t row j log after r
    modal_done after r M =
        let E = cut_of (automaton_at t m) edges in
        subst (λ (x : Job). NodeDone t row x log after r) (sym job_is)
        (node_modal t row j.way log k facts kind_is words K.words_are E after r (subst (λ (x : Job). ModalDone (cut_of x.automaton edges) x words after r) job_is M)
        (slice_reached t K.lent.facts.nodes≤ K.lent.facts.edges≤ m facts edges E K.lent.packed (size t m facts edges K.lent) (at_cut t m facts edges K.lent)))

-- The node at hand ----------------------------------------------------------------------------------------------------------------

abbrev pub job_of : ℕ → NodeLine → Automaton → Row → Way → Job
job_of k line q row way = record { number = record { 0 = k }; line = line; automaton = q; given = get_or row.bits k 0; way = way }

module _ (t : Table) (row : Row) (way : Way) (log edges words : List ℕ) (k : ℕ) (line : NodeLine) (L : Lent t edges) (below : k < t.used.nodes) (is : line ≡ node_at t k) where
  pub named : modal_kind line.kind ≡ true → line.a < automaton_limit
  named e =
      let m = modal_facts t L.facts k (ap (λ (x : NodeLine). modal_kind x.kind) (sym is) ∙ e) in
      omega (arith, ap (λ (x : NodeLine). x.a) is, m.automaton<, L.facts.automata≤)

  pub known_plain : modal_kind line.kind ≡ false → Words (sheet_of t) (bits_of row) log k words → Known t row (job_of k line (automaton_at t line.a) row way) log edges words
  known_plain e ws = record { lent = L; in_table = below; line_is = is; automaton_is = λ h. refl; given_is = refl; words_are = ws }

  pub known_modal : (q : Automaton) → modal_kind line.kind ≡ true → q ≡ lent_automaton edges line.a → Words (sheet_of t) (bits_of row) log k words → Known t row (job_of k line q row way) log edges words
  known_modal q e qe ws = record { lent = L; in_table = below; line_is = is; automaton_is = λ h. qe ∙ L.packed.automaton_is line.a (named e); given_is = refl; words_are = ws }

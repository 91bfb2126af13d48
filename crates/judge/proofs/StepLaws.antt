-- The steps at hand: whose they are when a node is judged, and that they serve the nodes after it, because an automaton's edges test only nodes above it.
use Rattle.std.specs.Prelude.{◌≡◌, ℕ, ◌+◌, ◌-◌, ◌*◌, ◌<◌, ◌≤◌, true, List, length, Option, Some, None}
use native.Mathlib.Omega.{arith}
use mathlib.Core.Path.{sym, subst, ap, ◌∙◌}
use Rattle.aldlf.specs.Sheet.{Sheet, sheet_of, bit}
use Rattle.aldlf.specs.Parts.{Bits}
use Rattle.aldlf.specs.Outcomes.{bits_of, pack_bits}
use Rattle.aldlf.specs.Verdict.{row_of}
use Rattle.aldlf.specs.Constants.{state_limit}
use Rattle.aldlf.specs.declared.Table.{Table}
use Rattle.aldlf.specs.declared.Row.{Row}
use Rattle.aldlf.specs.declared.Automaton.{Automaton}
use Rattle.aldlf.specs.declared.NodeLine.{NodeLine}
use Rattle.aldlf.specs.declared.Way.{Way}
use Rattle.aldlf.proofs.Laws.{judge_below}
use Rattle.sheet.specs.Facts.{node_at, automaton_at, edge_at, Lent}
use Rattle.reach.specs.Marks.{at, test_of, paired}
use Rattle.reach.specs.Columns as steps
use Rattle.reach.proofs.Shared.{filled_keep}
use Rattle.judge.specs.declared.nodes.Job.{Job}
use Rattle.judge.specs.declared.nodes.Have.{Have}
use Rattle.judge.specs.Nodes.{modal_kind, Known, Words, cut_of, Stepped, Served, Kept, Ready, Through, Filled, set_in}
use Rattle.judge.proofs.Slices.{test_at}
use Rattle.judge.proofs.KnownLaws.{size, at_cut}
use Rattle.judge.proofs.WordLaws.{known, held_last}
use Rattle.judge.proofs.GivenLaws.{modal_facts}

-- no steps yet
pub kept_none : (t : Table) (edges words C : List ℕ) (k : ℕ) → length C ≡ 49 * length words → Kept t edges words k None C
kept_none t edges words C k long = record { long = long; served = tt }

module _ (t : Table) (row : Row) (j : Job) (log edges words : List ℕ) (K : Known t row j log edges words) where
  abbrev k : ℕ
  k = j.number.0

  module _ (e : modal_kind j.line.kind ≡ true) where
    kind_is : modal_kind (node_at t j.number.0).kind ≡ true
    kind_is = ap (λ (l : NodeLine). modal_kind l.kind) (sym K.line_is) ∙ e

    line-a : j.line.a ≡ (node_at t j.number.0).a
    line-a = ap (λ (l : NodeLine). l.a) K.line_is

    there : j.line.a < t.used.automata
    there = omega (arith, line-a, (modal_facts t K.lent.facts k kind_is).automaton<)

    above : (automaton_at t j.line.a).before ≤ j.number.0
    above = subst (λ (m : ℕ). (automaton_at t m).before ≤ j.number.0) (sym line-a) (modal_facts t K.lent.facts k kind_is).before≤

    abbrev SteppedBy : ℕ → List ℕ → Automaton → Type 0
    SteppedBy looks C q = Stepped (cut_of q edges) words looks C

    pub ready_same : (have : Have) (C : List ℕ) → have.automaton ≡ j.line.a → Kept t edges words j.number.0 (Some have) C → Ready t j edges words have C
    ready_same have C same K₀ = record { kept = K₀; mine = subst (SteppedBy have.looks C) (ap (automaton_at t) same ∙ sym (K.automaton_is e)) K₀.served.stepped }

    pub ready_new : (have : Have) (C : List ℕ) → have.automaton ≡ j.line.a → length C ≡ 49 * length words → Stepped (cut_of j.automaton edges) words have.looks C → Ready t j edges words have C
    ready_new have C is long F =
        record {
          kept = record {
            long = long;
            served = record {
              there = omega (arith, is, there);
              above = subst (λ (m : ℕ). (automaton_at t m).before ≤ j.number.0) (sym is) above;
              stepped = subst (SteppedBy have.looks C) (K.automaton_is e ∙ ap (automaton_at t) (sym is)) F;
            };
          };
          mine = F;
        }

-- the words of one node more agree on the nodes that the edges test
served_next : (t : Table) (row : Row) (log edges W W2 C : List ℕ) (k : ℕ) (have : Have) → Lent t edges → Words (sheet_of t) (bits_of row) log k W → Words (sheet_of t) (bits_of row) log (k + 1) W2
    → Served t edges W k have C → Served t edges W2 (k + 1) have C
served_next t row log edges W W2 C k have L A B K =
    record {
      there = K.there;
      above = omega (arith, K.above);
      stepped =
          let F = K.stepped in
          record {
            told = F.told;
            placed = subst (λ (n : ℕ). steps.Placed n C) long F.placed;
            filled = subst (λ (n : ℕ). steps.Filled (E m) W2 n C) long (filled_keep (E m) W W2 (length W) C (λ i e li le. same i e li le) F.filled);
          };
    }
  where
    long : length W ≡ length W2
    long = A.size ∙ sym B.size

    m : ℕ
    m = have.automaton

    E : ℕ → List ℕ
    E m = cut_of (automaton_at t m) edges

    S : Sheet
    S = sheet_of t

    ρ : Bits
    ρ = bits_of row

    same : (i e : ℕ) → i < length W → e < length (cut_of (automaton_at t have.automaton) edges)
        → bit (at W2 i) (test_of (at (cut_of (automaton_at t have.automaton) edges) e)) ≡ bit (at W i) (test_of (at (cut_of (automaton_at t have.automaton) edges) e))
    same i e li le =
        let a = L.facts.automaton m K.there in
        let x = edge_at t ((automaton_at t m).first + e) in
        let z = test_at t L.facts.nodes≤ L.facts.edges≤ m a edges (E m) L.packed (size t m a edges L) (at_cut t m a edges L) e le in
        let test = test_of (at (E m) e) in
        let g = a.edge ((automaton_at t m).first + e) (omega arith) (omega (arith, size t m a edges L)) in
        let low : test < k = omega (arith, z, g.test<, K.above) in
        let li2 : i < length log = omega (arith, A.size) in
        known S ρ log (k + 1) W2 B test i li2 ∙ judge_below S log ρ (k + 1) test i (omega arith) ∙ sym (judge_below S log ρ k test i low) ∙ sym (known S ρ log k W A test i li2)

pub kept_next : (t : Table) (row : Row) (log edges W W2 C : List ℕ) (k : ℕ) (have : Option Have) → Lent t edges → Words (sheet_of t) (bits_of row) log k W → Words (sheet_of t) (bits_of row) log (k + 1) W2
    → Kept t edges W k have C → Kept t edges W2 (k + 1) have C
kept_next t row log edges W W2 C k None L A B K = record { long = K.long ∙ ap (λ (n : ℕ). 49 * n) (A.size ∙ sym B.size); served = tt }
kept_next t row log edges W W2 C k (Some have) L A B K =
    record { long = K.long ∙ ap (λ (n : ℕ). 49 * n) (A.size ∙ sym B.size); served = served_next t row log edges W W2 C k have L A B K.served }

-- one node further, where the turn's end names what the node left
pub through_next : (t : Table) (row : Row) (way : Way) (log edges W : List ℕ) (k : ℕ) → Lent t edges → Words (sheet_of t) (bits_of row) log k W
    → (ws C out : List ℕ) (held : ℕ) (have : Option Have) → Words (sheet_of t) (bits_of row) log (k + 1) (paired ws)
    → Filled (λ j. pack_bits state_limit (λ s. row_of way (sheet_of t) log (bits_of row) j s)) out (k + 1) → held ≡ set_in (length log) (paired ws) k → Kept t edges W k have C
    → (ws' C' out' : List ℕ) (held' : ℕ) (have' : Option Have) → ws' ≡ ws → C' ≡ C → out' ≡ out → held' ≡ held → have' ≡ have
    → Through t (record { way = way; row = row }) log edges (paired ws') C' out' held' have' (k + 1)
through_next t row way log edges W k L A ws C out held have B F h K ws' C' out' held' have' ew eC eo eh ev =
    record {
      words_are = subst (λ (z : List ℕ). Words (sheet_of t) (bits_of row) log (k + 1) (paired z)) (sym ew) B;
      row_is = subst (λ (z : List ℕ). Filled (λ j. pack_bits state_limit (λ s. row_of way (sheet_of t) log (bits_of row) j s)) z (k + 1)) (sym eo) F;
      held_is = λ _. eh ∙ held_last (length log) (paired ws) k held h ∙ ap (λ (z : List ℕ). set_in (length log) (paired z) (k + 1 - 1)) (sym ew);
      kept =
          subst (λ (z : List ℕ). Kept t edges (paired z) (k + 1) have' C') (sym ew)
          (subst (λ (z : List ℕ). Kept t edges (paired ws) (k + 1) have' z) (sym eC)
          (subst (λ (z : Option Have). Kept t edges (paired ws) (k + 1) z C) (sym ev) (kept_next t row log edges W (paired ws) C k have L A B K)));
    }

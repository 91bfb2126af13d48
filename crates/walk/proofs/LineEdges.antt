-- The chained edges of a line's automaton: they are the table's, and ready for the search.
use Prim.Native.Nat.{ℕ, ◌+◌, ◌≤◌, ◌<◌}
use native.Mathlib.Omega.{arith}
use mathlib.Core.Path.{sym, subst}
use mathlib.Core.List.{List}
use lib.ListN.{get_or, length}
use Rattle.aldlf.specs.Sheet.{no_edge, no_automaton}
use Rattle.aldlf.specs.declared.NodeLine.{NodeLine}
use Rattle.aldlf.specs.declared.Automaton.{Automaton}
use Rattle.aldlf.specs.declared.Table.{Table}
use Rattle.packing.specs.Numbers.{lent_edge}
use Rattle.packing.specs.Packed.{Packed}
use Rattle.graph.specs.Arcs.{Chained}
use Rattle.graph.specs.Configurations.{EdgeFits, Ready}
use Rattle.walk.specs.Search.{LineReady}

module _ (table : Table) (line : NodeLine) (words : List ℕ) (i : ℕ) (f : LineReady table line (length words) i) where
  abbrev q : Automaton
  q = get_or table.automata line.a no_automaton

  -- what chaining asks of the edges
  each_fits : (e : ℕ) → q.first ≤ e → e < q.first + q.count → EdgeFits 16 (get_or table.edges e no_edge)
  each_fits e a b =
      let x = f.each e a b in
      record { from_fits = omega (arith, x.from_fits, f.few_states); to_fits = omega (arith, x.to_fits, f.few_states); test_fits = x.test_fits; dir_fits = x.dir_fits }

  -- the same of the edges that are lent
  pub each_lent : (numbers : List ℕ) → Packed table numbers → (e : ℕ) → q.first ≤ e → e < q.first + q.count → EdgeFits 16 (lent_edge numbers e)
  each_lent numbers P e a b = subst (EdgeFits 16) (sym (P.edge_is e (omega (arith, f.few_edges)))) (each_fits e a b)

  pub ready_of : (arcs : List ℕ) → Chained table.edges q.first (q.first + q.count) arcs → 288 ≤ length arcs → Ready arcs q words
  ready_of arcs P room =
      record {
        some_state = f.some_state;
        few_states = f.few_states;
        few_words = f.few_words;
        few_edges = f.few_edges;
        room = room;
        each = λ e a b. subst (EdgeFits q.states) (sym (P.edge_is e a b)) (f.each e a b);
        into = P.into;
        out = P.out;
      }

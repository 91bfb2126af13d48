-- What the end of a path does to the counts, the stack and the table's edges, where there is room and where there is none.
use Prim.Native.Nat.{ℕ, ◌+◌, ◌-◌, ◌^◌, ◌≤◌, ◌<◌}
use mathlib.Core.Path.{◌≡◌, refl, ap, sym, ◌∙◌}
use mathlib.Core.Bool.{Bool, true, false, ◌&&◌}
use mathlib.Core.List.{List, ◌∷◌}
use native.Mathlib.Omega.{arith}
use lib.Dec.{ltb, leb}
use lib.ListN.{length, take, drop, set}
use lib.Seq.{sets, take-take, length-sets}
use borrow.Author.Tests.{ne_eqb, ltb-true, leb-true}
use Rattle.std.specs.Prelude.{Some, None}
use Rattle.aldlf.specs.Constants.{automaton_limit, state_limit, edge_limit}
use Rattle.aldlf.specs.declared.NodeLine.{NodeLine}
use Rattle.aldlf.specs.declared.Edge.{Edge}
use Rattle.aldlf.specs.declared.Automaton.{Automaton}
use Rattle.packing.specs.Numbers.{edge_in}
use Rattle.sheet.proofs.Bools as bools
use Rattle.making.specs.declared.stack.Kept.{Kept}
use Rattle.making.specs.declared.counts.Counts.{Counts}
use Rattle.making.specs.Work.{over, live, automaton_of, mark_kept, room_for, with_outline, emitted}
use Rattle.making.specs.Run.{bench, last_of, rest_of, letter_of, emitted_on}
use Rattle.making.specs.Numbers.{kept_of, edges_in, table_in, outline_in, work_in, bench_in, room_in, automaton_in, resumed_in, Sized, PathEnded}
use Rattle.making.proofs.Lists.{map-take, map-drop, map_sets, drop-take, first_length}

pub letter_d : (k : ℕ) → k ≡ 62 → 68 ≡ letter_of k
letter_d k e = rw e

pub letter-b : (k : ℕ) → ¬ (k ≡ 62) → 66 ≡ letter_of k
letter-b k e = rw (ne_eqb k 62 e)

-- what room says
pub record Room (c : Counts) : Type 0 where
  pub automata : c.automata < automaton_limit
  pub exit : c.exit.0 < state_limit
  pub base : c.base ≤ c.links

pub room_is : (c : Counts) → room_in c ≡ true → Room c
unfolding room_in
room_is c e =
    let A = ltb c.automata automaton_limit in
    let X = ltb c.exit.0 state_limit in
    let B = leb c.base c.links in
    let p = bools.both (A && X) B e in
    let q = bools.both A X p.0 in
    record {
      automata = ltb-true c.automata automaton_limit q.0;
      exit = ltb-true c.exit.0 state_limit q.1;
      base = leb-true c.base c.links p.1;
    }

pub room_yes : (c : Counts) (b : Bool) → b ≡ room_in c → b ≡ true → Room c
room_yes c b e h = room_is c (sym e ∙ h)

pub automaton_by : (c : Counts) (p : ℕ) → p ≡ 2 ^ c.exit.0
    → ◌≡◌ {A = Automaton} (record { states = c.states; start = c.entry; accepting = p; first = c.edges; count = c.links - c.base; before = c.nodes }) (automaton_in c)
automaton_by c p e = rw e

module _ (c : Counts) (xs : List ℕ) (long : length xs ≡ edge_limit) (s : Sized c) where
  room_same : (ns : List NodeLine) (ms : List Automaton) (es : List Edge) → room_for (outline_in c (edges_in xs)) (table_in c ns ms es) ≡ room_in c
  unfolding room_for room_in
  room_same ns ms es = rw (first_length edge_in xs c.links (omega arith))

  own_part : c.base ≤ c.links → drop c.base (take c.links (edges_in xs)) ≡ edges_in (take (c.links - c.base) (drop c.base xs))
  own_part h =
      drop-take c.base c.links (edges_in xs) h
      ∙ ap (λ (z : List Edge). take (c.links - c.base) z) (sym (map-drop edge_in c.base xs))
      ∙ sym (map-take edge_in (c.links - c.base) (drop c.base xs))

  own_length : c.base ≤ c.links → length (drop c.base (take c.links (edges_in xs))) ≡ c.links - c.base
  own_length h = let n = first_length edge_in xs c.links (omega arith) in lib.ListN.length-drop c.base (take c.links (edges_in xs)) ∙ ap (λ (z : ℕ). z - c.base) n

  module _ (es es' : List ℕ) (f : Kept) (m : ℕ) (room : room_in c ≡ true) (moved : es' ≡ sets es c.edges (take (c.links - c.base) (drop c.base xs))) where
    emit_live : (ns : List NodeLine) (ms : List Automaton)
        → emitted f (live (table_in c ns ms (edges_in es)) (outline_in c (edges_in xs)))
        ≡ live (table_in (resumed_in f m c) ns (set ms c.automata (automaton_in c)) (edges_in es')) (outline_in (resumed_in f m c) (edges_in xs))
    unfolding emitted with_outline
    emit_live ns ms =
        let h = (room_is c room).base in
        let k : edges_in es' ≡ sets (edges_in es) c.edges (drop c.base (take c.links (edges_in xs))) =
        ap edges_in moved ∙ map_sets edge_in es c.edges (take (c.links - c.base) (drop c.base xs)) ∙ ap (λ (z : List Edge). sets (edges_in es) c.edges z) (sym (own_part h)) in
        let r = room_same ns ms (edges_in es) ∙ room in
        rw (r, own_length h, take-take c.base c.links (edges_in xs) h, k)

    emit_yes : (op : ℕ) (st su : List ℕ) → f ≡ last_of (kept_of st c.top) → kept_of su m ≡ mark_kept (letter_of op) c.automata ∷ rest_of (kept_of st c.top) → (ns : List NodeLine) (ms : List Automaton)
        → bench_in (resumed_in f m c) ns (set ms c.automata (automaton_in c)) (edges_in es') (edges_in xs) su
        ≡ emitted_on op (work_in c ns ms (edges_in es) (edges_in xs)) (kept_of st c.top)
    unfolding emitted_on automaton_of emitted
    emit_yes op st su e g ns ms =
        let u = emit_live ns ms in
        let z : c.automata + 1 - 1 ≡ c.automata = omega arith in
        rw (← e, u, z, g)

    pub path_ended : (r : Counts) (x : Automaton) (op : ℕ) (st su : List ℕ) → r ≡ resumed_in f m c → x ≡ automaton_in c → f ≡ last_of (kept_of st c.top)
        → kept_of su m ≡ mark_kept (letter_of op) c.automata ∷ rest_of (kept_of st c.top) → m ≤ c.top + 1 → PathEnded (emitted_on op) c (Some (record { counts = r; automaton = x })) xs st su es es'
    path_ended r x op st su e h i j k =
        let o = room_is c room in
        rw (e, h)
        (record {
          work = λ ns ms. emit_yes op st su i j ns ms;
          top = k;
          sized = omega arith;
          room = o.automata;
          long = ap length moved ∙ length-sets es c.edges (take (c.links - c.base) (drop c.base xs));
        })

  emit_no : (op : ℕ) (s₀ : List Kept) → room_in c ≡ false → (ns : List NodeLine) (ms : List Automaton) (es : List Edge) → bench over s₀ ≡ emitted_on op (work_in c ns ms es (edges_in xs)) s₀
  unfolding emitted_on emitted
  emit_no op s₀ h ns ms es = rw (room_same ns ms es ∙ h)

  pub path_refused : (b : Bool) (op : ℕ) (st es : List ℕ) → b ≡ room_in c → b ≡ false → PathEnded (emitted_on op) c None xs st st es es
  path_refused b op st es f h =
      record { work = λ ns ms. emit_no op (kept_of st c.top) (sym f ∙ h) ns ms (edges_in es); top = tt; sized = tt; room = tt; long = refl }

-- A table that lines could have built is built by some: the last line is peeled off, by induction on the size.
use Prim.Native.Nat.{ℕ, zero, suc, ◌+◌, ◌*◌, ◌-◌, ◌≤◌, ◌<◌}
use mathlib.Core.Path.{◌≡◌, refl, ap, sym, ◌∙◌}
use mathlib.Core.List.{List, [], ◌∷◌}
use mathlib.Core.Bool.{Bool, true, false}
use mathlib.Core.Logic.{◌⊎◌, inl, inr, ⊎_elim}
use native.Mathlib.Nat.{eq-or-lt_of_le}
use native.Mathlib.Omega.{arith}
use lib.ListN.{length, get_or, replicate, length-append, length-replicate, get_or-replicate}
use lib.Seq.{ext_get_or}
use Rattle.aldlf.specs.Constants.{node_limit}
use Rattle.aldlf.specs.Sheet.{no_line, no_edge, no_automaton}
use Rattle.aldlf.specs.declared.NodeLine.{NodeLine}
use Rattle.aldlf.specs.declared.Edge.{Edge}
use Rattle.aldlf.specs.declared.Automaton.{Automaton}
use Rattle.aldlf.specs.declared.Table.{Table}
use Rattle.sheet.specs.declared.line.Line.{Line}
use Rattle.sheet.specs.declared.build.Reading.{Reading}
use Rattle.sheet.specs.Questions.{last, empty_table, start, accepted, whole_of, finish}
use Rattle.sheet.specs.Given.{Given, edges_before, nodes_before}
use Rattle.sheet.proofs.Bools.{same}
use Rattle.sheet.proofs.Fits.{edges_last}
use Rattle.sheet.proofs.Closed.{finish_0}
use Rattle.sheet.proofs.Reach.{Reach, reach_given, begin, next}
use Rattle.sheet.proofs.Grown.{Grown, mk, mono_of}
use Rattle.sheet.proofs.PeelNode.{Built, weaken, less_node, less_node_grown, build_node}
use Rattle.sheet.proofs.PeelEdge.{less_edge, less_edge_grown, build_edge}
use Rattle.sheet.proofs.PeelAutomaton.{less_auto, less_auto_grown, build_auto}

all_same : {A : Type 0} (d : A) (l : List A) (n : ℕ) → length l ≡ n → ((i : ℕ) → get_or l i d ≡ d) → l ≡ replicate n d
all_same d l n e f = ext_get_or d l (replicate n d) (e ∙ sym (length-replicate n d)) (λ i h. f i ∙ sym (get_or-replicate n i d d (omega arith)))

empty_of : (t : Table) → Grown t false → t.used.nodes ≡ 0 → empty_table ≡ t
empty_of t g z =
    let ac : t.used.automata ≡ 0 = ⊎_elim (λ (e : 0 ≡ t.used.automata). sym e) (λ (k : 0 < t.used.automata). absurd (omega (arith, g.outside refl 0 k))) (eq-or-lt_of_le {n = 0} {m = t.used.automata} (omega arith)) in
    let ec : t.used.edges ≡ 0 = sym g.total ∙ ap (edges_before t.automata) ac in
    let e1 = all_same no_line t.nodes node_limit g.nodes_long (λ i. g.no_nodes i (omega arith)) in
    let e2 = all_same no_automaton t.automata 16 g.automata_long (λ i. g.no_automata i (omega arith)) in
    let e3 = all_same no_edge t.edges 256 g.edges_long (λ i. g.no_edges i (omega arith)) in
    ap (λ (ns : List NodeLine). mk ns (replicate 16 no_automaton) (replicate 256 no_edge) 0 0 0) (sym e1)
    ∙ ap (λ (ms : List Automaton). mk t.nodes ms (replicate 256 no_edge) 0 0 0) (sym e2)
    ∙ ap (λ (es : List Edge). mk t.nodes t.automata es 0 0 0) (sym e3)
    ∙ ap (λ (n : ℕ). mk t.nodes t.automata t.edges n 0 0) (sym z)
    ∙ ap (λ (n : ℕ). mk t.nodes t.automata t.edges t.used.nodes n 0) (sym ac)
    ∙ ap (λ (n : ℕ). mk t.nodes t.automata t.edges t.used.nodes t.used.automata n) (sym ec)

-- whether the last line below is M, G or E
pub record LastFlag (ac : ℕ) (ms : List Automaton) (nc : ℕ) : Type 0 where
  pub flag : Bool
  pub in_M : flag ≡ true → (1 ≤ ac) × (nodes_before ms ac ≡ nc)
  pub out : flag ≡ false → (m : ℕ) → m < ac → (get_or ms m no_automaton).before < nc

flags : (ac : ℕ) (ms : List Automaton) (nc : ℕ) → ((m : ℕ) → m < ac → (get_or ms m no_automaton).before ≤ nc) → ((m m' : ℕ) → m ≤ m' → m' < ac → (get_or ms m no_automaton).before ≤ (get_or ms m' no_automaton).before) → LastFlag ac ms nc
flags zero ms nc f g = record { flag = false; in_M = λ q. absurd (let y : ◌≡◌ {A = ℕ} 0 1 = cc in omega arith); out = λ q m w. absurd (omega arith) }
flags (suc ac) ms nc f g = go (same (get_or ms ac no_automaton).before nc)
  where
    go : ((get_or ms ac no_automaton).before ≡ nc) ⊎ ((get_or ms ac no_automaton).before ≡ nc → ⊥) → LastFlag (suc ac) ms nc
    go (inl e) = record { flag = true; in_M = λ q. (omega arith, e); out = λ q. absurd (let y : ◌≡◌ {A = ℕ} 0 1 = cc in omega arith) }
    go (inr e) = record { flag = false; in_M = λ q. absurd (let y : ◌≡◌ {A = ℕ} 0 1 = cc in omega arith); out = λ q m w. omega (arith, f ac (omega arith), g m ac (omega arith) (omega arith)) }

pub size : Table → ℕ
size t = t.used.nodes + 17 * t.used.automata + t.used.edges

node_flag : (t : Table) (g : Grown t false) → 1 ≤ t.used.nodes → LastFlag t.used.automata t.automata (t.used.nodes - 1)
node_flag t g h = flags t.used.automata t.automata (t.used.nodes - 1) (λ m w. omega (arith, g.outside refl m w)) (mono_of t false g)

auto_flag : (t : Table) (g : Grown t true) → LastFlag (t.used.automata - 1) t.automata t.used.nodes
auto_flag t g = flags (t.used.automata - 1) t.automata t.used.nodes (λ m w. (g.automata m (omega arith)).before≤) (λ m m' a b. mono_of t true g m m' a (omega arith))

-- one line less, whichever it is
data Last (t : Table) : Bool → Type 0 where
  start_of : t.used.nodes ≡ 0 → Last t false
  node_of : 1 ≤ t.used.nodes → Last t false
  edge_of : 1 ≤ (last t).count → Last t true
  auto_of : (last t).count ≡ 0 → Last t true

which : (t : Table) (b : Bool) → Last t b
which t false = ⊎_elim (λ (e : t.used.nodes ≡ 0). start_of e) (λ f. node_of (omega arith)) (same t.used.nodes 0)
which t true = ⊎_elim (λ (e : (last t).count ≡ 0). auto_of e) (λ f. edge_of (omega arith)) (same (last t).count 0)

from_start : (t : Table) → Grown t false → t.used.nodes ≡ 0 → Built t false (size t)
from_start t g z = record { ls = []; r = start; way = begin; same = empty_of t g z; flag = refl; short = omega arith }

-- what is built of smaller tables
Smaller : ℕ → Type 0
Smaller f = (t : Table) (b : Bool) → size t < f → Grown t b → Built t b (size t)

by_node : (t : Table) (g : Grown t false) → 1 ≤ t.used.nodes → Smaller (size t) → Built t false (size t)
unfolding Smaller size less_node
by_node t g h s =
    let w = node_flag t g h in
    let u = s (less_node t g h) w.flag (omega arith) (less_node_grown t g h w.flag w.in_M w.out) in
    weaken (size t) (omega arith) (build_node t g h w.flag (size (less_node t g h)) u)

sum_of : (t : Table) → Grown t true → (1 ≤ t.used.automata) × ((last t).first + (last t).count ≡ t.used.edges)
sum_of t g = let p = (g.inside refl).0 in (p, sym (edges_last t.automata t.used.automata p) ∙ g.total)

by_edge : (t : Table) (g : Grown t true) → 1 ≤ (last t).count → Smaller (size t) → Built t true (size t)
unfolding Smaller size less_edge
by_edge t g h s =
    let k = sum_of t g in
    let u = s (less_edge t g h) true (omega arith) (less_edge_grown t g h) in
    weaken (size t) (omega arith) (build_edge t g h (size (less_edge t g h)) u)

by_auto : (t : Table) (g : Grown t true) → (last t).count ≡ 0 → Smaller (size t) → Built t true (size t)
unfolding Smaller size less_auto
by_auto t g h s =
    let k = sum_of t g in
    let w = auto_flag t g in
    let u = s (less_auto t g h) w.flag (omega arith) (less_auto_grown t g h w.flag w.in_M w.out) in
    weaken (size t) (omega arith) (build_auto t g h w.flag (size (less_auto t g h)) u)

by : (t : Table) (b : Bool) → Last t b → Grown t b → Smaller (size t) → Built t b (size t)
by t false (start_of e) g s = from_start t g e
by t false (node_of h) g s = by_node t g h s
by t true (edge_of h) g s = by_edge t g h s
by t true (auto_of h) g s = by_auto t g h s

build_below : (f : ℕ) → Smaller f
unfolding Smaller
build_below zero t b h g = absurd (omega arith)
build_below (suc f) t b h g = by t b (which t b) g (λ t' b' h' g'. build_below f t' b' (omega arith) g')

pub build : (t : Table) (b : Bool) → Grown t b → Built t b (size t)
unfolding Smaller
build t b g = build_below (suc (size t)) t b (omega arith) g

-- question 31, from the checks to a sheet
reach_some : {ls : List Line} {r : Reading} → Reach ls r → 1 ≤ r.table.used.nodes → 1 ≤ length ls
reach_some begin h = absurd (omega arith)
reach_some (next {ls = ls} {l = l} w k q) h = omega (arith, length-append ls (l ∷ []))

pub given : (t : Table) → Grown t false → 1 ≤ t.used.nodes → t.used.automata ≤ whole_of t → Given t
unfolding size
given t g h w =
    let u = build t false g in
    let r = u.r in
    let n : 1 ≤ r.table.used.nodes = rw u.same h in
    let k : r.table.used.automata ≤ whole_of r.table = rw u.same w in
    let e : finish r (length u.ls) ≡ accepted t = sym (finish_0 r (length u.ls) (whole_of r.table) refl k u.flag) ∙ ap accepted u.same in
    reach_given t u.way (reach_some u.way n) (omega (arith, u.short, g.nodes≤, g.automata≤, g.edges≤)) e

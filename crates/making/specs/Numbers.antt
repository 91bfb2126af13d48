-- What the code's counts and lent numbers stand for, and what its functions promise about them.
use Rattle.std.specs.Prelude.{ℕ, zero, suc, ◌+◌, ◌-◌, ◌^◌, ◌≤◌, ◌<◌, ◌≡◌, Bool, ◌&&◌, Option, Some, None, IfSome, ltb, leb, List, [], ◌∷◌, map, length, get_or, take, set}
use Rattle.aldlf.specs.Constants.{automaton_limit, state_limit, edge_limit}
use Rattle.aldlf.specs.declared.State.{State}
use Rattle.aldlf.specs.declared.NodeLine.{NodeLine}
use Rattle.aldlf.specs.declared.Edge.{Edge}
use Rattle.aldlf.specs.declared.Automaton.{Automaton}
use Rattle.aldlf.specs.declared.Table.{Table}
use Rattle.packing.specs.Numbers.{edge_in, line_in}
use Rattle.making.specs.declared.stack.Kept.{Kept}
use Rattle.making.specs.declared.counts.Counts.{Counts}
use Rattle.making.specs.declared.ending.Ended.{Ended}
use Rattle.making.specs.Work.{Outline, Made, over, live, linked}
use Rattle.making.specs.Run.{Bench, bench}

-- The four bytes in a number, in the places of an edge's.
abbrev pub kept_in : ℕ → Kept
kept_in p = let e = edge_in p in record { a = e.from.0; b = e.dir; c = e.test.0; d = e.to.0 }

-- What the first n numbers of a stack keep, the last one first.
unfoldable pub kept_of : List ℕ → ℕ → List Kept
kept_of xs zero = []
kept_of xs (suc n) = kept_in (get_or xs n 0) ∷ kept_of xs n

-- The node lines and the edges in numbers.
abbrev pub lines_in : List ℕ → List NodeLine
lines_in xs = map line_in xs

abbrev pub edges_in : List ℕ → List Edge
edges_in xs = map edge_in xs

-- The table and the path in hand, by the counts.
abbrev pub table_in : Counts → List NodeLine → List Automaton → List Edge → Table
table_in c ns ms es = record { nodes = ns; automata = ms; edges = es; used = record { nodes = c.nodes; automata = c.automata; edges = c.edges } }

abbrev pub outline_in : Counts → List Edge → Outline
outline_in c ks = record { states = c.states; base = c.base; links = take c.links ks; entry = c.entry.0; exit = c.exit.0 }

-- What is made, by the counts; and by an answer, where no counts mean that a limit is passed.
abbrev pub work_in : Counts → List NodeLine → List Automaton → List Edge → List Edge → Made
work_in c ns ms es ks = live (table_in c ns ms es) (outline_in c ks)

abbrev pub work_by : Option Counts → List NodeLine → List Automaton → List Edge → List Edge → Made
work_by None ns ms es ks = over
work_by (Some c) ns ms es ks = work_in c ns ms es ks

-- What is made and what is kept.
abbrev pub bench_in : Counts → List NodeLine → List Automaton → List Edge → List Edge → List ℕ → Bench
bench_in c ns ms es ks st = bench (work_in c ns ms es ks) (kept_of st c.top)

abbrev pub bench_by : Option Counts → List NodeLine → List Automaton → List Edge → List Edge → List ℕ → Bench
bench_by None ns ms es ks st = bench over []
bench_by (Some c) ns ms es ks st = bench_in c ns ms es ks st

-- The same where a path ends and its automaton is put at place k.
abbrev pub bench_ended : Option Ended → ℕ → List NodeLine → List Automaton → List Edge → List Edge → List ℕ → Bench
bench_ended None k ns ms es ks st = bench over []
bench_ended (Some e) k ns ms es ks st = bench_in e.counts ns (set ms k e.automaton) es ks st

-- The counts with other states and ends.
abbrev pub ended_in : ℕ → State → State → Counts → Counts
ended_in s a b c =
    record {
      nodes = c.nodes;
      automata = c.automata;
      edges = c.edges;
      links = c.links;
      states = s;
      base = c.base;
      entry = a;
      exit = b;
      top = c.top;
    }

-- The counts with n numbers on the stack.
abbrev pub topped_in : ℕ → Counts → Counts
topped_in n c =
    record {
      nodes = c.nodes;
      automata = c.automata;
      edges = c.edges;
      links = c.links;
      states = c.states;
      base = c.base;
      entry = c.entry;
      exit = c.exit;
      top = n;
    }

-- The counts before node 0.
abbrev pub no_counts : Counts
no_counts =
    record {
      nodes = 0;
      automata = 0;
      edges = 0;
      links = 0;
      states = 0;
      base = 0;
      entry = record { 0 = 0 };
      exit = record { 0 = 0 };
      top = 0;
    }

-- Whether the path in hand can end, and the automaton that is made of it then.
unfoldable pub room_in : Counts → Bool
room_in c = ltb c.automata automaton_limit && ltb c.exit.0 state_limit && leb c.base c.links

abbrev pub automaton_in : Counts → Automaton
automaton_in c = record { states = c.states; start = c.entry; accepting = 2 ^ c.exit.0; first = c.edges; count = c.links - c.base; before = c.nodes }

-- The counts behind the path's end, with the outer path as it was put aside.
abbrev pub resumed_in : Kept → ℕ → Counts → Counts
resumed_in f n c =
    record {
      nodes = c.nodes;
      automata = c.automata + 1;
      edges = c.edges + (c.links - c.base);
      links = c.base;
      states = f.c;
      base = f.d;
      entry = record { 0 = f.a };
      exit = record { 0 = f.b };
      top = n;
    }

-- The edges of the table and the open links are within the limit.
abbrev pub Sized : Counts → Type 0
Sized c = c.edges + c.links ≤ edge_limit

-- A function that changes only the lines, by f.
pub record Lined (f : Made → Made) (c : Counts) (r : Option Counts) (before after : List ℕ) : Type 0 where
  pub work : (ms : List Automaton) (es ks : List Edge) → work_by r (lines_in after) ms es ks ≡ f (work_in c (lines_in before) ms es ks)
  pub top : IfSome r (λ x. x.top ≡ c.top)
  pub sized : IfSome r (λ x. Sized c → Sized x)
  pub long : length after ≡ length before

-- Links put one after the other.
unfoldable pub all_linked : List Edge → Made → Made
all_linked [] w = w
all_linked (e ∷ es) w = all_linked es (linked e w)

-- A function that changes only the links, by f.
pub record Drawn (f : Made → Made) (c : Counts) (r : Option Counts) (before after : List ℕ) : Type 0 where
  pub work : (ns : List NodeLine) (ms : List Automaton) (es : List Edge) → work_by r ns ms es (edges_in after) ≡ f (work_in c ns ms es (edges_in before))
  pub top : IfSome r (λ x. x.top ≡ c.top)
  pub sized : IfSome r (λ x. Sized x)
  pub long : length after ≡ edge_limit

-- Instructions that make a node, on a stack: f says what becomes of what is made and of what is kept.
pub record NodeMade (f : Made → List Kept → Bench) (c : Counts) (r : Option Counts) (stack before after : List ℕ) : Type 0 where
  pub work : (ms : List Automaton) (es ks : List Edge) → bench_by r (lines_in after) ms es ks stack ≡ f (work_in c (lines_in before) ms es ks) (kept_of stack c.top)
  pub top : IfSome r (λ x. x.top ≤ c.top)
  pub sized : IfSome r (λ x. Sized c → Sized x)
  pub long : length after ≡ length before

-- Instructions that only keep something: the stack changes.
pub record KeptMore (f : Made → List Kept → Bench) (c : Counts) (r : Option Counts) (before after : List ℕ) : Type 0 where
  pub work : (ns : List NodeLine) (ms : List Automaton) (es ks : List Edge) → length ks ≡ edge_limit → bench_by r ns ms es ks after ≡ f (work_in c ns ms es ks) (kept_of before c.top)
  pub top : IfSome r (λ x. x.top ≤ c.top + 1)
  pub sized : IfSome r (λ x. Sized x)

-- Instructions that draw the path in hand, on a stack: the links change.
pub record PathDrawn (f : Made → List Kept → Bench) (c : Counts) (r : Option Counts) (stack before after : List ℕ) : Type 0 where
  pub work : (ns : List NodeLine) (ms : List Automaton) (es : List Edge) → bench_by r ns ms es (edges_in after) stack ≡ f (work_in c ns ms es (edges_in before)) (kept_of stack c.top)
  pub top : IfSome r (λ x. x.top ≤ c.top)
  pub sized : IfSome r (λ x. Sized x)
  pub long : length after ≡ edge_limit

-- The path ends: the stack and the table's edges change, and an automaton is to be put at its place.
pub record PathEnded (f : Made → List Kept → Bench) (c : Counts) (r : Option Ended) (links before after edges edges' : List ℕ) : Type 0 where
  pub work : (ns : List NodeLine) (ms : List Automaton)
      → bench_ended r c.automata ns ms (edges_in edges') (edges_in links) after ≡ f (work_in c ns ms (edges_in edges) (edges_in links)) (kept_of before c.top)
  pub top : IfSome r (λ x. x.counts.top ≤ c.top + 1)
  pub sized : IfSome r (λ x. Sized x.counts)
  pub room : IfSome r (λ x. c.automata < automaton_limit)
  pub long : length edges' ≡ length edges

-- What is made so far: the table and the automaton of the path in hand, or that a sheet limit is passed; and one step of making.
use Rattle.std.specs.Prelude.{ℕ, ◌+◌, ◌-◌, ◌^◌, Bool, cond, ◌&&◌, List, [], ◌∷◌, ◌++◌, eqb, ltb, leb, length, take, drop, set}
use Rattle.std.proofs.lemmas.List.Edits.{sets}
use Rattle.aldlf.specs.Constants.{node_limit, automaton_limit, state_limit, edge_limit, letter_n}
use Rattle.aldlf.specs.declared.Edge.{Edge}
use Rattle.aldlf.specs.declared.Table.{Table}
use Rattle.formula.specs.Numbering.{edge_of, link, with_letter, newest}
use Rattle.making.specs.declared.stack.Kept.{Kept}

-- The path in hand: its states so far, and where the part made last starts and ends.
-- The links are the edges of all open paths, outer ones first; `base` of them belong to outer paths.
pub record Outline : Type 0 where
  pub states : ℕ
  pub base : ℕ
  pub links : List Edge
  pub entry : ℕ
  pub exit : ℕ

-- What is made: nothing, since a limit is passed; or a table and the path in hand.
pub data Made : Type 0 where
  over : Made
  live : Table → Outline → Made

-- No path is in hand.
abbrev pub no_outline : Outline
no_outline = record { states = 0; base = 0; links = []; entry = 0; exit = 0 }

-- What is made, changed where it is live.
abbrev pub on_made : (Table → Outline → Made) → Made → Made
on_made f over = over
on_made f (live t o) = f t o

-- One node more, where there is room.
abbrev pub grown_live : ℕ → ℕ → ℕ → Table → Outline → Made
grown_live letter a b t o = cond (ltb t.used.nodes node_limit) (live (with_letter t letter a b) o) over

unfoldable pub grown : ℕ → ℕ → ℕ → Made → Made
grown letter a b w = on_made (grown_live letter a b) w

-- The last node.
unfoldable pub newest_of : Made → ℕ
newest_of over = 0
newest_of (live t o) = newest t

-- The last automaton.
unfoldable pub automaton_of : Made → ℕ
automaton_of over = 0
automaton_of (live t o) = t.used.automata - 1

-- The node of a prefix on the last node: N takes only that one, the others k before it.
unfoldable pub under : ℕ → ℕ → Made → Made
under letter k w = cond (eqb letter letter_n) (grown letter (newest_of w) 0 w) (grown letter k (newest_of w) w)

-- Four bytes that are kept: none; a node; a letter and an automaton.
abbrev pub no_kept : Kept
no_kept = record { a = 0; b = 0; c = 0; d = 0 }

abbrev pub node_kept : ℕ → Kept
node_kept n = record { a = n; b = 0; c = 0; d = 0 }

abbrev pub mark_kept : ℕ → ℕ → Kept
mark_kept letter k = record { a = letter; b = k; c = 0; d = 0 }

-- The ends of the part of a path made last.
unfoldable pub part_of : Made → Kept
part_of over = no_kept
part_of (live t o) = record { a = o.entry; b = o.exit; c = 0; d = 0 }

-- What a path inside a path puts aside: the outer one's ends, states and base.
unfoldable pub frame_of : Made → Kept
frame_of over = no_kept
frame_of (live t o) = record { a = o.entry; b = o.exit; c = o.states; d = o.base }

-- Whether there is room for an edge: the table's edges and all open links count.
abbrev pub link_room : Table → Outline → Bool
link_room t o = ltb (t.used.edges + length o.links) edge_limit

-- A path begins, where there is room for its first edge.
abbrev pub begun_live : Table → Outline → Made
begun_live t o = cond (link_room t o) (live t (record { states = 0; base = length o.links; links = o.links; entry = 0; exit = 0 })) over

unfoldable pub begun : Made → Made
begun w = on_made begun_live w

-- One link more, where there is room.
abbrev pub linked_live : Edge → Table → Outline → Made
linked_live e t o =
    cond (link_room t o) (live t (record { states = o.states; base = o.base; links = o.links ++ (e ∷ []); entry = o.entry; exit = o.exit })) over

unfoldable pub linked : Edge → Made → Made
linked e w = on_made (linked_live e) w

-- The path in hand with its states, and the ends of the part made last.
abbrev pub ended_live : ℕ → ℕ → ℕ → Table → Outline → Made
ended_live s a b t o = live t (record { states = s; base = o.base; links = o.links; entry = a; exit = b })

unfoldable pub ended : ℕ → ℕ → ℕ → Made → Made
ended s a b w = on_made (ended_live s a b) w

-- What is made, where there is room for two states more.
abbrev pub widened : Outline → Made → Made
widened o w = cond (ltb o.states 15) w over

-- The part made last is now between two new states s and s + 1.
abbrev pub between : ℕ → Made → Made
between s w = ended (s + 2) s (s + 1) w

-- A step: two states, and one edge that tests the last node.
abbrev pub step_live : ℕ → Table → Outline → Made
step_live d t o = widened o (between o.states (linked (edge_of o.states d (newest t) (o.states + 1)) (live t o)))

unfoldable pub step_drawn : ℕ → Made → Made
step_drawn d w = on_made (step_live d) w

-- `;`: the end of the left side is joined to the start of the part made last.
abbrev pub seq_live : Kept → Table → Outline → Made
seq_live l t o = ended o.states l.a o.exit (linked (link l.b o.entry) (live t o))

unfoldable pub seq_drawn : Kept → Made → Made
seq_drawn l w = on_made (seq_live l) w

-- Four links, one after the other.
abbrev pub four_linked : Edge → Edge → Edge → Edge → Made → Made
four_linked e f g h w = linked h (linked g (linked f (linked e w)))

-- `+`: a new start before both sides, a new end behind both.
abbrev pub alt_live : Kept → Table → Outline → Made
alt_live l t o =
    widened o
    (between o.states
    (four_linked (link o.states l.a) (link o.states o.entry) (link l.b (o.states + 1)) (link o.exit (o.states + 1)) (live t o)))

unfoldable pub alt_drawn : Kept → Made → Made
alt_drawn l w = on_made (alt_live l) w

-- `*`: a new start before the part and a new end behind it, from the part's end back to its start, and past it.
abbrev pub star_live : Table → Outline → Made
star_live t o =
    widened o
    (between o.states
    (four_linked (link o.states o.entry) (link o.exit o.entry) (link o.exit (o.states + 1)) (link o.states (o.states + 1)) (live t o)))

unfoldable pub star_drawn : Made → Made
star_drawn w = on_made star_live w

-- Whether the path in hand can end: there is room for an automaton, and its end and its base are in range.
unfoldable pub room_for : Outline → Table → Bool
room_for o t = ltb t.used.automata automaton_limit && ltb o.exit state_limit && leb o.base (length o.links)

-- The table with the path's automaton more: its M, G and E lines.
unfoldable pub with_outline : Outline → Table → Table
with_outline o t =
    let own = drop o.base o.links in
    record {
      nodes = t.nodes;
      automata =
          set t.automata t.used.automata
          (record {
            states = o.states;
            start = record { 0 = o.entry };
            accepting = 2 ^ o.exit;
            first = t.used.edges;
            count = length own;
            before = t.used.nodes;
          });
      edges = sets t.edges t.used.edges own;
      used = record { nodes = t.used.nodes; automata = t.used.automata + 1; edges = t.used.edges + length own };
    }

-- The outer path is in hand again, as it was put aside.
abbrev pub resumed : Kept → Outline → Outline
resumed f o = record { states = f.c; base = f.d; links = take o.base o.links; entry = f.a; exit = f.b }

-- A path ends: its automaton is in the table.
abbrev pub emitted_live : Kept → Table → Outline → Made
emitted_live f t o = cond (room_for o t) (live (with_outline o t) (resumed f o)) over

unfoldable pub emitted : Kept → Made → Made
emitted f w = on_made (emitted_live f) w

-- Sheets worked by hand in document 01, by computation: what they read to, and whether some sheet gives a table.
use Prim.Native.Nat.{ℕ, ◌-◌}
use mathlib.Core.Path.{◌≡◌, refl}
use mathlib.Core.List.{List, [], ◌∷◌}
use mathlib.Core.Bool.{true, false}
use lib.ListN.{replicate, set}
use Rattle.aldlf.specs.Constants.{node_limit, letter_t, letter_p, letter_d}
use Rattle.aldlf.specs.Sheet.{no_line, no_edge, no_automaton}
use Rattle.aldlf.specs.declared.Table.{Table}
use Rattle.text.specs.Text.{pieces, lines, number, number_in, all_digits, value_of}
use Rattle.sheet.specs.Ranges.{is_of_kind, kinds, stop_at, first_wrong, out_of_range}
use Rattle.sheet.specs.Questions.{parsed, known_line, all_numbers, room_left, belongs, newly_accepting, plain_from, plain_step, question, with_node, with_automaton, with_accepting, with_edge, with_line, added, empty_table, accepted, refused_by, refused, some_edge, each, whole, finish, read_lines, read_sheet}
use Rattle.sheet.specs.Given.{node_fits, edge_fits, head_fits, edges_fit, used_fits, nodes_fit, automata_fit, nodes_end, automata_end, edges_end, well_formed}

-- W: `T` `P,1` `M,1,0` `G,0` `E,0,1,0,0` `D,0,1`
abbrev W : List ℕ
W = 84 ∷ 10 ∷ 80 ∷ 44 ∷ 49 ∷ 10 ∷ 77 ∷ 44 ∷ 49 ∷ 44 ∷ 48 ∷ 10 ∷ 71 ∷ 44 ∷ 48 ∷ 10 ∷ 69 ∷ 44 ∷ 48 ∷ 44 ∷ 49 ∷ 44 ∷ 48 ∷ 44 ∷ 48 ∷ 10 ∷ 68 ∷ 44 ∷ 48 ∷ 44 ∷ 49 ∷ 10 ∷ []

-- its table: nodes T, P 1 and D of automaton 0 and node 1; an automaton of one state that accepts, below two nodes; an edge ahead that tests node 0
abbrev table_w : Table
table_w =
    record {
      nodes = record { kind = letter_t; a = 0; b = 0 } ∷ record { kind = letter_p; a = 1; b = 0 } ∷ record { kind = letter_d; a = 0; b = 1 } ∷ replicate (node_limit - 3) no_line;
      automata = record { states = 1; start = record { 0 = 0 }; accepting = 1; first = 0; count = 1; before = 2 } ∷ replicate 15 no_automaton;
      edges = record { from = record { 0 = 0 }; dir = 1; test = record { 0 = 0 }; to = record { 0 = 0 } } ∷ replicate 255 no_edge;
      used = record { nodes = 3; automata = 1; edges = 1 };
    }

pub W_reads : read_sheet W ≡ accepted table_w
unfolding read_sheet read_lines finish question added with_line with_node with_automaton with_accepting with_edge parsed known_line all_numbers room_left belongs out_of_range kinds is_of_kind first_wrong newly_accepting plain_step plain_from whole each some_edge lines pieces number number_in all_digits value_of
W_reads = refl

pub W_given : well_formed table_w ≡ true
unfolding well_formed used_fits nodes_fit node_fits automata_fit head_fits edges_fit edge_fits nodes_end automata_end edges_end whole each some_edge plain_from
W_given = refl

-- no sheet gives the table that is all zeros
pub empty_not_given : well_formed empty_table ≡ false
unfolding well_formed used_fits
empty_not_given = refl

-- an empty sheet
pub empty_2 : read_sheet [] ≡ refused 2 0
unfolding read_sheet
empty_2 = refl

-- the table whose one node is fact 7
abbrev table7 : Table
table7 =
    record {
      nodes = set empty_table.nodes 0 (record { kind = letter_p; a = 7; b = 0 });
      automata = empty_table.automata;
      edges = empty_table.edges;
      used = record { nodes = 1; automata = 0; edges = 0 };
    }

-- `P,7`, `P,07` and `P,007` are fact 7
pub padded_7 : (read_sheet (80 ∷ 44 ∷ 55 ∷ 10 ∷ []) ≡ accepted table7) × (read_sheet (80 ∷ 44 ∷ 48 ∷ 55 ∷ 10 ∷ []) ≡ accepted table7)
    × (read_sheet (80 ∷ 44 ∷ 48 ∷ 48 ∷ 55 ∷ 10 ∷ []) ≡ accepted table7)
unfolding read_sheet read_lines finish question added with_line with_node parsed known_line all_numbers room_left belongs out_of_range kinds is_of_kind first_wrong newly_accepting plain_step whole lines pieces number number_in all_digits value_of
padded_7 = (refl, refl, refl)

-- `P,0007`
pub four_digits_4 : read_sheet (80 ∷ 44 ∷ 48 ∷ 48 ∷ 48 ∷ 55 ∷ 10 ∷ []) ≡ refused 4 1
unfolding read_sheet read_lines question parsed known_line all_numbers room_left belongs out_of_range kinds is_of_kind first_wrong newly_accepting plain_step lines pieces number number_in all_digits value_of
four_digits_4 = refl

-- `P,32`; `P,31`
pub fact_71 : read_sheet (80 ∷ 44 ∷ 51 ∷ 50 ∷ 10 ∷ []) ≡ refused_by (stop_at 71 2) 1
unfolding read_sheet read_lines question parsed known_line all_numbers room_left belongs out_of_range kinds is_of_kind first_wrong newly_accepting plain_step lines pieces number number_in all_digits value_of
fact_71 = refl

pub fact_31 : (read_sheet (80 ∷ 44 ∷ 51 ∷ 49 ∷ 10 ∷ [])).number ≡ 0
unfolding read_sheet read_lines finish question added with_line with_node parsed known_line all_numbers room_left belongs out_of_range kinds is_of_kind first_wrong newly_accepting plain_step whole lines pieces number number_in all_digits value_of
fact_31 = refl

-- `M,1,0` then `T`: the M line is line 1
pub bare_10 : read_sheet (77 ∷ 44 ∷ 49 ∷ 44 ∷ 48 ∷ 10 ∷ 84 ∷ 10 ∷ []) ≡ refused 10 1
unfolding read_sheet read_lines finish question added with_line with_node with_automaton parsed known_line all_numbers room_left belongs out_of_range kinds is_of_kind first_wrong newly_accepting plain_step whole each some_edge lines pieces number number_in all_digits value_of
bare_10 = refl

-- `T` `M,1,0` `E,0,3,9,9`: the direction is the leftmost of three numbers out of range
pub leftmost_75 : read_sheet (84 ∷ 10 ∷ 77 ∷ 44 ∷ 49 ∷ 44 ∷ 48 ∷ 10 ∷ 69 ∷ 44 ∷ 48 ∷ 44 ∷ 51 ∷ 44 ∷ 57 ∷ 44 ∷ 57 ∷ 10 ∷ []) ≡ refused_by (stop_at 75 3) 3
unfolding read_sheet read_lines finish question added with_line with_node with_automaton parsed known_line all_numbers room_left belongs out_of_range kinds is_of_kind first_wrong newly_accepting plain_step whole each some_edge lines pieces number number_in all_digits value_of
leftmost_75 = refl

-- `end_path` meets its contract: the steps of a path's end, where there is room for an automaton. Assumes nothing.
use Prim.Native.Nat.{◌+◌, ℕ}
use mathlib.Core.Path.{ap, sym, ◌∙◌}
use mathlib.Core.List.{List, ◌∷◌}
use native.Mathlib.Omega.{arith}
use Rattle.making.specs.declared.stack.Kept.{Kept}
use Rattle.making.specs.Work.{mark_kept}
use Rattle.making.specs.Run.{letter_of}
use Rattle.making.specs.Numbers.{kept_of}
use Rattle.making.proofs.PathEnds.{room_yes, path_ended, path_refused}
use Rattle.making.proofs.ending.end_path.Goals as goal

pub overflow_sub-c : goal.overflow_sub-c
overflow_sub-c c =
    (room_yes c.args.c c.has_room.result c.has_room.ensures c.if-has_room.true).base

pub returns-then-has_room : goal.returns-then-has_room
returns-then-has_room c =
    let a = c.args in
    let pre = c.requires in
    let below = c.below-rest in
    let push = c.push in
    path_ended a.c a.links.now pre.2 pre.1 a.edges.now c.move_links.new.edges c.last_kept-frame.result (below.result + 1) (sym c.has_room.ensures ∙ c.if-has_room.true) c.move_links.ensures c.resumed-counts.result c.automaton_of-automaton.result a.op a.stack.now push.new.stack c.resumed-counts.ensures c.automaton_of-automaton.ensures c.last_kept-frame.ensures (push.ensures ∙ ap (λ (l : ℕ). mark_kept l a.c.automata ∷ kept_of a.stack.now below.result) c.letter_of.ensures ∙ ap (λ (s : List Kept). mark_kept (letter_of a.op) a.c.automata ∷ s) (below.ensures.0 a.stack.now)) (omega (arith, below.ensures.1))

pub returns : goal.returns
returns c =
    let a = c.args in
    let pre = c.requires in
    let has_room = c.has_room in
    path_refused a.c a.links.now pre.2 pre.1 has_room.result a.op a.stack.now a.edges.now has_room.ensures c.if-has_room.false

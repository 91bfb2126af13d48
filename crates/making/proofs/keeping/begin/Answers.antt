-- `begin` meets its contract: the outer path is put aside where there is room for an edge. Assumes nothing.
use Rattle.making.proofs.Links.{begun_yes, begun_no}
use Rattle.making.proofs.keeping.begin.Goals as goal

pub returns-then-link_room : goal.returns-then-link_room
returns-then-link_room c =
    let a = c.args in
    let push = c.push in
    begun_yes a.c a.stack.now push.new.stack c.link_room.result c.link_room.ensures c.if-link_room.true c.requires.1 push.ensures

pub returns : goal.returns
returns c =
    let a = c.args in
    begun_no a.c a.stack.now a.stack.now c.link_room.result c.link_room.ensures c.if-link_room.false c.requires.1

-- `put_link` meets its contract: a store behind the links, where there is room. Assumes nothing.
use Rattle.making.proofs.Links.{link_place, drawn_link, drawn_full}
use Rattle.making.proofs.drawing.put_link.Goals as goal

pub returns-then-link_room : goal.returns-then-link_room
returns-then-link_room c =
    let a = c.args in
    drawn_link a.c a.links.now c.requires.1 c.packed_edge.result a.e (link_place a.c c.link_room.result c.link_room.ensures c.if-link_room.true) c.packed_edge.ensures.1

pub returns : goal.returns
returns c =
    let a = c.args in
    let pre = c.requires in
    drawn_full a.c a.links.now pre.1 c.link_room.result a.e c.link_room.ensures c.if-link_room.false pre.0

-- `alt` meets its contract: four links around both sides, or a limit is passed. Assumes nothing.
use Rattle.making.proofs.Links.{alt-drawn, alt_full}
use Rattle.making.proofs.drawing.alt.Goals as goal

pub returns-then-s-lt15 : goal.returns-then-s-lt15
returns-then-s-lt15 c =
    let a = c.args in
    alt-drawn a.c c.put_four.result a.links.now c.put_four.new.links a.left c.link_of-e.result c.link_of-f.result c.link_of-g.result c.link_of-h.result c.if-s-lt15.true c.link_of-e.ensures c.link_of-f.ensures c.link_of-g.ensures c.link_of-h.ensures c.put_four.ensures

pub returns : goal.returns
returns c =
    let a = c.args in
    alt_full a.c a.links.now c.requires.1 c.if-s-lt15.false a.left

-- `put_under` meets its contract: by the letter of the mark. Assumes nothing.
use Rattle.making.proofs.Lines.{under-n, under_other}
use Rattle.making.proofs.nodes.put_under.Goals as goal

pub returns-then-k-eq78 : goal.returns-then-k-eq78
returns-then-k-eq78 c =
    let a = c.args in
    let newest = c.newest-n in
    under-n a.c c.put_leaf.result a.lines.now c.put_leaf.new.lines a.k newest.result newest.ensures c.if-k-eq78.true c.put_leaf.ensures

pub returns : goal.returns
returns c =
    let a = c.args in
    let newest = c.newest-n in
    under_other a.c c.put_pair.result a.lines.now c.put_pair.new.lines a.k newest.result newest.ensures c.if-k-eq78.false c.put_pair.ensures

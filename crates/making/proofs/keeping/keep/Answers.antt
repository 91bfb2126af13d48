-- `keep` meets its contract: one more is kept. Assumes nothing.
use Rattle.making.proofs.Links.{keep_more}
use Rattle.making.proofs.keeping.keep.Goals as goal

pub returns : goal.returns
returns c =
    let a = c.args in
    let kept_by = c.kept_by-k in
    let push = c.push in
    keep_more a.c a.op c.with_top.result kept_by.result a.stack.now push.new.stack c.with_top.ensures c.requires.1 kept_by.ensures push.ensures

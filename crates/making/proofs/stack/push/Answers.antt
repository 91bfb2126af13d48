-- `push` meets its contract: a store above what is kept. Assumes nothing.
use Rattle.making.proofs.Pushed.{pushed}
use Rattle.making.proofs.stack.push.Goals as goal

pub returns : goal.returns
returns c =
    let a = c.args in
    pushed a.stack.now a.top c.packed_kept.result a.k c.requires c.packed_kept.ensures

-- `put_used` meets its contract: three stores. Assumes nothing.
use Rattle.packing.proofs.PlaceLaws.{used_put}
use borrow.Author.Rules.{rules}
use Rattle.packing.proofs.writing.put_used.Goals as goal

pub returns : goal.returns
returns c = search (rules, used_put)

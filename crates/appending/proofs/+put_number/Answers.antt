-- put_number meets its contract: the digits of a tenth, then the last one. The measure is the number. Assumes nothing.
use Rattle.std.proofs.Common.{sym}
use Rattle.appending.proofs.Storing.{appends_then, appends_same}
use Rattle.appending.proofs.Decimals.{decimal_one, decimal_more}
use Rattle.appending.proofs.+put_number.Goals as goal

pub returns-then-n-lt10 : goal.returns-then-n-lt10
returns-then-n-lt10 t c = appends_same (sym (decimal_one c.args.n c.if-n-lt10.true)) c.put.ensures

pub returns : goal.returns
returns t c = appends_same (sym (decimal_more c.args.n c.if-n-lt10.false)) (appends_then c.put_number-next.ensures c.put-2.ensures)

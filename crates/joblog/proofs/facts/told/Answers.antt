-- told meets its contract: each early return is a question that the facts seen get a no from. Assumes nothing.
use Rattle.std.proofs.Common.{ap}
use borrow.Author.Tests.{not-true, not-false}
use Rattle.joblog.specs.Results.{facts_result}
use Rattle.joblog.proofs.LineFacts.{told_large, told_fallen, told_word}
use Rattle.joblog.proofs.facts.told.Goals as goal

pub returns-then-not-s : goal.returns-then-not-s
returns-then-not-s c = ap facts_result (told_large c.args.s (not-true c.args.s.below c.if-not-s.true))

pub returns-then-not-s-2 : goal.returns-then-not-s-2
returns-then-not-s-2 c = ap facts_result (told_fallen c.args.s (not-false c.args.s.below c.if-not-s.false) (not-true c.args.s.rising c.if-not-s-2.true))

pub returns : goal.returns
returns c = ap facts_result (told_word c.args.s (not-false c.args.s.below c.if-not-s.false) (not-false c.args.s.rising c.if-not-s-2.false))

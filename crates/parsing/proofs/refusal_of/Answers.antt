-- `refusal_of` meets its contract, case by case. Assumes nothing.
use Rattle.parsing.specs.Written.{coded_of}
use Rattle.parsing.proofs.Top.{finish_bad, finish_deep}
use Rattle.parsing.proofs.refusal_of.Goals as goal

pub returns-in-NoFormula : goal.returns-in-NoFormula
unfolding coded_of
returns-in-NoFormula c = λ n out. finish_bad n out c.in-NoFormula.is

pub returns-in-TooDeep : goal.returns-in-TooDeep
unfolding coded_of
returns-in-TooDeep c = λ n out. finish_deep n out c.in-TooDeep.is

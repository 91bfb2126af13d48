-- rule_of meets its contract: the count of nodes is the table's. Assumes nothing.
use mathlib.Core.Path.{ap, ◌∙◌}
use native.Mathlib.Omega.{arith}
use Rattle.aldlf.specs.declared.Used.{Used}
use Rattle.report.proofs.rule_of.Goals as goal

pub returns : goal.returns
returns c = λ t P. omega (arith, ap (λ (u : Used). u.nodes) (c.used_in.ensures ∙ P.used_is))

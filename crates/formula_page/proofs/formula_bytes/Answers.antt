-- formula_bytes meets its contract: one LF at the end is left out. Assumes nothing.
use mathlib.Core.Path.{◌∙◌, sym}
use native.Mathlib.Omega.{arith}
use Rattle.formula_page.proofs.Rule.{ended_some, ended_bytes, open_bytes}
use Rattle.formula_page.proofs.formula_bytes.Goals as goal

pub overflow_sub-result : goal.overflow_sub-result
overflow_sub-result c = omega (arith, ended_some c.args.rule.now (sym c.ends_in_lf.ensures ∙ c.if-ends_in_lf.true))

pub returns-then-ends_in_lf : goal.returns-then-ends_in_lf
returns-then-ends_in_lf c = ended_bytes c.args.rule.now (sym c.ends_in_lf.ensures ∙ c.if-ends_in_lf.true)

pub returns-else-ends_in_lf : goal.returns-else-ends_in_lf
returns-else-ends_in_lf c = open_bytes c.args.rule.now (sym c.ends_in_lf.ensures ∙ c.if-ends_in_lf.false)

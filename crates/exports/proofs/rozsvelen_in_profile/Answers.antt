-- `rozsvelen_in_profile` meets its contract: the lent numbers are asked, and a yes counts 1. Assumes nothing.
use Prim.Native.Nat.{ℕ}
use mathlib.Core.Path.{ap, ◌∙◌}
use Rattle.aldlf.specs.Outcomes.{one}
use Rattle.profile.specs.Profile.{ProfileCheck}
use Rattle.crossing.specs.Numbers.{table_of}
use Rattle.exports.specs.Answers.{answer_code, profile_asked}
use Rattle.exports.proofs.rozsvelen_in_profile.Goals as goal

pub returns-in-Ok : goal.returns-in-Ok
unfolding profile_asked
returns-in-Ok c =
    c.code.ensures
    ∙ ap (λ (n : ℕ). answer_code 0 0 n 0) c.one.ensures.0
    ∙ ap (λ (a : ProfileCheck). answer_code a.number 0 (one a.yes) 0) (c.in-Ok.ensures (table_of c.args.table.now) c.lend_table.ensures)

pub returns-in-Err : goal.returns-in-Err
unfolding profile_asked
returns-in-Err c =
    c.code-in-Err.ensures
    ∙ ap (λ (n : ℕ). answer_code n 0 0 0) c.number.ensures
    ∙ ap (λ (a : ProfileCheck). answer_code a.number 0 (one a.yes) 0) (c.in-Err.ensures (table_of c.args.table.now) c.lend_table.ensures)

-- `is_in_profile_lent` meets its contract, for a table that some sheet gives and for any other. Assumes nothing.
use mathlib.Core.Path.{sym, ◌∙◌}
use Rattle.profile.proofs.Laws.{check_no, check_yes}
use Rattle.profile.proofs.lent.is_in_profile_lent.Goals as goal

pub in_profile-requires : goal.in_profile-requires
in_profile-requires c = let (t, P) = c.requires in (t, P, sym (c.is_given_packed.ensures t P) ∙ c.if-is_given_packed.true)

pub returns-then-is_given_packed : goal.returns-then-is_given_packed
returns-then-is_given_packed c = λ t P.
    let w = sym (c.is_given_packed.ensures t P) ∙ c.if-is_given_packed.true in
    check_yes t c.in_profile.result w (c.in_profile.ensures t P w)

pub returns-else-is_given_packed : goal.returns-else-is_given_packed
returns-else-is_given_packed c = λ t P. check_no t (sym (c.is_given_packed.ensures t P) ∙ c.if-is_given_packed.false)

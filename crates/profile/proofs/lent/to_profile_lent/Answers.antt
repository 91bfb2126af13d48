-- `to_profile_lent` meets its contract: the questions, then the table or none. Assumes nothing.
use mathlib.Core.Path.{refl, sym}
use Rattle.std.proofs.lemmas.Result.{err_from_is_err_and}
use Rattle.aldlf.specs.declared.Table.{Table}
use Rattle.packing.specs.Packed.{Packed}
use Rattle.profile.specs.Room.{ProfileRoom}
use Rattle.profile.proofs.Given.{accepted_of}
use Rattle.profile.proofs.Laws.{refused, outcome_no, outcome_yes}
use Rattle.profile.proofs.lent.to_profile_lent.Goals as goal
use Rattle.profile.proofs.lent.to_profile_lent.Goals.{In_ok-profile_question}

-- where no question got a no there is room
with_room : (c : In_ok-profile_question) → (t : Table) → Packed t c.args.numbers.now → ProfileRoom t c.args.numbers.now
with_room c t P =
    let a = accepted_of t (sym (c.in_ok-profile_question.ensures t P)) in
    record { packed = P; given = a.given; room = a.room }

pub returns-in_err-profile_question : goal.returns-in_err-profile_question
returns-in_err-profile_question c =
    let p = err_from_is_err_and c.from_residual.result c.from_residual.ensures.1 in λ t P.
    rw (p.1, p.2) (outcome_no t _ (c.in_err-profile_question.ensures t P) (refused _))

pub profile_of-requires : goal.profile_of-requires
profile_of-requires c = (c.requires.0, with_room (goal.at.profile_of-requires c).In_ok-profile_question c.requires.0 c.requires.1)

pub returns : goal.returns
returns c = λ t P. outcome_yes t c.profile_of.result 0 (c.in_ok-profile_question.ensures t P) refl (c.profile_of.ensures t (with_room (goal.at.returns c).In_ok-profile_question t P))

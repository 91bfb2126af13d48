-- The starred jobs come out right by the definitions alone: each outcome is computed and compared.
use mathlib.Core.Path.{refl}
use mathlib.Core.Bool.{true}
use Rattle.aldlf.specs.Sheet.{sheet_of}
use Rattle.aldlf.specs.Stands.{stands_of, stands_on_dir, rule_sheet}
use Rattle.aldlf.specs.Verdict.{judge, row_of}
use Rattle.aldlf.specs.Outcomes.{part_verdicts, whole_number, whole_outcome, part_number, part_outcome}
use Rattle.aldlf.specs.Walks.{walk_in, walk_of, walk_number, walk_outcome}
use Rattle.aldlf.specs.Jobs.{AllRight, jobs}

pub worked : AllRight (λ t. true) jobs
unfolding sheet_of stands_of stands_on_dir rule_sheet judge row_of part_verdicts whole_number whole_outcome part_number part_outcome walk_in walk_of walk_number walk_outcome
worked =
    ((refl, refl), ((refl, refl), ((refl, refl), ((refl, refl), ((refl, refl), ((refl, refl), ((refl, refl), ((refl, refl), ((refl, refl), ((refl, refl), ((refl, refl), (refl, (refl, (refl, (refl, ((refl, refl, refl), ((refl, refl, refl), ((refl, refl, refl), ((refl, refl, refl), tt)))))))))))))))))))

-- `walk_in` meets its contract: judging asks questions 31 and 32, and its words carry the rest. Assumes nothing.
use Prim.Native.Nat.{ℕ, ◌*◌, ◌≤◌}
use Rattle.std.proofs.lemmas.Result.{err_from_is_err_and}
use mathlib.Core.Path.{◌≡◌, sym, ap, ◌∙◌}
use mathlib.Core.Bool.{Bool, true}
use lib.ListN.{length, take, length-replicate}
use Rattle.aldlf.specs.Sheet.{sheet_of}
use Rattle.aldlf.specs.Walks.{walk_outcome}
use Rattle.aldlf.specs.declared.Table.{Table}
use Rattle.packing.specs.Packed.{Packed}
use Rattle.reach.specs.Marks.{paired}
use Rattle.sheet.specs.Given.{well_formed}
use Rattle.sheet.proofs.Facts.{table_facts}
use Rattle.walk.specs.Search.{JudgedLog, LentLog}
use Rattle.walk.proofs.Judging.{refused_first, accepted_log, accepted_room}
use native.Mathlib.Omega.{arith}
use Rattle.walk.proofs.lent.walk_in.Given.{Over}
use Rattle.walk.proofs.lent.walk_in.Goals as goal
use Rattle.walk.proofs.lent.walk_in.Goals.{In_ok-judge_lent}

-- the log was accepted: 31 and 32 got a yes, and the words are its verdicts
accepted : (g : Over) (c : In_ok-judge_lent g) → (t : Table) → Packed t c.args.numbers.now → let words = paired (take (2 * length c.args.log.now) c.judge_lent.new.verdicts) in (well_formed t ≡ true) × JudgedLog t words c.args.log.now
accepted g c t P =
    let j = c.judge_lent in
    accepted_log t c.args.log.now _ j.new.verdicts j.result c.in_ok-judge_lent.field-0 c.in_ok-judge_lent.was (j.ensures.verdicts_after t P)

-- so it is no longer than a log may be, and the scratch has room for its words
short : (g : Over) (c : In_ok-judge_lent g) → length c.args.log.now ≤ 512
short g c =
    let j = c.judge_lent in
    accepted_room c.requires.packed.0 c.args.log.now _ j.new.verdicts j.result c.in_ok-judge_lent.field-0 c.in_ok-judge_lent.was (j.ensures.verdicts_after c.requires.packed.0 c.requires.packed.1)

lent_log : (g : Over) (c : In_ok-judge_lent g) → (t : Table) → Packed t c.args.numbers.now → LentLog t c.args.numbers.now (paired (take (2 * length c.args.log.now) c.judge_lent.new.verdicts)) c.args.log.now
lent_log g c t P = let a = accepted g c t P in record { lent = record { facts = table_facts t a.0; packed = P }; judged = a.1 }

pub returns-in_err-judge_lent : goal.returns-in_err-judge_lent
returns-in_err-judge_lent g c =
    let j = c.judge_lent in
    let p = err_from_is_err_and c.from_residual.result c.from_residual.ensures.1 in
    λ t P. rw (p.1, p.2)
    (refused_first t c.args.log.now _ j.new.verdicts j.result c.in_err-judge_lent.field-0.0 c.in_err-judge_lent.was (j.ensures.verdicts_after t P) (j.ensures.result_value t P) (λ l. omega (arith, length-replicate {A = ℕ} g.row.W 0, c.requires.log_in_bounds.0 l))
    c.args.node.0 c.args.entry.0 c.args.edges.now)

pub shared_whole_as_front-walk_judged : goal.shared_whole_as_front-walk_judged
shared_whole_as_front-walk_judged g c = (c.requires.log_in_bounds.0 (short g (goal.at.shared_whole_as_front-walk_judged g c).In_ok-judge_lent), omega (arith, c.requires.log_in_bounds.1))

pub walk_judged-requires : goal.walk_judged-requires
walk_judged-requires g c = (c.requires.packed.0, c.args.log.now, lent_log g (goal.at.walk_judged-requires g c).In_ok-judge_lent c.requires.packed.0 c.requires.packed.1)

pub returns : goal.returns
returns g c =
    λ t P.
    c.walk_judged.ensures t c.args.log.now (lent_log g (goal.at.returns g c).In_ok-judge_lent t P)
    ∙ ap (λ (b : Bool). walk_outcome b (sheet_of t) c.args.log.now c.args.node.0 c.args.entry.0 c.args.edges.now) (sym (accepted g (goal.at.returns g c).In_ok-judge_lent t P).0)

-- `ended_path` meets its contract. Assumes nothing.
use mathlib.Core.Path.{refl}
use Rattle.std.specs.Prelude.{Ok, Err}
use Rattle.std.proofs.lemmas.Result.{err_from_is_err_and}
use Rattle.parsing.specs.Work.{ended}
use Rattle.parsing.specs.Build.{seen_of, got_of}
use Rattle.parsing.proofs.Laws.{lost, map_off, map_on}
use Rattle.parsing.proofs.parse.ended_path.Goals as goal

pub returns-in_err-p : goal.returns-in_err-p
returns-in_err-p c =
    let p = err_from_is_err_and c.from_residual.result c.from_residual.ensures.1 in
    let e = c.in_err-p.field-0.0 in
    rw (p.1, p.2, c.in_err-p.was) (map_off (ended c.args.code) (seen_of (Err e) c.args.out.now) (lost e c.args.out.now))

pub returns : goal.returns
unfolding got_of
returns c = rw c.in_ok-p.was (map_on (ended c.args.code) (seen_of (Ok c.in_ok-p.p) c.args.out.now) _ refl c.write_end.ensures)

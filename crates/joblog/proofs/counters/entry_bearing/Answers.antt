-- entry_bearing meets its contract: each early return is a question that the definition asks at the same place. Assumes nothing.
use Rattle.std.proofs.Common.{◌≡◌, ◌≤◌, refl, ◌&&◌, false, leb, arith, rules}
use Rattle.aldlf.specs.Constants.{entry_limit}
use Rattle.joblog.proofs.Circle.{lookup_out, lookup_no, lookup_yes}
use Rattle.joblog.proofs.counters.entry_bearing.Goals as goal

pub returns-then-not-contains : goal.returns-then-not-contains
returns-then-not-contains c =
    let a = c.args in
    let h : (leb 1 a.entries && leb a.entries entry_limit) ≡ false = search rules in
    rw (lookup_out a.first.0 a.entries a.counter.0 h) (refl, refl)

pub returns-then-entries-from : goal.returns-then-entries-from
returns-then-entries-from c =
    let a = c.args in
    let some : 1 ≤ a.entries = search rules in
    let limit : a.entries ≤ entry_limit = search rules in
    let e = lookup_no a.first.0 a.entries a.counter.0 some limit (omega (arith, c.if-entries-from.true)) in
    rw e (refl, refl)

pub returns : goal.returns
returns c =
    let a = c.args in
    let some : 1 ≤ a.entries = search rules in
    let limit : a.entries ≤ entry_limit = search rules in
    let e = lookup_yes a.first.0 a.entries a.counter.0 some limit (omega (arith, c.if-entries-from.false)) in
    rw (c.steps_between-steps.ensures, e) (refl, refl)

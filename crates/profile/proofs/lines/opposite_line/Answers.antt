-- `opposite_line` meets its contract, letter by letter. Assumes nothing.
use native.Mathlib.Omega.{arith}
use Rattle.profile.proofs.Laws.{opposite_fact, opposite_two, opposite_modal, opposite_other}
use Rattle.profile.proofs.lines.opposite_line.Goals as goal

pub overflow_mul-result-in-65 : goal.overflow_mul-result-in-65
overflow_mul-result-in-65 c = omega (arith, (c.requires.1.both< c.in-65.is).0)

pub overflow_add-result : goal.overflow_add-result
overflow_add-result c = omega (arith, (c.requires.1.both< c.in-65.is).0)

pub overflow_mul-result-in-65-2 : goal.overflow_mul-result-in-65-2
overflow_mul-result-in-65-2 c = omega (arith, (c.requires.1.both< c.in-65.is).1)

pub overflow_add-result-in-65 : goal.overflow_add-result-in-65
overflow_add-result-in-65 c = omega (arith, (c.requires.1.both< c.in-65.is).1)

pub overflow_mul-result-in-68 : goal.overflow_mul-result-in-68
overflow_mul-result-in-68 c = omega (arith, c.requires.1.modal< c.in-68.is)

pub overflow_add-result-in-68 : goal.overflow_add-result-in-68
overflow_add-result-in-68 c = omega (arith, c.requires.1.modal< c.in-68.is)

pub returns-in-80 : goal.returns-in-80
returns-in-80 c =
    let a = c.args in
    let d = c.exchanged_letter-kind in
    opposite_fact a.k.0 a.x d.result d.ensures c.in-80.is

pub returns-in-65 : goal.returns-in-65
returns-in-65 c =
    let a = c.args in
    let d = c.exchanged_letter-kind in
    opposite_two a.k.0 a.x d.result d.ensures c.in-65.is

pub returns-in-68 : goal.returns-in-68
returns-in-68 c =
    let a = c.args in
    let d = c.exchanged_letter-kind in
    opposite_modal a.k.0 a.x d.result d.ensures c.in-68.is

pub returns-in_default : goal.returns-in_default
returns-in_default c =
    let a = c.args in
    let d = c.exchanged_letter-kind in
    opposite_other a.k.0 a.x d.result d.ensures c.in_default.in_default-own.rest.0.0.1 c.in_default.in_default-own.rest.0.1 c.in_default.in_default-own.rest.1

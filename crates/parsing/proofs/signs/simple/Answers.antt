-- `simple` meets its contract. Assumes nothing.
use mathlib.Core.Path.{◌≡◌, subst}
use native.Mathlib.Omega.{arith}
use Prim.Native.Nat.{ℕ}
use Rattle.std.specs.Prelude.{Option}
use Rattle.std.specs.Option.{unwrap_or}
use Rattle.formula.specs.Parse.{byte}
use Rattle.parsing.specs.Work.{work_of}
use Rattle.formula.proofs.Bytes.{byte_there}
use Rattle.parsing.proofs.Laws.{simple_true, simple_fact, simple_none}
use Rattle.parsing.specs.Build.{got_of}
use Rattle.parsing.proofs.signs.simple.Goals as goal

pub overflow_add-at : goal.overflow_add-at
overflow_add-at c = let h = byte_there c.args.text.now c.args.at 116 (omega (arith, c.in-Some-eq116.ensures, c.in-Some-eq116.field-0-is)) (omega arith) in omega arith

pub truth-requires : goal.truth-requires
truth-requires c = let h = byte_there c.args.text.now c.args.at 116 (omega (arith, c.in-Some-eq116.ensures, c.in-Some-eq116.field-0-is)) (omega arith) in omega arith

pub overflow_add-at-in-Some-eq102 : goal.overflow_add-at-in-Some-eq102
overflow_add-at-in-Some-eq102 c = let h = byte_there c.args.text.now c.args.at 102 (omega (arith, c.in-Some-eq102.ensures, c.in-Some-eq102.field-0-is)) (omega arith) in omega arith

pub fact-requires : goal.fact-requires
fact-requires c = let h = byte_there c.args.text.now c.args.at 102 (omega (arith, c.in-Some-eq102.ensures, c.in-Some-eq102.field-0-is)) (omega arith) in omega arith

pub returns-in-Some-eq116 : goal.returns-in-Some-eq116
unfolding got_of
returns-in-Some-eq116 c = simple_true c.args.text.now c.args.at (work_of c.args.w c.args.out.now) (omega (arith, c.in-Some-eq116.ensures, c.in-Some-eq116.field-0-is)) _ c.truth.ensures

pub returns-in-Some-eq102 : goal.returns-in-Some-eq102
unfolding got_of
returns-in-Some-eq102 c = simple_fact c.args.text.now c.args.at (work_of c.args.w c.args.out.now) (omega (arith, c.in-Some-eq102.ensures, c.in-Some-eq102.field-0-is)) _ c.fact.ensures

pub returns-in_default : goal.returns-in_default
unfolding got_of
returns-in_default c = simple_none c.args.text.now c.args.at (work_of c.args.w c.args.out.now) (omega (arith, c.in_default.ensures)) (omega (arith, c.in_default.ensures))

pub returns-in_default-2 : goal.returns-in_default-2
unfolding got_of
returns-in_default-2 c =
    let e = subst (λ (o : Option ℕ). unwrap_or o 256 ≡ byte c.args.text.now c.args.at) c.in_default.is c.byte_at.ensures in
    simple_none c.args.text.now c.args.at (work_of c.args.w c.args.out.now) (omega (arith, e)) (omega (arith, e))

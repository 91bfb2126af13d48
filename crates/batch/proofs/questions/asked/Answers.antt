-- `asked` meets its contract: the questions in the definition's order. Assumes nothing.
use mathlib.Core.Bool.{true}
use Prim.Native.Nat.{◌+◌}
use native.Mathlib.Numerals.{add-one}
use native.Mathlib.Omega.{arith}
use mathlib.Core.Path.{◌≡◌, refl, sym, ◌∙◌}
use Rattle.aldlf.specs.declared.Table.{Table}
use Rattle.packing.specs.Packed.{Packed}
use Rattle.sheet.specs.Given.{well_formed}
use Rattle.batch.proofs.Answers.{no_31, no_32, no_33, all_yes}
use Rattle.batch.proofs.questions.asked.Goals as goal
use Rattle.batch.proofs.questions.asked.Goals.{Else-not-is_given_packed}

given : (c : Else-not-is_given_packed) → (t : Table) → Packed t c.args.numbers.now → well_formed t ≡ true
given c t P = sym (c.is_given_packed.ensures t P) ∙ c.if-not-is_given_packed.false

pub returns-then-not-is_given_packed : goal.returns-then-not-is_given_packed
returns-then-not-is_given_packed c =
    let a = c.args in
    λ t P. no_31 (well_formed t) a.words a.lengths.now a.verdicts a.held (sym (c.is_given_packed.ensures t P) ∙ c.if-not-is_given_packed.true)

pub returns-in-Some : goal.returns-in-Some
returns-in-Some c =
    let a = c.args in
    let k = c.in-Some.k in
    λ t P. no_32 (well_formed t) a.words a.lengths.now a.verdicts a.held (given (goal.at.returns-in-Some c).Else-not-is_given_packed t P) (k + 1) (add-one k ∙ c.in-Some.ensures.found) (λ z. omega arith)

pub returns-in-Some-first_without_room : goal.returns-in-Some-first_without_room
returns-in-Some-first_without_room c =
    let a = c.args in
    let s = c.in-Some-first_without_room in
    let g = (goal.at.returns-in-Some-first_without_room c).Else-not-is_given_packed in
    λ t P. no_33 (well_formed t) a.words a.lengths.now a.verdicts a.held (given g t P) 0 c.in_default.ensures.found refl (s.k + 1) (add-one s.k ∙ s.ensures.found) (λ z. omega arith)

pub returns : goal.returns
returns c =
    let a = c.args in
    λ t P. all_yes (well_formed t) a.words a.lengths.now a.verdicts a.held (given (goal.at.returns c).Else-not-is_given_packed t P) 0 c.in_default.ensures.found refl 0 c.in_default-first_without_room.ensures.found refl

-- `fact` meets its contract, case by case. Assumes nothing.
use Prim.Native.Nat.{ℕ, ◌+◌, ◌*◌, ◌-◌}
use mathlib.Core.Bool.{false}
use mathlib.Core.Path.{◌≡◌, sym, ap, ◌∙◌}
use Rattle.text.specs.Text.{is_digit}
use Rattle.formula.specs.Parse.{byte, is_pair}
use Rattle.parsing.specs.Work.{work_of}
use Rattle.parsing.specs.Build.{got_of, fact_by}
use Rattle.parsing.proofs.Laws.{fact_1, fact_2, fact_3}
use Rattle.parsing.proofs.signs.fact.Goals as goal
use Rattle.parsing.proofs.signs.fact.Goals.{in_default-byte_at-via-in-Some-byte_at+else-is_pair, in_default-byte_at-via-in_default-byte_at}

pub returns-in_default : goal.returns-in_default
unfolding got_of
returns-in_default c = fact_1 c.args.text.now c.args.at (work_of c.args.w c.args.out.now) (ap (λ (z : ℕ). is_digit z) (sym c.in_default.ensures))

pub returns-then-not-is_ascii_digit : goal.returns-then-not-is_ascii_digit
unfolding got_of
returns-then-not-is_ascii_digit c = fact_1 c.args.text.now c.args.at (work_of c.args.w c.args.out.now) (ap (λ (z : ℕ). is_digit z) (sym c.in-Some.ensures) ∙ sym c.is_ascii_digit.ensures.value ∙ c.if-not-is_ascii_digit.true)

pub returns-in-Some-byte_at : goal.returns-in-Some-byte_at
returns-in-Some-byte_at c =
    let a = c.args in
    let w = work_of a.w a.out.now in
    let b = c.in-Some.ensures in
    let d = c.in-Some-byte_at.ensures in
    c.two_digits.ensures
    ∙ ap (λ (z : ℕ). fact_by ((z - 48) * 10 + (c.in-Some-byte_at.c - 48)) (a.at + 2) w) b
    ∙ ap (λ (z : ℕ). fact_by ((byte a.text.now a.at - 48) * 10 + (z - 48)) (a.at + 2) w) d
    ∙ fact_2 a.text.now a.at w (ap (λ (z : ℕ). is_digit z) (sym b) ∙ sym c.is_ascii_digit.ensures.value ∙ c.if-not-is_ascii_digit.false)
    (ap (λ (z : ℕ). is_pair z (byte a.text.now (a.at + 1))) (sym b) ∙ ap (λ (z : ℕ). is_pair c.in-Some.b z) (sym d) ∙ sym c.is_pair.ensures ∙ c.if-is_pair.true)

pub returns-in_default-byte_at : goal.returns-in_default-byte_at
returns-in_default-byte_at c =
    let a = c.args in
    let w = work_of a.w a.out.now in
    let b = c.in-Some.ensures in
    let no_pair : is_pair (byte a.text.now a.at) (byte a.text.now (a.at + 1)) ≡ false =
    ap (λ (z : ℕ). is_pair z (byte a.text.now (a.at + 1))) (sym b)
    ∙ elim c.in_default-byte_at.branch [
      | in_default-byte_at-via-in-Some-byte_at+else-is_pair v ↦ ap (λ (z : ℕ). is_pair c.in-Some.b z) (sym v.in-Some-byte_at.ensures) ∙ sym v.is_pair.ensures ∙ v.if-is_pair.false
      | in_default-byte_at-via-in_default-byte_at v ↦ ap (λ (z : ℕ). is_pair c.in-Some.b z) (sym v.in_default-byte_at.ensures)
    ] in
    c.one_digit.ensures ∙ ap (λ (z : ℕ). fact_by (z - 48) (a.at + 1) w) b
    ∙ fact_3 a.text.now a.at w (ap (λ (z : ℕ). is_digit z) (sym b) ∙ sym c.is_ascii_digit.ensures.value ∙ c.if-not-is_ascii_digit.false) no_pair

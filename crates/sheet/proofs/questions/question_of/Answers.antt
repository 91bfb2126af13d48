-- `question_of` meets its contract: the questions before the one that decides got a yes. Assumes nothing.
use mathlib.Core.Path.{ap, ◌∙◌}
use mathlib.Core.Bool.{Bool, cond}
use native.Mathlib.Omega.{arith}
use Rattle.std.proofs.lemmas.Result.{err_from_is_err_and}
use Rattle.aldlf.specs.declared.Automaton.{Automaton}
use Rattle.sheet.specs.Ranges.{stop_at, going_on, out_of_range}
use Rattle.sheet.specs.Questions.{newly_accepting, question}
use Rattle.sheet.proofs.Stops.{stops, passes, fields_stop, fields_pass}
use Rattle.sheet.proofs.questions.question_of.Goals as goal

pub returns-in_err-ask : goal.returns-in_err-ask
unfolding question
returns-in_err-ask c =
    let p = err_from_is_err_and c.from_residual.result c.from_residual.ensures.1 in
    rw (p.1, p.2) (
    stops _ _ _ c.known_line.ensures c.in_err-ask.ensures
    )

pub returns-in_err-ask-2 : goal.returns-in_err-ask-2
unfolding question
returns-in_err-ask-2 c =
    let p = err_from_is_err_and c.from_residual-in_err-ask-2.result c.from_residual-in_err-ask-2.ensures.1 in
    rw (p.1, p.2) (
    stops _ _ _ c.all_numbers.ensures c.in_err-ask-2.ensures
    ∙ passes _ _ _ (λ z. omega (arith, z)) c.known_line.ensures c.in_ok-ask.ensures
    )

pub returns-in_err-ask-3 : goal.returns-in_err-ask-3
unfolding question
returns-in_err-ask-3 c =
    let p = err_from_is_err_and c.from_residual-in_err-ask-3.result c.from_residual-in_err-ask-3.ensures.1 in
    rw (p.1, p.2) (
    stops _ _ _ c.room_left.ensures c.in_err-ask-3.ensures
    ∙ passes _ _ _ (λ z. omega (arith, z)) c.all_numbers.ensures c.in_ok-ask-2.ensures
    ∙ passes _ _ _ (λ z. omega (arith, z)) c.known_line.ensures c.in_ok-ask.ensures
    )

pub returns-in_err-ask-4 : goal.returns-in_err-ask-4
unfolding question
returns-in_err-ask-4 c =
    let p = err_from_is_err_and c.from_residual-in_err-ask-4.result c.from_residual-in_err-ask-4.ensures.1 in
    rw (p.1, p.2) (
    stops _ _ _ c.belongs_here.ensures c.in_err-ask-4.ensures
    ∙ passes _ _ _ (λ z. omega (arith, z)) c.room_left.ensures c.in_ok-ask-3.ensures
    ∙ passes _ _ _ (λ z. omega (arith, z)) c.all_numbers.ensures c.in_ok-ask-2.ensures
    ∙ passes _ _ _ (λ z. omega (arith, z)) c.known_line.ensures c.in_ok-ask.ensures
    )

pub returns-in_err-out_of_range : goal.returns-in_err-out_of_range
unfolding question
returns-in_err-out_of_range c =
    let p = err_from_is_err_and c.from_residual-in_err-out_of_range.result c.from_residual-in_err-out_of_range.ensures.1 in
    rw (p.1, p.2) (
    fields_stop _ _ _ (c.in_err-out_of_range.ensures ∙ ap (λ (x : Automaton). out_of_range c.args.r.now.table.used x c.args.l) c.last_of-x.ensures)
    ∙ passes _ _ _ (λ z. omega (arith, z)) c.belongs_here.ensures c.in_ok-ask-4.ensures
    ∙ passes _ _ _ (λ z. omega (arith, z)) c.room_left.ensures c.in_ok-ask-3.ensures
    ∙ passes _ _ _ (λ z. omega (arith, z)) c.all_numbers.ensures c.in_ok-ask-2.ensures
    ∙ passes _ _ _ (λ z. omega (arith, z)) c.known_line.ensures c.in_ok-ask.ensures
    )

pub returns-in_err-ask-5 : goal.returns-in_err-ask-5
unfolding question
returns-in_err-ask-5 c =
    let p = err_from_is_err_and c.from_residual-in_err-ask-5.result c.from_residual-in_err-ask-5.ensures.1 in
    rw (p.1, p.2) (
    stops _ _ _ (c.newly_accepting.ensures ∙ ap (λ (x : Automaton). newly_accepting x c.args.l) c.last_of-x.ensures) c.in_err-ask-5.ensures
    ∙ fields_pass _ _ (c.in_ok-out_of_range.ensures ∙ ap (λ (x : Automaton). out_of_range c.args.r.now.table.used x c.args.l) c.last_of-x.ensures)
    ∙ passes _ _ _ (λ z. omega (arith, z)) c.belongs_here.ensures c.in_ok-ask-4.ensures
    ∙ passes _ _ _ (λ z. omega (arith, z)) c.room_left.ensures c.in_ok-ask-3.ensures
    ∙ passes _ _ _ (λ z. omega (arith, z)) c.all_numbers.ensures c.in_ok-ask-2.ensures
    ∙ passes _ _ _ (λ z. omega (arith, z)) c.known_line.ensures c.in_ok-ask.ensures
    )

pub returns : goal.returns
unfolding question
returns c =
    c.ask-6.ensures
    ∙ ap (λ (b : Bool). cond b going_on (stop_at 9 0)) c.plain_step.ensures
    ∙ passes _ _ _ (λ z. omega (arith, z)) (c.newly_accepting.ensures ∙ ap (λ (x : Automaton). newly_accepting x c.args.l) c.last_of-x.ensures) c.in_ok-ask-5.ensures
    ∙ fields_pass _ _ (c.in_ok-out_of_range.ensures ∙ ap (λ (x : Automaton). out_of_range c.args.r.now.table.used x c.args.l) c.last_of-x.ensures)
    ∙ passes _ _ _ (λ z. omega (arith, z)) c.belongs_here.ensures c.in_ok-ask-4.ensures
    ∙ passes _ _ _ (λ z. omega (arith, z)) c.room_left.ensures c.in_ok-ask-3.ensures
    ∙ passes _ _ _ (λ z. omega (arith, z)) c.all_numbers.ensures c.in_ok-ask-2.ensures
    ∙ passes _ _ _ (λ z. omega (arith, z)) c.known_line.ensures c.in_ok-ask.ensures

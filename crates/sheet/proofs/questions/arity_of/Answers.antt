-- `arity_of` meets its contract, letter by letter. Assumes nothing.
use Rattle.sheet.proofs.Letters.{arity_other}
use mathlib.Core.Logic.{inl, inr, ⊎_elim}
use Rattle.sheet.proofs.questions.arity_of.Goals as goal

pub returns-in-84 : goal.returns-in-84
returns-in-84 c = ⊎_elim (λ e. rw e) (λ e. rw e) c.in-84.is

pub returns-in-80 : goal.returns-in-80
returns-in-80 c = ⊎_elim (λ e. rw e) (⊎_elim (λ e. rw e) (λ e. rw e)) c.in-80.is

pub returns-in-65 : goal.returns-in-65
returns-in-65 c = ⊎_elim (λ e. rw e) (⊎_elim (λ e. rw e) (λ e. rw e)) c.in-65.is

pub returns-in-66 : goal.returns-in-66
returns-in-66 c = ⊎_elim (λ e. rw e) (λ e. rw e) c.in-66.is

pub returns-in-69 : goal.returns-in-69
returns-in-69 c = rw c.in-69.is

pub returns-in_default : goal.returns-in_default
returns-in_default c =
    let f = c.in_default.in_default-own.rest in
    arity_other c.args.l (λ e. f.0.0.0.0.1 (inr e)) (λ e. f.0.0.0.0.1 (inl e)) (λ e. f.0.0.0.1 (inr (inr e))) (λ e. f.0.0.0.1 (inr (inl e))) (λ e. f.0.0.0.1 (inl e)) (λ e. f.0.0.1 (inl e)) (λ e. f.0.0.1 (inr (inr e))) (λ e. f.0.0.1 (inr (inl e))) (λ e. f.0.1 (inl e)) (λ e. f.0.1 (inr e)) f.1

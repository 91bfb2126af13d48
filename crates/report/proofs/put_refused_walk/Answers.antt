-- put_refused_walk meets its contract: the two refusals that say `walk,none`, and any other. Assumes nothing.
use Rattle.aldlf.specs.Refusals.{refusal_number}
use Prim.Native.Nat.{ℕ}
use mathlib.Core.Path.{ap, ◌∙◌}
use mathlib.Core.Logic.{inl, inr, ⊎_elim}
use Rattle.lines.specs.Lines.{refusal_line}
use Rattle.appending.proofs.Storing.{appends_same}
use Rattle.report.proofs.Pages.{refused_none, refused_other}
use Rattle.report.proofs.put_refused_walk.Goals as goal

pub returns-in-NotModal : goal.returns-in-NotModal
returns-in-NotModal c =
    appends_same
    (refused_none (refusal_number c.args.refusal) (⊎_elim (λ e. inl (ap refusal_number e)) (λ e. inr (ap refusal_number e)) c.in-NotModal.is)) c.put_no_walk.ensures

pub returns-in_default : goal.returns-in_default
returns-in_default c =
    appends_same
    (ap (λ (n : ℕ). refusal_line n 0) c.number.ensures ∙ refused_other c.args.refusal c.in_default.not-NotModal c.in_default.not-NoWalk) c.put_refusal.ensures

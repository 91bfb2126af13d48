-- `finish` meets its contract, case by case. Assumes nothing.
use mathlib.Core.Path.{◌≡◌, refl, sym, ap, ◌∙◌}
use mathlib.Core.Bool.{true≢false}
use Rattle.std.specs.Prelude.{Result, Ok, Err}
use Rattle.std.specs.Result.{MatchResult, is_ok}
use Rattle.parsing.specs.Build.{seen_of}
use Rattle.parsing.specs.Written.{coded_of}
use Rattle.parsing.proofs.Top.{finish_left, finish_stray, finish_all, set_is, unset_is}
use Rattle.parsing.proofs.finish.Goals as goal
use Rattle.parsing.proofs.finish.Goals.{In_ok-p}

-- what is read is what was handed in: a value goes through the change of an error as it is
kept : {T E E' : Type 0} (r : Result T E) (q : Result T E') (p : T) (G : E → Type 0) → MatchResult r (λ x. q ≡ Ok x) G → is_ok q ≡ is_ok r → q ≡ Ok p → r ≡ Ok p
kept (Ok x) q p G m v e = cc
kept (Err d) q p G m v e = absurd (true≢false (sym (ap (λ z. is_ok z) e) ∙ v))

read : (c : In_ok-p) → c.args.p ≡ Ok c.in_ok-p.p
read c = kept c.args.p c.map_err.result c.in_ok-p.p _ c.map_err.ensures.cases c.map_err.ensures.variant c.in_ok-p.was

pub returns-then-p-length : goal.returns-then-p-length
unfolding coded_of
returns-then-p-length c = λ out. rw (read (goal.at.returns-then-p-length c).In_ok-p) (finish_left c.args.length (seen_of (Ok c.in_ok-p.p) out) refl c.if-p-length.true)

pub returns-then-p-ne0 : goal.returns-then-p-ne0
unfolding coded_of
returns-then-p-ne0 c = λ out. rw (read (goal.at.returns-then-p-ne0 c).In_ok-p) (finish_stray c.args.length (seen_of (Ok c.in_ok-p.p) out) refl c.if-p-length.false (set_is c.if-p-ne0.true))

pub returns : goal.returns
unfolding coded_of
returns c = λ out. rw (read (goal.at.returns c).In_ok-p) (finish_all c.args.length (seen_of (Ok c.in_ok-p.p) out) refl c.if-p-length.false (unset_is c.if-p-ne0.false))

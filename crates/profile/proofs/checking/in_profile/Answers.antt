-- `in_profile` meets its contract: the lines passed are in the profile. Assumes nothing.
use Prim.Native.Nat.{◌<◌}
use native.Mathlib.Omega.{arith}
use mathlib.Core.Path.{◌≡◌, sym, ap, ◌∙◌}
use mathlib.Core.Bool.{not}
use Rattle.aldlf.specs.declared.Table.{Table}
use Rattle.aldlf.specs.declared.Used.{Used}
use Rattle.packing.specs.Packed.{Packed}
use Rattle.sheet.specs.Questions.{each}
use Rattle.sheet.proofs.Asked.{yes_is, no_is}
use Rattle.sheet.proofs.Each.{each_none, each_on, each_no}
use Rattle.profile.specs.Profile.{line_in_profile, in_profile}
use Rattle.profile.proofs.checking.in_profile.Goals as goal
use Rattle.profile.proofs.checking.in_profile.Goals.{In-loop-k}

-- the line looked at is on the sheet
in_sheet : (c : In-loop-k) → (t : Table) → Packed t c.args.numbers.now → c.loop-k.k < t.used.nodes
in_sheet c t P = omega (arith, ap (λ (u : Used). u.nodes) (c.used_in-k-end.ensures ∙ P.used_is))

pub loop-k-init : goal.loop-k-init
loop-k-init c = λ t P w. each_none (line_in_profile t.nodes)

pub line_in_profile-requires : goal.line_in_profile-requires
line_in_profile-requires c = let (t, P, w) = c.requires in (t, P, w, in_sheet (goal.at.line_in_profile-requires c).In-loop-k t P)

pub returns-then-not-line_in_profile : goal.returns-then-not-line_in_profile
unfolding in_profile
returns-then-not-line_in_profile c = λ t P w.
    let l = in_sheet (goal.at.returns-then-not-line_in_profile c).In-loop-k t P in
    each_no (line_in_profile t.nodes) c.loop-k.k t.used.nodes l (no_is (c.line_in_profile.ensures t P w l) (ap not c.if-not-line_in_profile.true))

pub loop-k-preserved : goal.loop-k-preserved
loop-k-preserved c = λ t P w.
    each_on (line_in_profile t.nodes) c.loop-k.k (c.loop-k.invariant t P w)
    (yes_is (c.line_in_profile.ensures t P w (in_sheet (goal.at.loop-k-preserved c).In-loop-k t P)) (ap not c.if-not-line_in_profile.false))

pub returns : goal.returns
unfolding in_profile
returns c = λ t P w.
    let e : c.loop-k.k ≡ t.used.nodes = omega (arith, ap (λ (u : Used). u.nodes) (c.used_in-k-end.ensures ∙ P.used_is)) in
    sym (c.loop-k.invariant t P w) ∙ ap (each (line_in_profile t.nodes)) e

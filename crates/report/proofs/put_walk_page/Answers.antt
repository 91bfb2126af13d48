-- put_walk_page meets its contract: the walk's edges, or its refusal. Assumes nothing.
use Prim.Native.Nat.{ℕ, ◌≤◌}
use lib.ListN.{length, replicate}
use lib.Seq.{length-take-le}
use mathlib.Core.Path.{◌≡◌, ap, sym, ◌∙◌}
use native.Mathlib.Omega.{arith}
use Rattle.aldlf.specs.Sheet.{sheet_of}
use Rattle.aldlf.specs.Walks.{walk_outcome}
use Rattle.aldlf.specs.declared.Table.{Table}
use Rattle.packing.specs.Packed.{Packed}
use Rattle.sheet.specs.Given.{well_formed}
use Rattle.walk.specs.Answer.{answer_of}
use Rattle.aldlf.specs.Refusals.{refusal_number}
use Rattle.std.specs.Prelude.{Ok}
use Rattle.walk.proofs.Told.{told_count, told_refused}
use Rattle.report.specs.Page.{walk_limit, rule_of, walk_page}
use Rattle.appending.proofs.Storing.{appends_same}
use Rattle.report.proofs.Answers.{shown_page, unshown_page}
use Rattle.report.proofs.put_walk_page.Goals as goal
use Rattle.report.proofs.put_walk_page.Goals.{After-walk_lent}

-- the answer is that of the outcome that the page is defined over
outcome : (c : After-walk_lent) → let a = c.args in (t : Table) → Packed t a.numbers.now → answer_of c.walk_lent.result c.walk_lent.new.edges ≡ walk_outcome (well_formed t) (sheet_of t) a.log.now (rule_of t) 0 (replicate walk_limit 0)
outcome c t P =
    let a = c.args in
    c.walk_lent.ensures t P ∙ ap (λ (k : ℕ). walk_outcome (well_formed t) (sheet_of t) a.log.now k 0 (replicate walk_limit 0)) (c.rule_of-rule.ensures t P)

-- the buffer has a place for each edge
room : (c : After-walk_lent) → (n : ℕ) → c.walk_lent.result ≡ Ok n → n ≤ length c.walk_lent.new.edges
room c n is =
    let few = told_count c.requires.0 c.args.log.now (rule_of c.requires.0) 0 (replicate walk_limit 0) c.walk_lent.new.edges c.walk_lent.result (outcome c c.requires.0 c.requires.1) n is in
    omega (arith, few.0, c.walk_lent.auto.edges)

pub slice_bounds-edges-end : goal.slice_bounds-edges-end
slice_bounds-edges-end c = room (goal.at.slice_bounds-edges-end c).After-walk_lent c.in-Ok.n c.in-Ok.is

pub slice_bounds-put_walk-end : goal.slice_bounds-put_walk-end
slice_bounds-put_walk-end c =
    sym (length-take-le c.in-Ok.n c.walk_lent.new.edges (room (goal.at.slice_bounds-put_walk-end c).After-walk_lent c.in-Ok.n c.in-Ok.is))

pub returns-in-Ok : goal.returns-in-Ok
unfolding walk_page
returns-in-Ok c =
    λ t P. appends_same (shown_page c.in-Ok.n c.walk_lent.new.edges c.walk_lent.result _ c.in-Ok.is (outcome (goal.at.returns-in-Ok c).After-walk_lent t P)) c.put_walk.ensures

pub returns-in-Err : goal.returns-in-Err
unfolding walk_page
returns-in-Err c =
    let a = c.args in
    λ t P.
    let r = told_refused t a.log.now (rule_of t) 0 (replicate walk_limit 0) c.walk_lent.new.edges c.walk_lent.result (outcome (goal.at.returns-in-Err c).After-walk_lent t P) c.in-Err.refusal c.in-Err.is in
    appends_same (unshown_page (refusal_number c.in-Err.refusal) c.walk_lent.new.edges _ r.0 r.1) c.put_refused_walk.ensures

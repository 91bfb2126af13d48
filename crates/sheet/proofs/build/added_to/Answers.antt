-- `added_to` meets its contract, for M lines and others. Assumes nothing.
use Rattle.sheet.proofs.Added.{added_M, added_other}
use Rattle.sheet.specs.declared.build.Reading.{Reading}
use Rattle.sheet.specs.Questions.{with_line}
use mathlib.Core.Path.{ap, ◌∙◌}
use Rattle.sheet.proofs.build.added_to.Goals as goal
use Rattle.sheet.proofs.build.added_to.Goals.{then-l-eq77, else-l-eq77}

pub returns : goal.returns
returns c =
    let s = c.args in
    let u = c.with_line-r in
    let o = c.opens_automaton in
    elim c.if-l-eq77.branch [
      | then-l-eq77 w ↦ ap (λ (r : Reading). record { table = u.result; inside = o.result; mlines = r.mlines }) w.r-is ∙ added_M s.r s.k s.l u.result o.result (u.ensures ∙ ap (λ (r : Reading). with_line r.table s.l) w.r-is) o.ensures w.if-l-eq77.true
      | else-l-eq77 w ↦ ap (λ (r : Reading). record { table = u.result; inside = o.result; mlines = r.mlines }) w.r-is ∙ added_other s.r s.k s.l u.result o.result (u.ensures ∙ ap (λ (r : Reading). with_line r.table s.l) w.r-is) o.ensures w.if-l-eq77.false
    ]

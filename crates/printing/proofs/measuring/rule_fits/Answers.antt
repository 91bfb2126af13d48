-- `rule_fits` meets its contract: the nodes passed are measured, the last of them is the rule. Assumes nothing.
use native.Mathlib.Omega.{arith}
use Prim.Native.Nat.{ℕ}
use mathlib.Core.Path.{◌≡◌, ap, subst, ◌∙◌}
use lib.Dec.{ltb}
use lib.ListN.{get_or}
use Rattle.aldlf.specs.Sheet.{sheet_of}
use Rattle.aldlf.specs.declared.Used.{Used}
use Rattle.printing.specs.Measure.{Measured}
use Rattle.printing.proofs.Measures.{rule_fits}
use Rattle.sheet.proofs.InUse.{nodes_lent}
use Rattle.printing.proofs.measuring.rule_fits.Goals as goal

pub returns : goal.returns
returns c =
    let l = c.loop-k in
    let count = c.used_in-count.result.nodes in
    λ t L.
    let n : count ≡ t.used.nodes = ap (λ (u : Used). u.nodes) c.used_in-count.ensures ∙ nodes_lent t c.args.numbers.now L in
    let end : l.k ≡ count = omega arith in
    ap (λ (i : ℕ). ltb (get_or l.lasts i 0) c.args.room) c.from-2.ensures
    ∙ rule_fits t c.args.room l.lasts count L.facts n (subst (λ (k : ℕ). Measured (sheet_of t) c.args.room k l.lasts) end (l.invariant t L))

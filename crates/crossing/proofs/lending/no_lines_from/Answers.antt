-- `no_lines_from` meets its contract: the places passed are 0 where their or is. Assumes nothing.
use Prim.Native.Nat.{ℕ, ◌+◌, ◌*◌, ◌-◌}
use Rattle.crossing.proofs.Rest.{Joined, joined_next}
use Rattle.crossing.specs.Numbers.{line_size, automata_place}
use Rattle.std.proofs.lemmas.List.{get_or-drop, get_or-take}
use lib.Bits.{bit_or}
use lib.ListN.{drop, length-take}
use mathlib.Core.Path.{sym, subst₂, ◌∙◌}
use native.Mathlib.Omega.{arith}
use Rattle.crossing.proofs.lending.no_lines_from.Goals as goal

pub loop-x-preserved : goal.loop-x-preserved
loop-x-preserved c =
    let l = c.loop-x in
    let k = l.x-index in
    let a = line_size * c.args.n in
    let xs = c.args.xs.now in
    let n = automata_place - a in
    let here = get_or-take n (drop a xs) k 0 (omega (arith, c.loop-x-test.true, length-take n (drop a xs))) ∙ get_or-drop a xs k 0 in
    subst₂ (λ (e x : ℕ). Joined xs a e (bit_or l.rest x)) (omega arith) (sym here) (joined_next xs a (a + k) l.rest l.invariant)

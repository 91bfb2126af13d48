-- `drop_lines` meets its contract: the lines passed are kept or gone. Assumes nothing.
use native.Mathlib.Omega.{arith}
use mathlib.Core.Path.{◌≡◌, subst}
use Rattle.aldlf.specs.Constants.{node_limit}
use Rattle.stands.specs.Trimmed.{Trimming}
use Rattle.stands.proofs.TrimLaws.{trimming_all}
use Rattle.stands.proofs.trimming.drop_lines.Goals as goal

pub returns : goal.returns
returns c =
    let l = c.loop-k in
    let end : l.k ≡ node_limit = omega (arith, l.auto.k-end, c.loop-k-test.false, c.requires.0) in
    λ t P. trimming_all t c.args.flags.now c.args.own.now l.own (subst (Trimming c.args.flags.now c.args.own.now l.own) end l.invariant) P

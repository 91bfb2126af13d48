-- `mark_tests` meets its contract: the nodes that the edges passed test are marked. Assumes nothing.
use Prim.Native.Nat.{◌+◌}
use native.Mathlib.Omega.{arith}
use mathlib.Core.Path.{ap, ◌∙◌}
use mathlib.Core.Bool.{true}
use lib.ListN.{set, length-set}
use Rattle.aldlf.specs.Sheet.{sheet_of}
use Rattle.aldlf.specs.declared.Edge.{Edge}
use Rattle.stands.proofs.MarkLaws.{tests_next}
use Rattle.stands.proofs.marking.mark_tests.Goals as goal

pub loop-c-preserved : goal.loop-c-preserved
unfolding sheet_of
loop-c-preserved c =
    let l = c.loop-c in
    let e = c.args.x.first + l.c in (
      length-set l.flags _ true ∙ l.invariant.0,
      λ t P.
          ap (λ (x : Edge). set l.flags x.test.0 true) (c.edge_at-e.ensures ∙ P.edge_is e (omega (arith, c.requires.0.edges≤, c.loop-c-test.true)))
          ∙ tests_next (sheet_of t) c.args.x.first l.c c.args.flags.now l.flags (l.invariant.1 t P),
    )

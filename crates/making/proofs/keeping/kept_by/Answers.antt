-- `kept_by` meets its contract: by the instruction. Assumes nothing.
use mathlib.Core.List.{List}
use native.Mathlib.Omega.{arith}
use Rattle.aldlf.specs.declared.NodeLine.{NodeLine}
use Rattle.aldlf.specs.declared.Edge.{Edge}
use Rattle.aldlf.specs.declared.Automaton.{Automaton}
use Rattle.making.specs.Numbers.{work_in}
use Rattle.making.proofs.Links.{kept_node, kept_mark, kept_part}
use Rattle.making.proofs.keeping.kept_by.Goals as goal

pub returns-in-44 : goal.returns-in-44
returns-in-44 c =
    let a = c.args in
    kept_node a.c a.op c.newest.result c.in-44.is c.newest.ensures

pub returns-in-33 : goal.returns-in-33
returns-in-33 c =
    let a = c.args in
    λ (ns : List NodeLine) (ms : List Automaton) (es ks : List Edge). kept_mark a.c a.op c.in-33.is (work_in a.c ns ms es ks)

pub returns-in_default : goal.returns-in_default
returns-in_default c =
    let a = c.args in
    kept_part a.c a.op (omega arith) (omega arith)

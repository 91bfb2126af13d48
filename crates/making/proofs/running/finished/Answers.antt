-- `finished` meets its contract: the table read out of the numbers. Assumes nothing.
use mathlib.Core.Path.{ap, ◌∙◌}
use mathlib.Core.List.{List}
use Rattle.aldlf.specs.declared.Edge.{Edge}
use Rattle.aldlf.specs.declared.NodeLine.{NodeLine}
use Rattle.making.specs.Numbers.{lines_in, table_in}
use Rattle.making.proofs.running.finished.Goals as goal

pub returns : goal.returns
returns c =
    let a = c.args in
    ap (λ (ns : List NodeLine). table_in a.c ns a.automata c.edges_of.result) c.lines_of.ensures ∙ ap (λ (es : List Edge). table_in a.c (lines_in a.lines.now) a.automata es) c.edges_of.ensures

-- `lend_fields` meets its contract: four runs of stores, one after the other. Assumes nothing.
use Rattle.crossing.proofs.Cut.{fields_fit}
use Rattle.crossing.proofs.Lent.{fields_packed}
use Rattle.crossing.proofs.lending.lend_fields.Goals as goal

pub returns : goal.returns
returns c =
    let e = c.lend_edges-e.ensures in
    let l = c.lend_lines-l.ensures in
    let a = c.lend_automata-a.ensures in
    let u = c.lend_used-u.ensures in
    (fields_fit c.args.xs.now _ _ _ _ l.0 a.0 e.0 u.0, fields_packed c.args.xs.now c.args.numbers.now _ _ _ _ c.requires.1 e.1 l.1 a.1 u.1)

-- `read_formula` meets its contract: the instructions that the text reads to, run one after the other, make what reading the text comes to. Assumes nothing.
use Rattle.std.proofs.lemmas.Result.{err_from_is_err_and}
use Rattle.compile.proofs.Reading.{made_by, is_refused, is_coded}
use Rattle.compile.proofs.read_formula.Goals as goal

pub returns-in_err-n : goal.returns-in_err-n
returns-in_err-n c =
    let p = err_from_is_err_and c.from_residual.result c.from_residual.ensures.1 in
    rw (p.1, p.2) (is_refused c.args.text.now c.write_code.new.out c.in_err-n.field-0.0 c.in_err-n.ensures)

pub returns : goal.returns
unfolding made_by
returns c =
    rw c.ok_or.ensures.value
    (is_coded c.args.text.now c.write_code.new.out c.in_ok-n.n c.min-n.result c.make_table.result c.in_ok-n.ensures c.write_code.auto.out c.min-n.ensures c.make_table.ensures)

-- `put_table` meets its contract: four runs of stores, one after the other, take the whole slice. Assumes nothing.
use native.Mathlib.Omega.{arith}
use Rattle.crossing.proofs.Packed.{Sized, put_whole}
use Rattle.crossing.proofs.pack.put_table.Goals as goal

pub returns : goal.returns
returns c =
    let a = c.args in
    let s : Sized a.t = record { nodes = omega arith; automata = omega arith; edges = omega arith } in
    put_whole a.t s a.out.now _ _ _ _ c.requires c.put_all.ensures c.put_all-2.ensures c.put_all-3.ensures c.put_used.ensures

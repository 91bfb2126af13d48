-- `put_automata` meets its contract: those passed stand in their places. Assumes nothing.
use Rattle.packing.proofs.PlaceLaws.{heads_none}
use Rattle.packing.proofs.writing.put_automata.Goals as goal

pub loop-m-init : goal.loop-m-init
loop-m-init c = heads_none _ _

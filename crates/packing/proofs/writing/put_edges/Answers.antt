-- `put_edges` meets its contract: those passed stand in their places. Assumes nothing.
use Rattle.packing.proofs.PlaceLaws.{put_none}
use Rattle.packing.proofs.writing.put_edges.Goals as goal

pub loop-e-init : goal.loop-e-init
loop-e-init c = put_none _ _ _

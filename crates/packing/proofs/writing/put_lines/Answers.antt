-- `put_lines` meets its contract: those passed stand in their places. Assumes nothing.
use Rattle.packing.proofs.PlaceLaws.{put_none}
use Rattle.packing.proofs.writing.put_lines.Goals as goal

pub loop-k-init : goal.loop-k-init
loop-k-init c = put_none _ _ _

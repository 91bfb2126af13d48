-- `has_room` meets its contract: the three questions are those of the definition. Assumes nothing.
use mathlib.Core.Path.{refl}
use Rattle.making.specs.Numbers.{room_in}
use Rattle.making.proofs.ending.has_room.Goals as goal

pub returns : goal.returns
unfolding room_in
returns c = refl

-- put_bytes: the bytes passed are appended.
use lib.ListN.{take}
use Rattle.appending.specs.Appending.{Appends}
use Rattle.appending.proofs.put_bytes.Given as goal

abbrev pub invariant-loop-byte : goal.invariant-loop-byte
invariant-loop-byte l = Appends (take l.byte-index l.fn.bytes) l.initial.out l.fn.at l.out l.next

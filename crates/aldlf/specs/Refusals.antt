-- The numbers of documents 01 and 02 for the questions that a call on a table or a log gets a no from.
use Rattle.std.specs.Prelude.{ℕ, Result, Ok, Err}
use Rattle.aldlf.specs.declared.Refusal.{Refusal}
use Rattle.aldlf.specs.declared.Refusal.TheVariants.{NoBearer, NotGiven, Entries, Room, OtherWay, NoNode, NoEntry, NotModal, NoWalk, WalkRoom, ProfileRoom, PageRoom, TextRoom}

-- The number of each refusal.
abbrev pub refusal_number : Refusal → ℕ
refusal_number NoBearer = 30
refusal_number NotGiven = 31
refusal_number Entries = 32
refusal_number Room = 33
refusal_number OtherWay = 34
refusal_number NoNode = 36
refusal_number NoEntry = 37
refusal_number NotModal = 38
refusal_number NoWalk = 39
refusal_number WalkRoom = 40
refusal_number ProfileRoom = 42
refusal_number PageRoom = 44
refusal_number TextRoom = 55

-- The number of the question that an answer's refusal is about; 0 where all got a yes.
abbrev pub asked_number : {A : Type 0} → Result A Refusal → ℕ
asked_number (Ok a) = 0
asked_number (Err r) = refusal_number r

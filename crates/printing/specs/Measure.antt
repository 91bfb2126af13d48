-- For the code's own contracts: how far a text goes in a buffer with so much room. Lengths are capped at the room, so that no sum overflows, however long a text is.
use Rattle.std.specs.Prelude.{ℕ, ◌-◌, ◌<◌, min, ◌≡◌, List, length, get_or}
use Rattle.aldlf.specs.Constants.{node_limit}
use Rattle.aldlf.specs.Sheet.{Sheet}
use Rattle.printing.specs.Print.{node_text}

-- the place of a text's last byte; the room where that is no place of the buffer
abbrev pub last_place : (room : ℕ) → (text : List ℕ) → ℕ
last_place room text = min (length text - 1) room

-- the last places of the texts of the nodes below n
pub record Measured (S : Sheet) (room n : ℕ) (lasts : List ℕ) : Type 0 where
  pub size : length lasts ≡ node_limit
  pub each : (k : ℕ) → k < n → get_or lasts k 0 ≡ last_place room (node_text S k)

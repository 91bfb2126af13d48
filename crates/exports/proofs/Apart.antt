-- No two answers are one number: the count, the question's number, the line and what is given besides can be read from it; of a list, the question's number and the log; of a length, the question's number and the length.
use Prim.Native.Nat.{ℕ, ◌/◌, ◌%◌, ◌≤◌, ◌<◌}
use mathlib.Core.Path.{◌≡◌}
use native.Mathlib.Omega.{arith}
use Rattle.exports.specs.Answers.{answer_code}
use Rattle.exports.specs.Lists.{list_code}
use Rattle.exports.specs.RuleTexts.{longest, length_code}

pub answer_apart : (number line count extra number' line' count' extra' : ℕ)
    → number < 65536 → line < 65536 → count < 65536 → extra < 65536 → number' < 65536 → line' < 65536 → count' < 65536 → extra' < 65536
    → answer_code number line count extra ≡ answer_code number' line' count' extra' → (number ≡ number') × (line ≡ line') × (count ≡ count') × (extra ≡ extra')
unfolding answer_code
answer_apart number line count extra number' line' count' extra' n l c x n' l' c' x' e = (omega arith, omega arith, omega arith, omega arith)

pub list_apart : (number log number' log' : ℕ) → number < 65536 → number' < 65536 → list_code number log ≡ list_code number' log' → (number ≡ number') × (log ≡ log')
unfolding list_code
list_apart number log number' log' n n' e =
    let same : log ≡ log' = omega arith in
    (omega arith, same)

-- a list's answer is the answer whose line is the log's low 16 bits, and which gives the rest of the log besides
pub list_halves : (number log : ℕ) → list_code number log ≡ answer_code number (log % 65536) 0 (log / 65536)
unfolding answer_code list_code
list_halves number log = omega arith

pub length_apart : (number length number' length' : ℕ) → number < 65536 → number' < 65536 → length_code number length ≡ length_code number' length' → (number ≡ number') × (length ≡ length')
unfolding length_code
length_apart number length number' length' n n' e =
    let high : length / 65536 ≡ length' / 65536 = omega arith in
    let low : length % 65536 ≡ length' % 65536 = omega arith in
    (omega arith, omega arith)

-- an answer with a length is the answer whose count is the length's lowest 16 bits, whose line is the next 16, and which gives the rest besides; each of the three fits in its 16 bits
pub length_parts : (number length : ℕ) → length_code number length ≡ answer_code number (length / 65536 % 65536) (length % 65536) (length / 4294967296)
unfolding answer_code length_code
length_parts number length = omega arith

pub length_fits : (length : ℕ) → length ≤ longest → length / 4294967296 < 65536
length_fits length h = omega arith

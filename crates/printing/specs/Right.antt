-- What request S-7 says of printing a rule: `PrintRight`. It computes nothing; proofs/ shows that every answer is right.
use Rattle.std.specs.Prelude.{ℕ, ◌≤◌, ◌<◌, ◌≡◌, ◌↔◌, List, length, get_or, take, drop}
use Rattle.aldlf.specs.Sheet.{sheet_of}
use Rattle.aldlf.specs.declared.Table.{Table}
use Rattle.sheet.specs.Given.{Given}
use Rattle.appending.specs.Placed.{Printed}
use Rattle.printing.specs.Print.{rule_text}

-- There is no LF and no space in a text.
pub record Clean (text : List ℕ) : Type 0 where
  pub no_lf : (i : ℕ) → i < length text → ¬ (get_or text i 0 ≡ 10)
  pub no_space : (i : ℕ) → i < length text → ¬ (get_or text i 0 ≡ 32)

-- Of the table t and a lent buffer, and of what printing answers: 31 where no sheet gives the table; else 55 exactly where the text is longer than the buffer;
-- else the text, whose length is given, takes the first places, the rest kept. A refusal gives the length 0 and alters nothing. The text has no LF and no space.
pub record PrintRight (t : Table) (lent : List ℕ) (o : Printed) : Type 0 where
  pub no_sheet : (o.number ≡ 31) ↔ (¬ (Given t))
  pub too_short : (o.number ≡ 55) ↔ (Given t × (length lent < length (rule_text (sheet_of t))))
  pub accepted : (o.number ≡ 0) ↔ (Given t × (length (rule_text (sheet_of t)) ≤ length lent))
  pub written : o.number ≡ 0 → (o.count ≡ length (rule_text (sheet_of t))) × (take o.count o.buffer ≡ rule_text (sheet_of t)) × (drop o.count o.buffer ≡ drop o.count lent)
  pub unaltered : ¬ (o.number ≡ 0) → (o.count ≡ 0) × (o.buffer ≡ lent)
  pub clean : Clean (rule_text (sheet_of t))

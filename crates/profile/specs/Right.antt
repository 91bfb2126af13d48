-- What request S-4 says of the table made, by Definition 4: `ProfileRight`. It computes nothing; proofs/ shows that every table made is right.
use Rattle.std.specs.Prelude.{ℕ, ◌+◌, ◌*◌, ◌-◌, ◌<◌, ◌≡◌, true, ◌↔◌, List, length}
use Rattle.aldlf.specs.Constants.{letter_p, letter_n}
use Rattle.aldlf.specs.Sheet.{sheet_of}
use Rattle.aldlf.specs.Meaning.{Holds}
use Rattle.aldlf.specs.declared.Table.{Table}
use Rattle.sheet.specs.Given.{well_formed}
use Rattle.sheet.specs.Facts.{node_at}

-- Each N on the sheet stands directly on a fact.
abbrev pub OnFacts : Table → Type 0
OnFacts t = (k : ℕ) → k < t.used.nodes → (node_at t k).kind ≡ letter_n → (node_at t (node_at t k).a).kind ≡ letter_p

-- Of the table t and the table u made from it: question 31 accepts u, u is in the profile and has 2n + 1 nodes, and at every entry of every log
-- new node 2k agrees with old node k, 2k+1 with its opposite, and the last new node with the rule.
pub record ProfileRight (t u : Table) : Type 0 where
  pub given : well_formed u ≡ true
  pub plain : OnFacts u
  pub nodes : u.used.nodes ≡ 2 * t.used.nodes + 1
  pub same : (log : List ℕ) (k i : ℕ) → k < t.used.nodes → i < length log → Holds (sheet_of u) log (2 * k) i ↔ Holds (sheet_of t) log k i
  pub opposite : (log : List ℕ) (k i : ℕ) → k < t.used.nodes → i < length log → Holds (sheet_of u) log (2 * k + 1) i ↔ (¬ (Holds (sheet_of t) log k i))
  pub rule : (log : List ℕ) (i : ℕ) → i < length log → Holds (sheet_of u) log (u.used.nodes - 1) i ↔ Holds (sheet_of t) log (t.used.nodes - 1) i

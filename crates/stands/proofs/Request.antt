-- WHAT THE RULE STANDS ON, for every table that some sheet gives: the flags are the declared nodes, and the ways that `rule_looks` answers are those of the edges that the rule stands on.
use Prim.Native.Nat.{ℕ}
use native.Mathlib.Omega.{arith}
use mathlib.Core.Path.{◌≡◌, sym, ap, ap₂, ◌∙◌}
use mathlib.Core.Logic.Iff
use mathlib.Core.Logic.{◌⊎◌, inl, inr, ◌↔◌}
use mathlib.Core.Bool.{Bool, true, false, not}
use Rattle.aldlf.specs.Sheet.{ahead, back, sheet_of}
use Rattle.aldlf.specs.Stands.{StandsOn, stands, stands_on_dir}
use Rattle.aldlf.specs.declared.Table.{Table}
use Rattle.aldlf.proofs.Bools.{bool_cases, eq_iff}
use Rattle.aldlf.proofs.Stands.{stands_iff, dir_iff}
use Rattle.sheet.specs.Given.{well_formed}
use Rattle.sheet.proofs.Facts.{table_facts}
use Rattle.sheet.proofs.Sound.{sound}
use Rattle.stands.specs.Answers.{rule_looks_of}
use Rattle.stands.specs.Looking.{RuleWays}
use Rattle.stands.specs.Right.{LooksRight}
use Rattle.stands.specs.Answers.{RuleLooks}
use Rattle.stands.specs.declared.Looks.{Looks}

-- THE FLAGS ARE WHAT THE RULE STANDS ON
pub given_stands_iff : (t : Table) → well_formed t ≡ true → (k : ℕ) → (stands (sheet_of t) k ≡ true) ↔ StandsOn (sheet_of t) k
given_stands_iff t w k = stands_iff (sheet_of t) (sound t (table_facts t w)) k

-- The answer, for a table that some sheet gives and for any other ---------------------------------------------------------------

-- by the answer to question 31
answer : Table → Bool → RuleLooks
answer t g = elim g [ true ↦ record { number = 0; ahead = stands_on_dir (sheet_of t) ahead; back = stands_on_dir (sheet_of t) back } | false ↦ record { number = 31; ahead = false; back = false } ]

pub looks_no : (t : Table) → well_formed t ≡ false → record { number = 31; ahead = false; back = false } ≡ rule_looks_of t
unfolding rule_looks_of answer
looks_no t e = ap (answer t) (sym e)

looks_given : (t : Table) → well_formed t ≡ true → record { number = 0; ahead = stands_on_dir (sheet_of t) ahead; back = stands_on_dir (sheet_of t) back } ≡ rule_looks_of t
unfolding rule_looks_of answer
looks_given t e = ap (answer t) (sym e)

pub looks_yes : (t : Table) (l : Looks) → well_formed t ≡ true → RuleWays t l → record { number = 0; ahead = l.ahead; back = l.back } ≡ rule_looks_of t
looks_yes t l e w = ap₂ (λ (a b : Bool). record { number = 0; ahead = a; back = b }) w.ahead_is w.back_is ∙ looks_given t e

accepted : (t : Table) → (rule_looks_of t).number ≡ 0 → well_formed t ≡ true
accepted t z = go (bool_cases (well_formed t))
  where
    go : (well_formed t ≡ true) ⊎ (well_formed t ≡ false) → well_formed t ≡ true
    go (inl e) = e
    go (inr e) = let q : ◌≡◌ {A = ℕ} 31 0 = ap (λ (r : RuleLooks). r.number) (looks_no t e) ∙ z in absurd (omega arith)

-- THE WAYS THAT THE RULE LOOKS
pub rule_looks_right : (t : Table) → (rule_looks_of t).number ≡ 0 → LooksRight t (rule_looks_of t)
rule_looks_right t z =
    let w = accepted t z in
    let is = looks_given t w in
    let s = sound t (table_facts t w) in
    let a = ap (λ (r : RuleLooks). r.ahead) is in
    let b = ap (λ (r : RuleLooks). r.back) is in
    record {
      ahead_iff = Iff.trans (eq_iff _ _ (sym a)) (dir_iff (sheet_of t) ahead s);
      back_iff = Iff.trans (eq_iff _ _ (sym b)) (dir_iff (sheet_of t) back s);
      cut_ahead = ap not b;
      cut_back = ap not a;
    }

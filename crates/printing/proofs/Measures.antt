-- The last places of the nodes measured so far: none at first, one node more, each within the room.
use Prim.Native.Nat.{ℕ, ◌+◌, ◌-◌, ◌≤◌, ◌<◌}
use mathlib.Core.Path.{◌≡◌, ap, sym, ◌∙◌}
use mathlib.Core.Logic.{⊎_elim}
use mathlib.Core.List.{List}
use native.Mathlib.Omega.{arith}
use lib.Dec.{leb, ltb}
use lib.ListN.{length, get_or, set, length-set}
use lib.Seq.{get_or-set_same, get_or-set_other}
use Rattle.aldlf.specs.Constants.{node_limit}
use Rattle.aldlf.specs.Sheet.{Sheet, sheet_of}
use Rattle.aldlf.specs.declared.Table.{Table}
use Rattle.sheet.specs.Facts.{TableFacts}
use Rattle.sheet.proofs.Bools.{same}
use Rattle.printing.specs.Print.{node_text, rule_text}
use Rattle.printing.specs.Measure.{last_place, Measured}
use Rattle.printing.proofs.Texts.{text_some}
use Rattle.printing.proofs.Bracketed.{last_fits}

module _ (S : Sheet) (room : ℕ) where
  pub measured_none : (lasts : List ℕ) → length lasts ≡ node_limit → Measured S room 0 lasts
  measured_none lasts e = record { size = e; each = λ k l. absurd (omega arith) }

  pub measured_low : (n : ℕ) (lasts : List ℕ) → Measured S room n lasts → (k : ℕ) → k < n → get_or lasts k 0 ≤ room
  measured_low n lasts M k l = omega (arith, M.each k l)

  pub measured_next : (n : ℕ) (lasts : List ℕ) (last : ℕ) → n < node_limit → last ≡ last_place room (node_text S n) → Measured S room n lasts → Measured S room (n + 1) (set lasts n last)
  measured_next n lasts last few e M = record { size = length-set lasts n last ∙ M.size; each = each }
    where
      each : (k : ℕ) → k < n + 1 → get_or (set lasts n last) k 0 ≡ last_place room (node_text S k)
      each k l = ⊎_elim
          (λ (h : k ≡ n). ap (λ (j : ℕ). get_or (set lasts n last) j 0) h ∙ get_or-set_same lasts n last 0 (omega (arith, M.size)) ∙ e ∙ ap (λ (j : ℕ). last_place room (node_text S j)) (sym h))
          (λ h. get_or-set_other lasts n k last 0 h ∙ M.each k (omega (arith, h)))
          (same k n)

-- the rule is the last node: whether its text fits
pub rule_fits : (t : Table) (room : ℕ) (lasts : List ℕ) (n : ℕ) → TableFacts t → n ≡ t.used.nodes → Measured (sheet_of t) room n lasts
    → ltb (get_or lasts (n - 1) 0) room ≡ leb (length (rule_text (sheet_of t))) room
unfolding sheet_of
rule_fits t room lasts n f e M =
    last_fits room (node_text (sheet_of t) (n - 1)) (get_or lasts (n - 1) 0) (text_some (sheet_of t) (n - 1)) (M.each (n - 1) (omega (arith, f.some_node)))
    ∙ ap (λ (k : ℕ). leb (length (node_text (sheet_of t) (k - 1))) room) e

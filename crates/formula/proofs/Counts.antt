-- What making a formula adds to a table's counts, by induction over the formula; and so what it is to be within the limits.
use Prim.Native.Nat.{ℕ, suc, ◌+◌}
use native.Mathlib.Omega.{arith}
use mathlib.Core.Path.{◌≡◌, refl}
use mathlib.Core.Logic.{◌↔◌}
use mathlib.Core.Bool.{Bool, true, ◌&&◌}
use lib.Dec.{leb}
use borrow.Author.Tests.{leb-true, le-leb}
use Rattle.aldlf.specs.Constants.{node_limit, automaton_limit, state_limit, edge_limit}
use Rattle.aldlf.specs.declared.Table.{Table}
use Rattle.sheet.specs.Questions.{with_node}
use Rattle.sheet.proofs.Bools as bools
use Rattle.formula.specs.Formula.{Formula, always, fact, neg, both, either, some, every, Path, step, seq, alt, many}
use Rattle.formula.specs.Numbering.{under, within, own, with_letter, with_path, made, made_in, first_table, table_of}
use Rattle.formula.specs.Outcome.{widest, fits_sheet}
use Rattle.formula.specs.Counts.{automaton_count, automaton_count_in, edge_count, edge_count_in, Within}

-- u has so many nodes, automata and edges more than t
pub record Adds (n m e : ℕ) (t u : Table) : Type 0 where
  pub nodes : u.used.nodes ≡ t.used.nodes + n
  pub automata : u.used.automata ≡ t.used.automata + m
  pub edges : u.used.edges ≡ t.used.edges + e

adds_none : (t : Table) → Adds 0 0 0 t t
adds_none t = record { nodes = omega arith; automata = omega arith; edges = omega arith }

adds_then : {n m e n' m' e' : ℕ} {t u v : Table} → Adds n m e t u → Adds n' m' e' u v → Adds (n + n') (m + m') (e + e') t v
adds_then c d = record { nodes = omega arith; automata = omega arith; edges = omega arith }

adds_letter : {n m e : ℕ} {t u : Table} (l x y : ℕ) → Adds n m e t u → Adds (suc n) m e t (with_letter u l x y)
unfolding with_node
adds_letter l x y c = record { nodes = omega arith; automata = c.automata; edges = c.edges }

adds_path : {n m e : ℕ} {t u : Table} (k : ℕ) (p : Path) → Adds n m e t u → Adds n (suc m) (e + own p) t (with_path u k p)
adds_path k p c = record { nodes = c.nodes; automata = omega arith; edges = omega arith }

mutual
  unfolding made

  -- WHAT MAKING A FORMULA ADDS
  pub made_adds : (a : Formula) (t : Table) → Adds (suc (under a)) (automaton_count a) (edge_count a) t (made a t)
  made_adds always t = adds_letter _ _ _ (adds_none t)
  made_adds (fact f) t = adds_letter _ _ _ (adds_none t)
  made_adds (neg a) t = adds_letter _ _ _ (made_adds a t)
  made_adds (both a b) t = adds_letter _ _ _ (adds_then (made_adds a t) (made_adds b (made a t)))
  made_adds (either a b) t = adds_letter _ _ _ (adds_then (made_adds a t) (made_adds b (made a t)))
  made_adds (some p a) t = adds_letter _ _ _ (adds_then (adds_path t.used.nodes p (in_adds p t)) (made_adds a _))
  made_adds (every p a) t = adds_letter _ _ _ (adds_then (adds_path t.used.nodes p (in_adds p t)) (made_adds a _))

  pub in_adds : (p : Path) (t : Table) → Adds (within p) (automaton_count_in p) (edge_count_in p) t (made_in p t)
  in_adds (step d a) t = made_adds a t
  in_adds (seq p q) t = adds_then (in_adds p t) (in_adds q (made_in p t))
  in_adds (alt p q) t = adds_then (in_adds p t) (in_adds q (made_in p t))
  in_adds (many p) t = in_adds p t

all_four : (x y z w : Bool) → (x && y && z && w) ≡ true → (x ≡ true) × (y ≡ true) × (z ≡ true) × (w ≡ true)
all_four x y z w e =
    let p = bools.both (x && y && z) w e in
    let q = bools.both (x && y) z p.0 in
    let r = bools.both x y q.0 in
    (r.0, r.1, q.1, p.1)

-- node 0 alone
first_is : (first_table.used.nodes ≡ 1) × (first_table.used.automata ≡ 0) × (first_table.used.edges ≡ 0)
unfolding with_node
first_is = (refl, refl, refl)

module _ (a : Formula) where
  -- the counts of the table made
  pub table_adds : Adds (suc (under a)) (automaton_count a) (edge_count a) first_table (table_of a)
  unfolding table_of
  table_adds = made_adds a first_table

  within_of : fits_sheet a ≡ true → Within a
  unfolding fits_sheet
  within_of e =
      let u = (table_of a).used in
      let q = all_four (leb u.nodes _) (leb u.automata _) (leb u.edges _) (leb (widest a) _) e in
      record {
        nodes = omega (arith, first_is, table_adds, leb-true u.nodes _ q.0);
        automata = omega (arith, first_is, table_adds, leb-true u.automata _ q.1);
        edges = omega (arith, first_is, table_adds, leb-true u.edges _ q.2);
        widths = leb-true (widest a) _ q.3;
      }

  of_within : Within a → fits_sheet a ≡ true
  unfolding fits_sheet
  of_within w =
      let u = (table_of a).used in
      rw (le-leb u.nodes node_limit (omega (arith, first_is, table_adds, w.nodes)), le-leb u.automata automaton_limit (omega (arith, first_is, table_adds, w.automata)), le-leb u.edges edge_limit (omega (arith, first_is, table_adds, w.edges)))
      (le-leb (widest a) state_limit w.widths)

  -- REFUSAL 53 DOES NOT APPLY exactly where the counts are within the limits
  pub fits_iff : (fits_sheet a ≡ true) ↔ Within a
  fits_iff = (within_of, of_within)

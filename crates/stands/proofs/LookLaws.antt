-- Which ways the rule looks, gathered edge by edge and line by line: one edge or line more, and an automaton that was asked already.
use Prim.Native.Nat.{ℕ, zero, suc, ◌+◌}
use native.Mathlib.Omega.{arith}
use native.Mathlib.Numerals.{add-one}
use mathlib.Core.Path.{◌≡◌, refl, sym, subst, ap, ap₂, ◌∙◌, fun_ext}
use mathlib.Core.Logic.{◌⊎◌, inl, inr}
use mathlib.Core.Bool.{Bool, true, false, cond, ◌&&◌, ◌||◌, true≢false}
use mathlib.Core.List.{List}
use lib.Dec.{eqb, ltb}
use lib.ListN.{set, replicate}
use lib.Seq.{get_or-set_other}
use borrow.Author.Tests.{eqb-true, eqb-false, ne_eqb, lt-ltb}
use Rattle.aldlf.specs.Constants.{letter_d, letter_b}
use Rattle.aldlf.specs.Sheet.{Sheet, Line, F, Dir, ahead, back, dir_of, line_of, sheet_of}
use Rattle.aldlf.specs.Stands.{any_below, same_dir, has_dir, line_has, stands, stands_on_dir, rule_sheet}
use Rattle.aldlf.specs.declared.Automaton.{Automaton}
use Rattle.aldlf.specs.declared.Table.{Table}
use Rattle.aldlf.proofs.Bools.{bool_cases}
use Rattle.aldlf.proofs.Letters.{by_letter}
use Rattle.aldlf.proofs.Stands.{no_flag}
use Rattle.sheet.specs.Facts.{automaton_at}
use Rattle.stands.specs.Looking.{found, Ways, SheetLooks, RuleWays, WithLine, WithEdges, Asked}
use Rattle.stands.specs.Trimmed.{rule_table}
use Rattle.stands.specs.declared.Looks.{Looks}
use Rattle.stands.proofs.TrimLaws.{rule_table_sheet}

-- One edge ------------------------------------------------------------------------------------------------------------------------

pub is_ahead : (d : ℕ) → eqb d 1 ≡ same_dir (dir_of d) ahead
is_ahead zero = refl
is_ahead (suc zero) = refl
is_ahead (suc (suc d)) = rw (ne_eqb (suc (suc d)) 1 (λ z. omega arith), ne_eqb (suc (suc d)) 0 (λ z. omega arith)) refl

pub is_back : (d : ℕ) → ltb 1 d ≡ same_dir (dir_of d) back
is_back zero = refl
is_back (suc zero) = refl
is_back (suc (suc d)) = lt-ltb 1 (suc (suc d)) (omega arith) ∙ sym (rw (ne_eqb (suc (suc d)) 0 (λ z. omega arith), ne_eqb (suc (suc d)) 1 (λ z. omega arith)) refl)

or_last : (a b c : Bool) → (a || b) || c ≡ a || (c || b)
or_last true b c = refl
or_last false true true = refl
or_last false true false = refl
or_last false false true = refl
or_last false false false = refl

-- one more is asked
pub any_next : (o r q : Bool) (c : ℕ) (f : ℕ → Bool) → r ≡ o || any_below c f → q ≡ f c → r || q ≡ o || any_below (c + 1) f
any_next o r q c f e i = ap₂ ◌||◌ e i ∙ or_last o (any_below c f) (f c) ∙ ap (λ (n : ℕ). o || any_below n f) (sym (add-one c))

-- One line ------------------------------------------------------------------------------------------------------------------------

pub or_no : (b : Bool) → b ≡ b || false
or_no true = refl
or_no false = refl

-- what was found stays found
or_same : (o h r : Bool) → r ≡ o || h → r ≡ r || h
or_same true h r e = e ∙ ap (λ (b : Bool). b || h) (sym e)
or_same false true r e = e ∙ ap (λ (b : Bool). b || true) (sym e)
or_same false false r e = or_no r

or_more : (o g h r : Bool) → o ≡ o || g → r ≡ o || h → r ≡ r || g
or_more true g h r e q = q ∙ ap (λ (b : Bool). b || g) (sym q)
or_more false true h r e q = absurd (true≢false (sym e))
or_more false false h r e q = or_no r

-- no line was asked
pub none_found : (S : Sheet) → SheetLooks S 0 (record { ahead = false; back = false })
none_found S = record { ahead_is = refl; back_is = refl }

-- one line more
pub looks_next : (S : Sheet) (k : ℕ) (l r : Looks) → SheetLooks S k l → WithLine S (S.line k) l r → SheetLooks S (k + 1) r
looks_next S k l r s w =
    record {
      ahead_is = w.ahead_is ∙ any_next false l.ahead (line_has S ahead (S.line k)) k (λ k. line_has S ahead (S.line k)) s.ahead_is refl;
      back_is = w.back_is ∙ any_next false l.back (line_has S back (S.line k)) k (λ k. line_has S back (S.line k)) s.back_is refl;
    }

module _ (S : Sheet) (k a b : ℕ) (l : Line) (is : line_of k a b ≡ l) (before r : Looks) where
  -- a D or B line: the ways of its automaton
  pub with_modal : (k ≡ letter_d) ⊎ (k ≡ letter_b) → Ways (λ d. found before d || has_dir S d a) r → WithLine S l before r
  with_modal e w =
      record { ahead_is = w.ahead_is ∙ ap (λ (z : Bool). before.ahead || z) (has ahead); back_is = w.back_is ∙ ap (λ (z : Bool). before.back || z) (has back) }
    where
      kinds : (d : Dir) → (k ≡ letter_d) ⊎ (k ≡ letter_b) → has_dir S d a ≡ line_has S d (line_of k a b)
      kinds d (inl q) = subst (λ (z : ℕ). has_dir S d a ≡ line_has S d (line_of z a b)) (sym q) refl
      kinds d (inr q) = subst (λ (z : ℕ). has_dir S d a ≡ line_has S d (line_of z a b)) (sym q) refl

      has : (d : Dir) → has_dir S d a ≡ line_has S d l
      has d = kinds d e ∙ ap (line_has S d) is

  -- any other line has none
  pub with_none : ¬ (k ≡ letter_d) → ¬ (k ≡ letter_b) → before ≡ r → WithLine S l before r
  with_none x y e =
      subst (λ (z : Looks). WithLine S l before z) e
      (record { ahead_is = or_no before.ahead ∙ ap (λ (z : Bool). before.ahead || z) (sym (has ahead)); back_is = or_no before.back ∙ ap (λ (z : Bool). before.back || z) (sym (has back)) })
    where
      has : (d : Dir) → line_has S d l ≡ false
      has d = sym (ap (line_has S d) is) ∙ by_letter (λ z. line_has S d z ≡ false) k a b refl (λ e. refl) (λ e. refl) (λ e. refl) (λ e. refl) (λ e. refl) (λ e. absurd (x e)) (λ e. absurd (y e))

-- Automata that were asked --------------------------------------------------------------------------------------------------------

-- at first none
pub none_asked : (S : Sheet) (l : Looks) (n : ℕ) → Asked S l (replicate n false)
none_asked S l n m o = absurd (no_flag n m o)

-- the ways of an automaton's edges are its ways
pub edges_ways : (t : Table) (m : ℕ) (x : Automaton) (before r : Looks) → x ≡ automaton_at t m → WithEdges (sheet_of t) x.first x.count before r → Ways (λ d. found before d || has_dir (sheet_of t) d m) r
unfolding sheet_of
edges_ways t m x before r e w = subst (λ (y : Automaton). Ways (λ d. found before d || any_below y.count (λ c. same_dir ((sheet_of t).edge (y.first + c)).dir d)) r) e w

-- one more is asked
pub asked_next : (S : Sheet) (m : ℕ) (before r : Looks) (asked : List Bool) → Asked S before asked → Ways (λ d. found before d || has_dir S d m) r → Asked S r (set asked m true)
asked_next S m before r asked A w m' o = go (bool_cases (eqb m' m))
  where
    go : (eqb m' m ≡ true) ⊎ (eqb m' m ≡ false) → Ways (λ d. found r d || has_dir S d m') r
    go (inl e) = subst (λ (n : ℕ). Ways (λ d. found r d || has_dir S d n) r) (sym (eqb-true m' m e))
        (record { ahead_is = or_same before.ahead (has_dir S ahead m) r.ahead w.ahead_is; back_is = or_same before.back (has_dir S back m) r.back w.back_is })
    go (inr e) =
        let was = A m' (sym (get_or-set_other asked m m' true false (eqb-false m' m e)) ∙ o) in
        record {
          ahead_is = or_more before.ahead (has_dir S ahead m') (has_dir S ahead m) r.ahead was.ahead_is w.ahead_is;
          back_is = or_more before.back (has_dir S back m') (has_dir S back m) r.back was.back_is w.back_is;
        }

-- The rule ------------------------------------------------------------------------------------------------------------------------

-- the ways of the sheet that parts judge are those of the rule
rule_dir : (S : Sheet) (d : Dir) → any_below (rule_sheet S).nodes (λ k. line_has (rule_sheet S) d ((rule_sheet S).line k)) ≡ stands_on_dir S d
unfolding rule_sheet stands_on_dir
rule_dir S d = ap (any_below S.nodes) (fun_ext (λ k. go k (stands S k)))
  where
    go : (k : ℕ) (b : Bool) → line_has (rule_sheet S) d (cond b (S.line k) F) ≡ b && line_has S d (S.line k)
    go k true = refl
    go k false = refl

pub rule_ways : (t : Table) (l : Looks) → SheetLooks (sheet_of (rule_table t)) t.used.nodes l → RuleWays t l
unfolding sheet_of
rule_ways t l w = record { ahead_is = w.ahead_is ∙ dir ahead; back_is = w.back_is ∙ dir back }
  where
    dir : (d : Dir) → any_below t.used.nodes (λ k. line_has (sheet_of (rule_table t)) d ((sheet_of (rule_table t)).line k)) ≡ stands_on_dir (sheet_of t) d
    dir d = ap (λ (R : Sheet). any_below R.nodes (λ k. line_has R d (R.line k))) (rule_table_sheet t) ∙ rule_dir (sheet_of t) d

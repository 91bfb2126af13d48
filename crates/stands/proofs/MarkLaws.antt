-- Marking: a turn of each loop, what a line's letter marks, and that the tests of an automaton that is taken need no second look.
use Prim.Native.Nat.{ℕ, zero, suc, ◌+◌, ◌-◌, ◌≤◌, ◌<◌}
use native.Mathlib.Omega.{arith}
use native.Mathlib.Numerals.{add-one}
use mathlib.Core.Path.{◌≡◌, refl, sym, subst, ap, ◌∙◌}
use mathlib.Core.Logic.{◌⊎◌, inl, inr}
use mathlib.Core.Bool.{Bool, true, false, cond}
use mathlib.Core.List.{List}
use lib.Dec.{eqb}
use lib.ListN.{length, get_or, set}
use lib.Seq.{get_or-set_other, set-get_or}
use borrow.Author.Tests.{eqb-true, eqb-false}
use Rattle.aldlf.specs.Constants.{node_limit, edge_limit, letter_n, letter_a, letter_o, letter_d, letter_b}
use Rattle.aldlf.specs.Sheet.{Sheet, Line, line_of, sheet_of}
use Rattle.aldlf.specs.Stands.{EdgeOf, Tests, mark, mark_tests, mark_modal, mark_line, stands_from}
use Rattle.aldlf.specs.declared.Table.{Table}
use Rattle.aldlf.specs.declared.Edge.{Edge}
use Rattle.aldlf.specs.declared.NodeLine.{NodeLine}
use Rattle.aldlf.proofs.Bools.{bool_cases}
use Rattle.aldlf.proofs.Letters.{by_letter}
use Rattle.aldlf.proofs.Stands.{On, mark_keeps, tests_keep, tests_here, line_keeps}
use Rattle.sheet.specs.Facts.{node_at, automaton_at, TableFacts, Lent}
use Rattle.stands.specs.Marking.{Taken, Marked, turned, TestsIn, LineIn}

-- The tests of an automaton -------------------------------------------------------------------------------------------------------

-- one edge more
pub tests_next : (S : Sheet) (f c : ℕ) (p q : List Bool) → q ≡ mark_tests S f c p → set q (S.edge (f + c)).test true ≡ mark_tests S f (c + 1) p
tests_next S f c p q e = ap (λ (z : List Bool). set z (S.edge (f + c)).test true) e ∙ ap (λ (n : ℕ). mark_tests S f n p) (sym (add-one c))

-- nothing changes where all are marked
idle : (S : Sheet) (f c : ℕ) (p : List Bool) → ((e : ℕ) → f ≤ e → e < f + c → On p (S.edge e).test) → mark_tests S f c p ≡ p
idle S f zero p on = refl
idle S f (suc c) p on =
    ap (mark (S.edge (f + c)).test) (idle S f c p (λ e a b. on e a (omega arith)))
    ∙ ap (λ (b : Bool). set p (S.edge (f + c)).test b) (sym (on (f + c) (omega arith) (omega arith))) ∙ set-get_or p (S.edge (f + c)).test false

-- Automata that are taken ---------------------------------------------------------------------------------------------------------

module _ (S : Sheet) (p q taken : List Bool) (keeps : (y : ℕ) → On p y → On q y) (T : Taken S p taken) where
  -- marks that stay keep their promise
  pub taken_grows : Taken S q taken
  taken_grows m o x z = keeps x (T m o x z)

  -- one more is taken, whose tests are marked
  taken_more : (m : ℕ) → ((x : ℕ) → Tests S m x → On q x) → Taken S q (set taken m true)
  taken_more m on m' o x z = go (bool_cases (eqb m' m))
    where
      go : (eqb m' m ≡ true) ⊎ (eqb m' m ≡ false) → On q x
      go (inl e) = on x (subst (λ (n : ℕ). Tests S n x) (eqb-true m' m e) z)
      go (inr e) = taken_grows m' (sym (get_or-set_other taken m m' true false (eqb-false m' m e)) ∙ o) x z

module _ (S : Sheet) (m : ℕ) (p taken : List Bool) (T : Taken S p taken) where
  abbrev first : ℕ
  first = (S.automaton m).first

  abbrev count : ℕ
  count = (S.automaton m).count

  -- it is taken already: its tests are marked
  pub automaton_idle : get_or taken m false ≡ true → Marked S (mark_tests S first count p) p taken
  automaton_idle o = record { flags_are = sym (idle S first count p (λ e a b. T m o (S.edge e).test (e, (a, b), refl))); taken_are = T }

  -- it is taken now
  pub automaton_marked : (q : List Bool) → q ≡ mark_tests S first count p → ((e : ℕ) → EdgeOf S m e → (S.edge e).test < length p) → Marked S (mark_tests S first count p) q (set taken m true)
  automaton_marked q e inside =
      record {
        flags_are = e;
        taken_are = taken_more S p q taken (λ y o. at y (tests_keep S first count p y o)) T m
            (λ x z. at x (subst (On (mark_tests S first count p)) z.2 (tests_here S first count p z.0 z.1.0 z.1.1 (inside z.0 z.1))));
      }
    where
      at : (y : ℕ) → On (mark_tests S first count p) y → On q y
      at y o = subst (λ (z : List Bool). On z y) (sym e) o

-- Lines ---------------------------------------------------------------------------------------------------------------------------

-- what a line names is marked, and no automaton is taken
pub line_marked : (S : Sheet) (l : Line) (p q taken : List Bool) → Taken S p taken → q ≡ mark_line S l p → Marked S (mark_line S l p) q taken
line_marked S l p q taken T e =
    record { flags_are = e; taken_are = taken_grows S p q taken (λ y o. subst (λ (z : List Bool). On z y) (sym e) (line_keeps S l p y o)) T }

-- so is the operand of a D or B line
pub operand_taken : (S : Sheet) (b : ℕ) (p q taken : List Bool) → Taken S p taken → q ≡ set p b true → Taken S q taken
operand_taken S b p q taken T e = taken_grows S p q taken (λ y o. subst (λ (z : List Bool). On z y) (sym e) (mark_keeps p b y o)) T

module _ (S : Sheet) (k a b : ℕ) (p : List Bool) where
  abbrev Marks : List Bool → Type 0
  Marks q = q ≡ mark_line S (line_of k a b) p

  pub marks_not : k ≡ letter_n → Marks (set p a true)
  marks_not e = subst (λ (z : ℕ). set p a true ≡ mark_line S (line_of z a b) p) (sym e) refl

  pub marks_both : (k ≡ letter_a) ⊎ (k ≡ letter_o) → Marks (set (set p a true) b true)
  marks_both (inl e) = subst (λ (z : ℕ). set (set p a true) b true ≡ mark_line S (line_of z a b) p) (sym e) refl
  marks_both (inr e) = subst (λ (z : ℕ). set (set p a true) b true ≡ mark_line S (line_of z a b) p) (sym e) refl

  marks_modal : (k ≡ letter_d) ⊎ (k ≡ letter_b) → Marks (mark_modal S a b p)
  marks_modal (inl e) = subst (λ (z : ℕ). mark_modal S a b p ≡ mark_line S (line_of z a b) p) (sym e) refl
  marks_modal (inr e) = subst (λ (z : ℕ). mark_modal S a b p ≡ mark_line S (line_of z a b) p) (sym e) refl

  -- the operand of a D or B line, and then the tests of its automaton
  pub modal_marked : (k ≡ letter_d) ⊎ (k ≡ letter_b) → (l : Line) → line_of k a b ≡ l → (r q taken : List Bool) → r ≡ set p b true
      → Marked S (mark_tests S (S.automaton a).first (S.automaton a).count r) q taken → Marked S (mark_line S l p) q taken
  modal_marked e l is r q taken f M =
      record {
        flags_are = M.flags_are ∙ ap (mark_tests S (S.automaton a).first (S.automaton a).count) f ∙ marks_modal e ∙ ap (λ (x : Line). mark_line S x p) is;
        taken_are = M.taken_are;
      }

  -- a line of any other letter names nothing
  pub marks_none : ¬ (k ≡ letter_n) → ¬ (k ≡ letter_a) → ¬ (k ≡ letter_o) → ¬ (k ≡ letter_d) → ¬ (k ≡ letter_b) → Marks p
  marks_none n x o d m =
      by_letter (λ l. p ≡ mark_line S l p) k a b refl (λ e. refl) (λ e. refl) (λ e. absurd (n e)) (λ e. absurd (x e)) (λ e. absurd (o e)) (λ e. absurd (d e)) (λ e. absurd (m e))

-- The pass ------------------------------------------------------------------------------------------------------------------------

pub turn_skips : (S : Sheet) (k : ℕ) (p taken : List Bool) → Taken S p taken → get_or p k false ≡ false → Marked S (turned S k p) p taken
turn_skips S k p taken T e = record { flags_are = sym (ap (λ (b : Bool). cond b (mark_line S (S.line k) p) p) e); taken_are = T }

pub turn_marks : (S : Sheet) (k : ℕ) (p q taken : List Bool) → get_or p k false ≡ true → Marked S (mark_line S (S.line k) p) q taken → Marked S (turned S k p) q taken
turn_marks S k p q taken e M = subst (λ (w : List Bool). Marked S w q taken) (sym (ap (λ (b : Bool). cond b (mark_line S (S.line k) p) p) e)) M

pub from_next : (S : Sheet) (k : ℕ) (p q : List Bool) → 0 < k → q ≡ turned S (k - 1) p → stands_from S (k - 1) q ≡ stands_from S k p
from_next S k p q l e =
    let is : k ≡ suc (k - 1) = omega arith in
    ap (stands_from S (k - 1)) e ∙ ap (λ (n : ℕ). stands_from S n p) (sym is)

-- What a given table's lines and automata name ------------------------------------------------------------------------------------

pub line_in : (t : Table) → TableFacts t → (k : ℕ) → k < t.used.nodes → LineIn t.used.automata (node_at t k)
line_in t f k l =
    record {
      one_node = λ e. omega (arith, (f.node k l).not< e, f.nodes≤);
      two_nodes = λ e. let q = (f.node k l).both< e in (omega (arith, q.0, f.nodes≤), omega (arith, q.1, f.nodes≤));
      modal = λ e. let m = (f.node k l).modal e in (m.automaton<, omega (arith, m.node<, f.nodes≤));
    }

-- a line that was read is the sheet's
pub line_read : (t : Table) (k : ℕ) (x : NodeLine) → x ≡ node_at t k → line_of x.kind x.a x.b ≡ (sheet_of t).line k
unfolding sheet_of
line_read t k x e = ap (λ (y : NodeLine). line_of y.kind y.a y.b) e

-- the edges of an automaton that is in use
pub tests_in : (t : Table) (numbers : List ℕ) → Lent t numbers → (m : ℕ) → m < t.used.automata → TestsIn numbers (automaton_at t m)
tests_in t numbers L m l =
    let a = L.facts.automaton m l in
    let end : (automaton_at t m).first + (automaton_at t m).count ≤ edge_limit = omega (arith, a.edges≤, L.facts.edges≤) in
    record {
      size = L.packed.size;
      edges≤ = end;
      test< = λ e lo hi. subst (λ (y : Edge). y.test.0 < node_limit) (sym (L.packed.edge_is e (omega arith))) (omega (arith, (a.edge e lo hi).test<, a.before<, L.facts.nodes≤));
    }

-- and the nodes that they test, in the sheet
pub tests_inside : (t : Table) (numbers : List ℕ) → Lent t numbers → (m : ℕ) → m < t.used.automata → (e : ℕ) → EdgeOf (sheet_of t) m e → ((sheet_of t).edge e).test < node_limit
unfolding sheet_of
tests_inside t numbers L m l e z = let a = L.facts.automaton m l in omega (arith, (a.edge e z.0 z.1).test<, a.before<, L.facts.nodes≤)

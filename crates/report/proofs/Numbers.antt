-- The numbers that a page prints are small: those of questions and lines, and the edges of a walk.
use Prim.Native.Nat.{ℕ, zero, suc, ◌+◌, ◌≤◌, ◌<◌}
use mathlib.Core.Path.{◌≡◌, refl, ap}
use mathlib.Core.Logic.{◌⊎◌, inl, inr, ⊎_elim}
use mathlib.Core.Bool.{Bool, true, false, cond}
use mathlib.Core.List.{List, [], ◌∷◌}
use mathlib.Core.Option.{Option, none, some}
use native.Mathlib.Omega.{arith}
use borrow.Author.Tests.{leb-true}
use lib.ListN.{length, get_or, set, replicate}
use lib.Dec.{eqb, ltb, leb}
use Rattle.aldlf.specs.Constants.{automaton_limit, edge_limit, letter_m}
use Rattle.aldlf.specs.Sheet.{Sheet, Line, T, F, P, N, A, O, D, B, sheet_of}
use Rattle.aldlf.specs.Meaning.{Values, Walk}
use Rattle.aldlf.specs.Outcomes.{first_no}
use Rattle.aldlf.specs.Walks.{ShowsLine, walk_of, edges_of}
use Rattle.aldlf.specs.declared.Table.{Table}
use Rattle.aldlf.proofs.Bools.{bool_cases, lt-or-le}
use Rattle.aldlf.proofs.Shortest.{best_of}
use Rattle.text.specs.Text.{lf, lines, glue, byte_limit, ends_in_lf, fields}
use Rattle.sheet.specs.Questions as sheet
use Rattle.sheet.specs.Answers.{SheetAnswer}
use Rattle.sheet.specs.Ranges.{a_count}
use Rattle.sheet.specs.Facts.{TableFacts}
use Rattle.sheet.proofs.Fields.{question_right}

-- Questions -------------------------------------------------------------------------------------------------------------------

abbrev pub AtMost : ℕ → List (Bool × ℕ) → Type 0
AtMost n [] = Unit {0}
AtMost n (q ∷ qs) = (q.1 ≤ n) × AtMost n qs

first_go : (n number : ℕ) (b : Bool) (rest : ℕ) → number ≤ n → rest ≤ n → (elim b [ true ↦ rest | false ↦ number ]) ≤ n
first_go n number true rest p q = q
first_go n number false rest p q = p

-- the first question that gets a no is one of those asked
pub first_le : (n : ℕ) (qs : List (Bool × ℕ)) → AtMost n qs → first_no qs ≤ n
first_le n [] a = omega arith
first_le n (q ∷ qs) a = first_go n q.1 q.0 (first_no qs) a.0 (first_le n qs a.1)

-- The sheet -------------------------------------------------------------------------------------------------------------------

-- what a function is given: by it the sheet's own types, which it does not export, can be named
abbrev Given : {X Y : Type 0} → (X → Y) → Type 0
Given {X} f = X

-- a sheet read so far, and a line of it
abbrev pub Reading : Type 0
Reading = Given sheet.finish

abbrev SheetLine : Type 0
SheetLine = Given sheet.known_line

-- an answer whose number is at most 76, whose line is at most n, and whose field is at most 5
pub record Small (a : SheetAnswer) (n : ℕ) : Type 0 where
  pub number≤ : a.number ≤ a_count
  pub line≤ : a.line ≤ n
  pub field≤ : a.field ≤ 5

pick_small : (b : Bool) (x y : SheetAnswer) (n : ℕ) → Small x n → Small y n → Small (cond b x y) n
pick_small true x y n p q = p
pick_small false x y n p q = q

-- each M line's number is at most n
abbrev Marked : List ℕ → ℕ → Type 0
Marked ms n = (i : ℕ) → get_or ms i 0 ≤ n

marked_set : (ms : List ℕ) (j v n : ℕ) → Marked ms n → v ≤ n → Marked (set ms j v) n
marked_set [] j v n m h i = m i
marked_set (x ∷ xs) zero v n m h zero = h
marked_set (x ∷ xs) zero v n m h (suc i) = m (suc i)
marked_set (x ∷ xs) (suc j) v n m h zero = m zero
marked_set (x ∷ xs) (suc j) v n m h (suc i) = marked_set xs j v n (λ y. m (suc y)) h i

marked_none : (k n : ℕ) → Marked (replicate k 0) n
marked_none zero n i = omega arith
marked_none (suc k) n zero = omega arith
marked_none (suc k) n (suc i) = marked_none k n i

marked_pick : (b : Bool) (x y : List ℕ) (n : ℕ) → Marked x n → Marked y n → Marked (cond b x y) n
marked_pick true x y n p q = p
marked_pick false x y n p q = q

marked_added : (r : Reading) (k : ℕ) (l : SheetLine) → Marked r.mlines k → Marked (sheet.added r (k + 1) l).mlines (k + 1)
unfolding sheet.added
marked_added r k l m =
    let m₁ : Marked r.mlines (k + 1) = λ i. omega (arith, m i) in
    marked_pick (eqb l.letter letter_m) (set r.mlines r.table.used.automata (k + 1)) r.mlines (k + 1) (marked_set r.mlines r.table.used.automata (k + 1) (k + 1) m₁ (omega arith)) m₁

finish_small : (r : Reading) (k : ℕ) → Marked r.mlines k → Small (sheet.finish r k) k
unfolding sheet.finish
finish_small r k m =
    pick_small (ltb (sheet.whole_of r.table) r.table.used.automata) _ _ k (record { number≤ = omega arith; line≤ = m (sheet.whole_of r.table); field≤ = omega arith })
    (pick_small r.inside _ _ k (record { number≤ = omega arith; line≤ = omega arith; field≤ = omega arith }) (record { number≤ = omega arith; line≤ = omega arith; field≤ = omega arith }))

lines_small : (r : Reading) (k : ℕ) (ls : List (List ℕ)) (n : ℕ) → Marked r.mlines k → k + length ls ≤ n → Small (sheet.read_lines r k ls) n
unfolding sheet.read_lines
lines_small r k [] n m h = let s = finish_small r k m in record { number≤ = s.number≤; line≤ = omega (arith, s.line≤); field≤ = s.field≤ }
lines_small r k (l ∷ ls) n m h =
    let x = sheet.parsed (fields l) in
    let q = question_right r x in
    pick_small (eqb (sheet.question r x).number 0) (sheet.read_lines (sheet.added r (k + 1) x) (k + 1) ls) (sheet.refused_by (sheet.question r x) (k + 1)) n
    (lines_small (sheet.added r (k + 1) x) (k + 1) ls n (marked_added r k x m) (omega arith))
    (record { number≤ = q.number≤; line≤ = omega arith; field≤ = q.field≤ })

glue-length : (b : ℕ) (ls : List (List ℕ)) → length (glue b ls) ≤ suc (length ls)
glue-length b [] = omega arith
glue-length b (l ∷ ls) = omega arith

-- a text has no more lines than bytes
lines-length : (text : List ℕ) → length (lines text) ≤ length text
unfolding lines
lines-length [] = omega arith
lines-length (b ∷ bs) = go (eqb b lf) (lines-length bs)
  where
    go : (t : Bool) → length (lines bs) ≤ length bs → length (cond t ([] ∷ lines bs) (glue b (lines bs))) ≤ suc (length bs)
    go true h = omega arith
    go false h = omega (arith, glue-length b (lines bs))

pub sheet_small : (text : List ℕ) → Small (sheet.read_sheet text) byte_limit
unfolding sheet.read_sheet
sheet_small text = go (bool_cases (leb (length text) byte_limit))
  where
    go : (leb (length text) byte_limit ≡ true) ⊎ (leb (length text) byte_limit ≡ false) → Small (sheet.read_sheet text) byte_limit
    go (inl e) =
        rw e
        (pick_small (ends_in_lf text) (sheet.read_lines sheet.start 0 (lines text)) (sheet.refused 2 0) byte_limit
        (lines_small sheet.start 0 (lines text) byte_limit (marked_none automaton_limit 0) (omega (arith, lines-length text, leb-true (length text) byte_limit e)))
        (record { number≤ = omega arith; line≤ = omega arith; field≤ = omega arith }))
    go (inr e) = rw e (record { number≤ = omega arith; line≤ = omega arith; field≤ = omega arith })

-- The walk --------------------------------------------------------------------------------------------------------------------

-- an automaton's edges have numbers below 256
automaton_small : (t : Table) → TableFacts t → (m : ℕ) → ((sheet_of t).automaton m).first + ((sheet_of t).automaton m).count ≤ edge_limit
unfolding sheet_of
automaton_small t f m =
    ⊎_elim (λ h. omega (arith, (f.automaton m h).edges≤, f.edges≤))
    (λ h. let z = f.no_automaton_past m h in omega (arith, ap (λ x. x.first) z, ap (λ x. x.count) z))
    (lt-or-le m t.used.automata)

walk_small : (S : Sheet) (H : Values) (n m : ℕ) (es : List ℕ) (s i s' j : ℕ) → (S.automaton m).first + (S.automaton m).count ≤ edge_limit → Walk S H n m es s i s' j → (x : ℕ) → get_or es x 0 < edge_limit
walk_small S H n m [] s i s' j h w x = omega arith
walk_small S H n m (e ∷ es) s i s' j h w zero = omega (arith, w.0.below)
walk_small S H n m (e ∷ es) s i s' j h w (suc x) = walk_small S H n m es (S.edge e).to w.1.0 s' j h w.1.2 x

shows_small : (S : Sheet) (H : Values) (n i : ℕ) (l : Line) (es : List ℕ) → ((m : ℕ) → (S.automaton m).first + (S.automaton m).count ≤ edge_limit) → ShowsLine S H n i l es → (x : ℕ) → get_or es x 0 < edge_limit
shows_small S H n i T es h v = absurd v
shows_small S H n i F es h v = absurd v
shows_small S H n i (P f) es h v = absurd v
shows_small S H n i (N a) es h v = absurd v
shows_small S H n i (A a b) es h v = absurd v
shows_small S H n i (O a b) es h v = absurd v
shows_small S H n i (D m a) es h v = walk_small S H n m es (S.automaton m).start i v.0 v.1 (h m) v.2
shows_small S H n i (B m a) es h v = walk_small S H n m es (S.automaton m).start i v.0 v.1 (h m) v.2

-- the edges of a walk of a table that some sheet gives
pub edges_small : (t : Table) (log : List ℕ) (k i : ℕ) → TableFacts t → i < length log → (x : ℕ) → get_or (edges_of (walk_of (sheet_of t) log k i)) x 0 < edge_limit
edges_small t log k i f l = go (walk_of (sheet_of t) log k i) refl
  where
    go : (o : Option (List ℕ)) → walk_of (sheet_of t) log k i ≡ o → (x : ℕ) → get_or (edges_of o) x 0 < edge_limit
    go none e x = omega arith
    go (some es) e x = shows_small (sheet_of t) _ (length log) i ((sheet_of t).line k) es (automaton_small t f) (best_of (sheet_of t) log k i l es e).shows x

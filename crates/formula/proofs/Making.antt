-- A formula's lines are put into a table one by one, so what one line keeps is kept by all of them: the lengths of the arrays here, more in other files.
use Prim.Native.Nat.{ℕ, ◌≤◌}
use native.Mathlib.Omega.{arith}
use mathlib.Core.Path.{◌≡◌, refl, ◌∙◌}
use lib.ListN.{length, length-set}
use lib.Seq.{length-sets}
use Rattle.aldlf.specs.Constants.{node_limit, automaton_limit, edge_limit}
use Rattle.aldlf.specs.declared.Table.{Table}
use Rattle.sheet.specs.Questions.{with_node}
use Rattle.formula.specs.Formula.{Formula, always, fact, neg, both, either, some, every, Path, step, seq, alt, many}
use Rattle.formula.specs.Numbering.{with_letter, with_path, made, made_in, first_table}

-- from table t one comes to u by node lines and by paths' lines
pub data Makes : Table → Table → Type 0 where
  none : {t : Table} → Makes t t
  letter : {t u : Table} → Makes t u → (l x y : ℕ) → Makes t (with_letter u l x y)
  path : {t u : Table} → Makes t u → (k : ℕ) (p : Path) → Makes t (with_path u k p)

then : {t u v : Table} → Makes t u → Makes u v → Makes t v
then r none = r
then r (letter s l x y) = letter (then r s) l x y
then r (path s k p) = path (then r s) k p

mutual
  unfolding made

  pub makes : (a : Formula) (t : Table) → Makes t (made a t)
  makes always t = letter none _ _ _
  makes (fact f) t = letter none _ _ _
  makes (neg a) t = letter (makes a t) _ _ _
  makes (both a b) t = letter (then (makes a t) (makes b (made a t))) _ _ _
  makes (either a b) t = letter (then (makes a t) (makes b (made a t))) _ _ _
  makes (some p a) t = letter (then (path (makes_in p t) t.used.nodes p) (makes a _)) _ _ _
  makes (every p a) t = letter (then (path (makes_in p t) t.used.nodes p) (makes a _)) _ _ _

  pub makes_in : (p : Path) (t : Table) → Makes t (made_in p t)
  makes_in (step d a) t = makes a t
  makes_in (seq p q) t = then (makes_in p t) (makes_in q (made_in p t))
  makes_in (alt p q) t = then (makes_in p t) (makes_in q (made_in p t))
  makes_in (many p) t = makes_in p t

pub nodes_grow : {t u : Table} → Makes t u → t.used.nodes ≤ u.used.nodes
unfolding with_node
nodes_grow none = omega arith
nodes_grow (letter r l x y) = omega (arith, nodes_grow r)
nodes_grow (path r k p) = nodes_grow r

-- the counts are within the limits
abbrev pub Small : Table → Type 0
Small t = (t.used.nodes ≤ node_limit) × (t.used.automata ≤ automaton_limit) × (t.used.edges ≤ edge_limit)

-- the arrays are as long as their types say
pub record Sized (t : Table) : Type 0 where
  pub nodes : length t.nodes ≡ node_limit
  pub automata : length t.automata ≡ automaton_limit
  pub edges : length t.edges ≡ edge_limit

sized_letter : (t : Table) (l x y : ℕ) → Sized t → Sized (with_letter t l x y)
unfolding with_node
sized_letter t l x y z = record { nodes = length-set t.nodes t.used.nodes (record { kind = l; a = x; b = y }) ∙ z.nodes; automata = z.automata; edges = z.edges }

sized_path : (t : Table) (k : ℕ) (p : Path) → Sized t → Sized (with_path t k p)
sized_path t k p z = record { nodes = z.nodes; automata = simp length-set z.automata; edges = simp length-sets z.edges }

pub sized : {t u : Table} → Makes t u → Sized t → Sized u
sized none z = z
sized (letter r l x y) z = sized_letter _ l x y (sized r z)
sized (path r k p) z = sized_path _ k p (sized r z)

pub first_sized : Sized first_table
unfolding with_node
first_sized = record { nodes = refl; automata = refl; edges = refl }

-- A node line more, and the instructions that make a node, where there is room and where there is none.
use Prim.Native.Nat.{ℕ, ◌+◌, ◌-◌, ◌≤◌, ◌<◌}
use mathlib.Core.Path.{◌≡◌, refl, ap, ◌∙◌}
use mathlib.Core.List.{List}
use native.Mathlib.Omega.{arith}
use lib.ListN.{set, length-set}
use borrow.Author.Tests.{eq-eqb, ne_eqb, lt-ltb, le-ltb}
use Rattle.std.specs.Prelude.{Option, Some, None, IfSome}
use Rattle.aldlf.specs.Constants.{node_limit, fact_limit, letter_t, letter_p, letter_n, letter_a, letter_o}
use Rattle.aldlf.specs.declared.NodeLine.{NodeLine}
use Rattle.aldlf.specs.declared.Edge.{Edge}
use Rattle.aldlf.specs.declared.Automaton.{Automaton}
use Rattle.aldlf.specs.declared.Table.{Table}
use Rattle.sheet.specs.Questions.{with_node}
use Rattle.packing.specs.Numbers.{line_in}
use Rattle.making.specs.declared.stack.Kept.{Kept}
use Rattle.making.specs.declared.counts.Counts.{Counts}
use Rattle.making.specs.Work.{Outline, Made, over, live, grown, newest_of, under}
use Rattle.making.specs.Run.{bench, last_of, rest_of, node_on}
use Rattle.making.specs.Numbers.{kept_of, lines_in, table_in, outline_in, work_in, work_by, bench_by, topped_in, Lined, NodeMade}
use Rattle.making.proofs.Lists.{map-set}

-- the counts with a node more
abbrev noded_in : Counts → Counts
noded_in c =
    record {
      nodes = c.nodes + 1;
      automata = c.automata;
      edges = c.edges;
      links = c.links;
      states = c.states;
      base = c.base;
      entry = c.entry;
      exit = c.exit;
      top = c.top;
    }

module _ (c : Counts) (xs : List ℕ) (x : NodeLine) where
  line_yes : (p : ℕ) → c.nodes < node_limit → line_in p ≡ x → (ms : List Automaton) (es ks : List Edge)
      → work_in (noded_in c) (lines_in (set xs c.nodes p)) ms es ks ≡ grown x.kind x.a x.b (work_in c (lines_in xs) ms es ks)
  unfolding grown with_node
  line_yes p h e ms es ks = rw (lt-ltb c.nodes node_limit h, map-set line_in xs c.nodes p, e)

  pub lined_yes : (p : ℕ) → c.nodes < node_limit → line_in p ≡ x → Lined (grown x.kind x.a x.b) c (Some (noded_in c)) xs (set xs c.nodes p)
  lined_yes p h e = record { work = λ ms es ks. line_yes p h e ms es ks; top = refl; sized = λ s. s; long = length-set xs c.nodes p }

  line_no : node_limit ≤ c.nodes → (ms : List Automaton) (es ks : List Edge) → over ≡ grown x.kind x.a x.b (work_in c (lines_in xs) ms es ks)
  unfolding grown
  line_no h ms es ks = rw (le-ltb c.nodes node_limit h)

  pub lined_no : node_limit ≤ c.nodes → Lined (grown x.kind x.a x.b) c None xs xs
  lined_no h = record { work = λ ms es ks. line_no h ms es ks; top = tt; sized = tt; long = refl }

-- the last node, by the counts
newest_is : (t : Table) (o : Outline) (n l a : ℕ) → n ≡ t.used.nodes - 1 → grown l a n (live t o) ≡ grown l a (newest_of (live t o)) (live t o)
unfolding newest_of grown
newest_is t o n l a e = rw e

newest_first : (t : Table) (o : Outline) (n l : ℕ) → n ≡ t.used.nodes - 1 → grown l n 0 (live t o) ≡ grown l (newest_of (live t o)) 0 (live t o)
unfolding newest_of grown
newest_first t o n l e = rw e

module _ (c : Counts) (r : Option Counts) (xs ys : List ℕ) (k : Kept) (n : ℕ) (e : n ≡ c.nodes - 1) where
  pub under-n : k.a ≡ letter_n → Lined (grown k.a n 0) c r xs ys → Lined (under k.a k.b) c r xs ys
  unfolding under
  under-n h d =
      record {
        work = λ ms es ks. d.work ms es ks ∙ rw (eq-eqb k.a letter_n h) (newest_first (table_in c (lines_in xs) ms es) (outline_in c ks) n k.a e);
        top = d.top;
        sized = d.sized;
        long = d.long;
      }

  pub under_other : ¬ (k.a ≡ letter_n) → Lined (grown k.a k.b n) c r xs ys → Lined (under k.a k.b) c r xs ys
  unfolding under
  under_other h d =
      record {
        work = λ ms es ks. d.work ms es ks ∙ rw (ne_eqb k.a letter_n h) (newest_is (table_in c (lines_in xs) ms es) (outline_in c ks) n k.a k.b e);
        top = d.top;
        sized = d.sized;
        long = d.long;
      }

pub bench_same : {v w : Made} {s u : List Kept} → v ≡ w → s ≡ u → bench v s ≡ bench w u
bench_same e f = cc

-- what holds of an answer's counts says what else holds of them
pub some_as : {A : Type 0} {P Q : A → Type 0} (r : Option A) → IfSome r P → ((x : A) → P x → Q x) → IfSome r Q
some_as None h f = tt
some_as (Some x) h f = f x h

-- an answer by what is made and by what is kept
pub bench_made : (r : Option Counts) (ns : List NodeLine) (ms : List Automaton) (es ks : List Edge) (st : List ℕ) (v : Made) (s : List Kept) → work_by r ns ms es ks ≡ v
    → IfSome r (λ x. kept_of st x.top ≡ s) → bench_by r ns ms es ks st ≡ bench v s
bench_made None ns ms es ks st v s e h = ap (λ (z : Made). bench z s) e
bench_made (Some x) ns ms es ks st v s e h = bench_same e h

module _ (c : Counts) (r : Option Counts) (st xs ys : List ℕ) (op : ℕ) where
  -- on what is kept as it is
  pub fact_made : op < fact_limit → Lined (grown letter_p op 0) c r xs ys → NodeMade (node_on op) c r st xs ys
  unfolding node_on
  fact_made h d =
      record {
        work = λ ms es ks. rw (lt-ltb op fact_limit h) (bench_made r (lines_in ys) ms es ks st _ _ (d.work ms es ks) (some_as r d.top (λ x h. ap (kept_of st) h)));
        top = some_as r d.top (λ x h. omega arith);
        sized = d.sized;
        long = d.long;
      }

  pub true_made : op ≡ 84 → Lined (grown letter_t 0 0) c r xs ys → NodeMade (node_on op) c r st xs ys
  unfolding node_on
  true_made h d =
      record { work = λ ms es ks. rw h (bench_made r (lines_in ys) ms es ks st _ _ (d.work ms es ks) (some_as r d.top (λ x h. ap (kept_of st) h))); top = some_as r d.top (λ x h. omega arith); sized = d.sized; long = d.long }

  -- on what was kept last
  module _ (k : Kept) (m n : ℕ) (e : n ≡ c.nodes - 1) (last : k ≡ last_of (kept_of st c.top)) (rest : kept_of st m ≡ rest_of (kept_of st c.top)) (less : m ≤ c.top) where
    pub and_made : op ≡ 38 → Lined (grown letter_a k.a n) (topped_in m c) r xs ys → NodeMade (node_on op) c r st xs ys
    unfolding node_on
    and_made h d =
        record {
          work = λ ms es ks.
              rw (h, ← last)
              (bench_made r (lines_in ys) ms es ks st _ _ (d.work ms es ks ∙ newest_is (table_in c (lines_in xs) ms es) (outline_in c ks) n letter_a k.a e) (some_as r d.top (λ x h. ap (kept_of st) h ∙ rest)));
          top = some_as r d.top (λ x h. omega arith);
          sized = d.sized;
          long = d.long;
        }

    pub or_made : op ≡ 124 → Lined (grown letter_o k.a n) (topped_in m c) r xs ys → NodeMade (node_on op) c r st xs ys
    unfolding node_on
    or_made h d =
        record {
          work = λ ms es ks.
              rw (h, ← last)
              (bench_made r (lines_in ys) ms es ks st _ _ (d.work ms es ks ∙ newest_is (table_in c (lines_in xs) ms es) (outline_in c ks) n letter_o k.a e) (some_as r d.top (λ x h. ap (kept_of st) h ∙ rest)));
          top = some_as r d.top (λ x h. omega arith);
          sized = d.sized;
          long = d.long;
        }

    pub under_made : fact_limit ≤ op → ¬ (op ≡ 84) → ¬ (op ≡ 38) → ¬ (op ≡ 124) → Lined (under k.a k.b) (topped_in m c) r xs ys → NodeMade (node_on op) c r st xs ys
    unfolding node_on
    under_made h1 h2 h3 h4 d =
        record {
          work = λ ms es ks.
              rw (le-ltb op fact_limit h1, ne_eqb op 84 h2, ne_eqb op 38 h3, ne_eqb op 124 h4, ← last) (bench_made r (lines_in ys) ms es ks st _ _ (d.work ms es ks) (some_as r d.top (λ x h. ap (kept_of st) h ∙ rest)));
          top = some_as r d.top (λ x h. omega arith);
          sized = d.sized;
          long = d.long;
        }

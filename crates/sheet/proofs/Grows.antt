-- A line that passes keeps what holds of a table that lines have built; so does the beginning.
use Prim.Native.Nat.{ℕ, zero, suc, ◌-◌, ◌≤◌}
use mathlib.Core.Path.{◌≡◌, refl, sym, ◌∙◌}
use mathlib.Core.Bool.{true, false}
use mathlib.Core.Logic.{◌⊎◌, inl, inr, ⊎_elim}
use native.Mathlib.Omega.{arith}
use lib.ListN.{get_or, replicate}
use borrow.Author.Tests.{ne_eqb}
use Rattle.aldlf.specs.Constants.{node_limit, letter_m, letter_g, letter_e}
use Rattle.aldlf.specs.Sheet.{no_line, no_edge, no_automaton}
use Rattle.aldlf.specs.declared.Edge.{Edge}
use Rattle.sheet.specs.declared.line.Line.{Line}
use Rattle.sheet.specs.declared.build.Reading.{Reading}
use Rattle.sheet.specs.Questions.{last, plains, plain_step, with_node, with_automaton, with_accepting, with_edge, with_line, added, start}
use Rattle.sheet.proofs.Bools.{same}
use Rattle.sheet.proofs.Words.{clear_fits}
use Rattle.sheet.proofs.Fits.{nodes_last}
use Rattle.sheet.proofs.Passed.{Passed, Absent, said_M, said_G, said_E}
use Rattle.sheet.proofs.Grown.{EdgeOk, Grown}
use Rattle.sheet.proofs.Grow.{grow_node, grow_M, grow_G, grow_E}

module _ (r : Reading) (k : ℕ) (l : Line) (g : Grown r.table r.inside) (p : Passed r l) (z : Absent l) where
  by_M : l.letter ≡ letter_m → Grown (added r k l).table (added r k l).inside
  unfolding added with_line with_automaton
  by_M e =
      let s = said_M r l p e in
      rw e (grow_M r.table r.inside g l.a l.b s.room s.range.0 s.range.1 s.range.2)

  by_G : l.letter ≡ letter_g → Grown (added r k l).table (added r k l).inside
  unfolding added with_line with_accepting
  by_G e =
      let t = r.table in
      let s = said_G r l p e in
      let g' : Grown t true = rw s.in_M at g in
      let o = g'.automata (t.used.automata - 1) (omega (arith, (g'.inside refl).0)) in
      rw e (grow_G t g' _ refl refl refl refl (clear_fits (last t).states (last t).accepting l.a s.range o.accepting< s.clear) refl)

  plain_E : l.letter ≡ letter_e → (l.b ≡ 0 → ⊥) → get_or (plains r.table.nodes) l.c false ≡ true
  unfolding plain_step
  plain_E e f = rw (e, ne_eqb l.b 0 f) at p.p9

  by_E : l.letter ≡ letter_e → Grown (added r k l).table (added r k l).inside
  unfolding added with_line with_edge
  by_E e =
      let t = r.table in
      let s = said_E r l p e in
      let g' : Grown t true = rw s.in_M at g in
      let one = (g'.inside refl).0 in
      let o = g'.automata (t.used.automata - 1) (omega (arith, one)) in
      let nb = sym (nodes_last t.automata t.used.automata one) ∙ (g'.inside refl).1 in
      let E : Edge = record { from = record { 0 = l.a }; dir = l.b; test = record { 0 = l.c }; to = record { 0 = l.d } } in
      let ok : EdgeOk t.nodes (last t) E = record { from< = s.range.0; dir< = s.range.1; test< = omega (arith, s.range.2); to< = s.range.3; plain_test = λ d. plain_E e d } in
      rw e (grow_E t g' _ refl refl refl refl o.accepting< E refl s.room ok)

  by_node : (l.letter ≡ letter_m → ⊥) → (l.letter ≡ letter_g → ⊥) → (l.letter ≡ letter_e → ⊥) → Grown (added r k l).table (added r k l).inside
  unfolding added with_line
  by_node a b c = rw (ne_eqb l.letter letter_m a, ne_eqb l.letter letter_g b, ne_eqb l.letter letter_e c) (grow_node r l g p z a b c)

  pub grows : Grown (added r k l).table (added r k l).inside
  grows = ⊎_elim by_M (λ a. ⊎_elim by_G (λ b. ⊎_elim by_E (λ c. by_node a b c) (same l.letter letter_e)) (same l.letter letter_g)) (same l.letter letter_m)

  some_node : (l.letter ≡ letter_m → ⊥) → (l.letter ≡ letter_g → ⊥) → (l.letter ≡ letter_e → ⊥) → 1 ≤ (added r k l).table.used.nodes
  unfolding added with_line with_node
  some_node a b c = rw (ne_eqb l.letter letter_m a, ne_eqb l.letter letter_g b, ne_eqb l.letter letter_e c) (omega arith)

  opened : (l.letter ≡ letter_m) ⊎ ((l.letter ≡ letter_g) ⊎ (l.letter ≡ letter_e)) → (added r k l).inside ≡ true
  unfolding added
  opened (inl e) = rw e
  opened (inr (inl e)) = rw e
  opened (inr (inr e)) = rw e

  not_both : (added r k l).inside ≡ true → (added r k l).inside ≡ false → 1 ≤ (added r k l).table.used.nodes
  not_both a b = absurd (let y : ◌≡◌ {A = ℕ} 0 1 = cc in omega arith)

  pub counts : (added r k l).inside ≡ false → 1 ≤ (added r k l).table.used.nodes
  counts q =
      ⊎_elim (λ e. not_both (opened (inl e)) q)
      (λ a. ⊎_elim (λ e. not_both (opened (inr (inl e))) q) (λ b. ⊎_elim (λ e. not_both (opened (inr (inr e))) q) (λ c. some_node a b c) (same l.letter letter_e)) (same l.letter letter_g))
      (same l.letter letter_m)

none_at : {A : Type 0} (d : A) (n i : ℕ) → get_or (replicate n d) i d ≡ d
none_at d zero i = refl
none_at d (suc n) zero = refl
none_at d (suc n) (suc i) = none_at d n i

-- before the first line
pub start_grown : Grown start.table start.inside
start_grown =
    record {
      nodes_long = refl;
      automata_long = refl;
      edges_long = refl;
      nodes≤ = omega arith;
      automata≤ = omega arith;
      edges≤ = omega arith;
      nodes = λ i w. absurd (omega arith);
      no_nodes = λ i w. none_at no_line node_limit i;
      automata = λ m w. absurd (omega arith);
      no_automata = λ m w. none_at no_automaton 16 m;
      edges = λ m w. absurd (omega arith);
      no_edges = λ e w. none_at no_edge 256 e;
      total = refl;
      inside = λ q. absurd (let y : ◌≡◌ {A = ℕ} 0 1 = cc in omega arith);
      outside = λ q m w. absurd (omega arith);
    }

-- Edges as numbers: what was packed comes out again, and an edge more at the head of its chains keeps them.
use Prim.Native.Nat.{ℕ, ◌+◌, ◌*◌, ◌/◌, ◌%◌, ◌≤◌, ◌<◌}
use native.Mathlib.Omega.{arith}
use mathlib.Core.Path.{◌≡◌, ap, sym, subst, ◌∙◌}
use mathlib.Core.Logic.{⊎_elim}
use mathlib.Core.List.{List}
use lib.ListN.{get_or, length, set, length-set}
use lib.Seq.{get_or-set_same, get_or-set_other}
use Rattle.aldlf.specs.Constants.{node_limit}
use Rattle.aldlf.specs.Sheet.{no_edge}
use Rattle.aldlf.specs.declared.Edge.{Edge}
use Rattle.packing.specs.Numbers.{packed_of}
use Rattle.graph.specs.Graph.{at}
use Rattle.graph.specs.Arcs.{none, unpacked_of, into_of, out_of, Arc, Chained, Linked}
use Rattle.graph.specs.Configurations.{EdgeFits}
use Rattle.graph.proofs.Chains.{chain_none, chain_more}
use Rattle.graph.proofs.Cases.{same?}

-- the fields of an arc, one by one
module _ (from to dir test into out : ℕ) (a : from < 16) (b : to < 16) (d : dir ≤ 2) (n : test < node_limit) (i : into < 65536) (o : out < 65536) where
  abbrev number : ℕ
  number = from + 256 * dir + 65536 * test + 16777216 * to + 4294967296 * into + 281474976710656 * out

  from_is : number % 256 ≡ from
  from_is = omega arith

  to_is : number / 16777216 % 256 ≡ to
  to_is = omega arith

  dir_is : number / 256 % 256 ≡ dir
  dir_is = omega arith

  test_is : number / 65536 % 256 ≡ test
  test_is = omega arith

  into_is : number / 4294967296 % 65536 ≡ into
  into_is = omega arith

  out_is : number / 281474976710656 % 65536 ≡ out
  out_is = omega arith

  abbrev made : (from dir test to : ℕ) → Edge
  made f r t g = record { from = record { 0 = f }; dir = r; test = record { 0 = t }; to = record { 0 = g } }

  edge_is : made (number % 256) (number / 256 % 256) (number / 65536 % 256) (number / 16777216 % 256) ≡ made from dir test to
  edge_is =
      ap (λ (x : ℕ). made x (number / 256 % 256) (number / 65536 % 256) (number / 16777216 % 256)) from_is
      ∙ ap (λ (x : ℕ). made from x (number / 65536 % 256) (number / 16777216 % 256)) dir_is
      ∙ ap (λ (x : ℕ). made from dir x (number / 16777216 % 256)) test_is
      ∙ ap (λ (x : ℕ). made from dir test x) to_is

-- what was packed comes out as it went in
pub arc_made : (x : Edge) (into out : ℕ) → EdgeFits 16 x → Arc x (into % 65536) (out % 65536) (packed_of x + 4294967296 * (into % 65536) + 281474976710656 * (out % 65536))
unfolding unpacked_of
arc_made x into out f =
    record {
      edge = edge_is x.from.0 x.to.0 x.dir x.test.0 (into % 65536) (out % 65536) f.from_fits f.to_fits f.dir_fits f.test_fits (omega arith) (omega arith);
      into_is = into_is x.from.0 x.to.0 x.dir x.test.0 (into % 65536) (out % 65536) f.from_fits f.to_fits f.dir_fits f.test_fits (omega arith) (omega arith);
      out_is = out_is x.from.0 x.to.0 x.dir x.test.0 (into % 65536) (out % 65536) f.from_fits f.to_fits f.dir_fits f.test_fits (omega arith) (omega arith);
    }

-- three stores: at the places of two heads and of the edge
module _ (l : List ℕ) (t f e v : ℕ) (lt : t < 16) (lf : f < 16) (le : e < 256) (room : 288 ≤ length l) where
  abbrev stored : List ℕ
  stored = set (set (set l (256 + t) e) (272 + f) e) e v

  wide : length (set (set l (256 + t) e) (272 + f) e) ≡ length l
  wide = length-set (set l (256 + t) e) (272 + f) e ∙ length-set l (256 + t) e

  at_edge : at stored e ≡ v
  at_edge = get_or-set_same (set (set l (256 + t) e) (272 + f) e) e v 0 (omega (arith, wide))

  at_other : (i : ℕ) → (i ≡ e → ⊥) → (i ≡ 256 + t → ⊥) → (i ≡ 272 + f → ⊥) → at stored i ≡ at l i
  at_other i ne nt nf =
      get_or-set_other (set (set l (256 + t) e) (272 + f) e) e i v 0 ne
      ∙ (get_or-set_other (set l (256 + t) e) (272 + f) i e 0 nf ∙ get_or-set_other l (256 + t) i e 0 nt)

  at_into : at stored (256 + t) ≡ e
  at_into =
      get_or-set_other (set (set l (256 + t) e) (272 + f) e) e (256 + t) v 0 (λ q. omega arith)
      ∙ (get_or-set_other (set l (256 + t) e) (272 + f) (256 + t) e 0 (λ q. omega arith) ∙ get_or-set_same l (256 + t) e 0 (omega arith))

  at_out : at stored (272 + f) ≡ e
  at_out =
      get_or-set_other (set (set l (256 + t) e) (272 + f) e) e (272 + f) v 0 (λ q. omega arith)
      ∙ get_or-set_same (set l (256 + t) e) (272 + f) e 0 (omega (arith, length-set l (256 + t) e))

pub chained_none : (table : List Edge) (last : ℕ) (arcs : List ℕ) → last ≤ 256 → ((i : ℕ) → 256 ≤ i → i < 288 → at arcs i ≡ none) → Chained table last last arcs
chained_none table last arcs few empty =
    record {
      edge_is = λ e a b. absurd (omega arith);
      into = chain_none _ _ _ last few (λ s l. omega (arith, empty (256 + s) (omega arith) (omega arith)));
      out = chain_none _ _ _ last few (λ s l. omega (arith, empty (272 + s) (omega arith) (omega arith)));
    }

module _
    (table : List Edge)
    (e last : ℕ)
    (x : Edge)
    (before : List ℕ)
    (c : Chained table (e + 1) last before)
    (l : e < last)
    (few : last ≤ 256)
    (room : 288 ≤ length before)
    (same : x ≡ get_or table e no_edge)
    (fits : EdgeFits 16 x) where
  chained_set : (p : ℕ) → Arc x (at before (256 + x.to.0) % 65536) (at before (272 + x.from.0) % 65536) p
      → Chained table e last (set (set (set before (256 + x.to.0) e) (272 + x.from.0) e) e p)
  chained_set p m =
      record {
        edge_is = λ i a b.
            ⊎_elim (λ q. ap unpacked_of (ap (at after) q ∙ here) ∙ (m.edge ∙ (same ∙ ap (λ (y : ℕ). get_or table y no_edge) (sym q))))
            (λ ne. ap unpacked_of (other i (omega arith) b) ∙ c.edge_is i (omega arith) b)
            (same? i e);
        into =
            chain_more _ _ _ _ _ _ e last x.to.0 l c.into
            (ap (λ (y : ℕ). (unpacked_of y).to.0) here ∙ ap (λ (y : Edge). y.to.0) m.edge)
            (λ i a b. ap (λ (y : ℕ). (unpacked_of y).to.0) (other i a b))
            (omega (arith, at_into before x.to.0 x.from.0 e p fits.to_fits fits.from_fits (omega arith) room))
            (λ s ls ne. ap (λ (y : ℕ). y % 65536) (kept (256 + s) (λ q. omega arith) (λ q. ne (omega arith)) (λ q. omega (arith, fits.from_fits))))
            (ap into_of here ∙ m.into_is)
            (λ i a b. ap into_of (other i a b))
            fits.to_fits;
        out =
            chain_more _ _ _ _ _ _ e last x.from.0 l c.out
            (ap (λ (y : ℕ). (unpacked_of y).from.0) here ∙ ap (λ (y : Edge). y.from.0) m.edge)
            (λ i a b. ap (λ (y : ℕ). (unpacked_of y).from.0) (other i a b))
            (omega (arith, at_out before x.to.0 x.from.0 e p fits.to_fits fits.from_fits (omega arith) room))
            (λ s ls ne. ap (λ (y : ℕ). y % 65536) (kept (272 + s) (λ q. omega arith) (λ q. omega (arith, fits.to_fits)) (λ q. ne (omega arith))))
            (ap out_of here ∙ m.out_is)
            (λ i a b. ap out_of (other i a b))
            fits.from_fits;
      }
    where
      after : List ℕ
      after = set (set (set before (256 + x.to.0) e) (272 + x.from.0) e) e p

      here : at after e ≡ p
      here = at_edge before x.to.0 x.from.0 e p fits.to_fits fits.from_fits (omega arith) room

      kept : (i : ℕ) → (i ≡ e → ⊥) → (i ≡ 256 + x.to.0 → ⊥) → (i ≡ 272 + x.from.0 → ⊥) → at after i ≡ at before i
      kept = at_other before x.to.0 x.from.0 e p fits.to_fits fits.from_fits (omega arith) room

      other : (i : ℕ) → e < i → i < last → at after i ≡ at before i
      other i a b = kept i (λ q. omega arith) (λ q. omega arith) (λ q. omega arith)

  pub chained_more : (after : List ℕ) → Linked x e before after → Chained table e last after
  chained_more after k = subst (Chained table e last) (sym k.stored) (chained_set k.arc k.made)

-- Pieces written as lent numbers, one after the other: those passed stand in their places, cut, and it is known whether they fit.
use Prim.Native.Nat.{ℕ, zero, suc, ◌+◌, ◌*◌, ◌%◌, ◌≤◌, ◌<◌}
use mathlib.Core.Path.{◌≡◌, refl, ap, sym, subst, ◌∙◌}
use mathlib.Core.Bool.{Bool, true, ◌&&◌, and-true, and_assoc}
use mathlib.Core.List.{List, [], ◌∷◌}
use native.Mathlib.Omega.{arith}
use native.Mathlib.Numerals.{add-one}
use lib.ListN.{length, get_or, set, length-replicate, get_or-replicate}
use Rattle.aldlf.specs.Constants.{node_limit, automaton_limit, edge_limit}
use Rattle.aldlf.specs.Sheet.{no_line, no_edge, no_automaton}
use Rattle.aldlf.specs.declared.Automaton.{Automaton}
use Rattle.aldlf.specs.declared.Edge.{Edge}
use Rattle.packing.specs.Numbers.{lines_place, heads_place, ranges_place, before_place, counts_place, places, edge_in, line_in, automaton_in}
use Rattle.packing.specs.Packed.{Packed, Put, HeadPut, HeadsPut, UsedPut}
use Rattle.packing.proofs.PlaceLaws.{put_none, put_next, heads_none, heads_next, all_packed}
use Rattle.sheet.specs.Questions.{empty_table}
use Rattle.crossing.specs.Numbers.{line_size, automaton_size, edge_size, automata_place, edges_place, line_at, automaton_at, edge_at, listed, automata_in, edges_in, is_byte, automaton_fits, edge_fits, all_of}
use Rattle.crossing.specs.Steps.{line_cut, automaton_cut, edge_cut, cut_in, edge_bytes, EdgesCut}
use Rattle.crossing.proofs.Listed.{listed_suc, listed-length, listed_at, all_append}

-- a test of the pieces one after the other
module _ {X : Type 0} (fits : X → Bool) (f : ℕ → X) where
  fit_none : true ≡ all_of fits (listed 0 f)
  unfolding listed all_of
  fit_none = refl

  pub fit_next : (k : ℕ) (fit b : Bool) → fit ≡ all_of fits (listed k f) → b ≡ fits (f k) → fit && b ≡ all_of fits (listed (k + 1) f)
  unfolding all_of
  fit_next k fit b e h =
      ap (λ (a : Bool). a && b) e
      ∙ ap (λ (a : Bool). all_of fits (listed k f) && a) (h ∙ sym (and-true (fits (f k))))
      ∙ sym (ap (λ (n : ℕ). all_of fits (listed n f)) (add-one k) ∙ ap (all_of fits) (listed_suc k f) ∙ all_append fits (listed k f) (f k ∷ []))

-- one number more at its place
pub put_at : (P : ℕ → ℕ → Type 0) (place n i : ℕ) (before after : List ℕ) (v : ℕ) → i ≡ place + n → i < length after → Put P place n before after → P n v → Put P place (n + 1) before (set after i v)
put_at P place n i before after v e l K p = subst (λ (j : ℕ). Put P place (n + 1) before (set after j v)) (sym e) (put_next P place n before after v K (omega arith) p)

-- the first k of n pieces of one number each: what stands at their places, and whether they fit
pub record SoFar {X : Type 0} (fits : X → Bool) (in-number : ℕ → X) (cut : X → X) (f : ℕ → X) (none : X) (place n k : ℕ) (fit : Bool) (before after : List ℕ) : Type 0 where
  pub below : k ≤ n
  pub all : fit ≡ all_of fits (listed k f)
  pub put : Put (λ (j p : ℕ). in-number p ≡ get_or (listed n (λ i. cut (f i))) j none) place k before after

module _ {X : Type 0} (fits : X → Bool) (in-number : ℕ → X) (cut : X → X) (f : ℕ → X) (none : X) (place n : ℕ) (before : List ℕ) where
  abbrev Some : ℕ → Bool → List ℕ → Type 0
  Some k fit after = SoFar fits in-number cut f none place n k fit before after

  pub lent_none : Some 0 true before
  lent_none = record { below = omega arith; all = fit_none fits f; put = put_none _ place before }

  pub lent_next : (k i : ℕ) (fit b : Bool) (after : List ℕ) (v : ℕ) → Some k fit after → k < n → i ≡ place + k → i < length after → b ≡ fits (f k) → in-number v ≡ cut (f k) → Some (k + 1) (fit && b) (set after i v)
  lent_next k i fit b after v S h e l eb ev =
      record {
        below = omega arith;
        all = fit_next fits f k fit b S.all eb;
        put = put_at (λ (j p : ℕ). in-number p ≡ get_or (listed n (λ i. cut (f i))) j none) place k i before after v e l S.put (ev ∙ sym (listed_at n (λ i. cut (f i)) k none h));
      }

  -- the first m were passed
  pub lent_first : (m k : ℕ) (fit : Bool) (after : List ℕ) → Some k fit after → k ≤ m → m ≤ k
      → (fit ≡ all_of fits (listed m f)) × Put (λ (j p : ℕ). in-number p ≡ get_or (listed n (λ i. cut (f i))) j none) place m before after
  lent_first m k fit after S l h =
      let e : k ≡ m = omega arith in (
        S.all ∙ ap (λ (m : ℕ). all_of fits (listed m f)) e,
        subst (λ (m : ℕ). Put (λ (j p : ℕ). in-number p ≡ get_or (listed n (λ i. cut (f i))) j none) place m before after) e S.put,
      )

  pub lent_all : (k : ℕ) (fit : Bool) (after : List ℕ) → Some k fit after → n ≤ k
      → (fit ≡ all_of fits (listed n f)) × Put (λ (j p : ℕ). in-number p ≡ get_or (listed n (λ i. cut (f i))) j none) place n before after
  lent_all k fit after S h = lent_first n k fit after S S.below h

-- the bytes of the edges: four of them are an edge, which fits where each of the four does
module _ (xs : List ℕ) where
  abbrev pub edge_byte : ℕ → ℕ
  edge_byte i = get_or xs (edges_place + i) 0

  abbrev edge_of : ℕ → Edge
  edge_of k = edge_at xs (edges_place + edge_size * k)

  byte_next : (m : ℕ) → all_of is_byte (listed (m + 1) edge_byte) ≡ all_of is_byte (listed m edge_byte) && is_byte (edge_byte m)
  byte_next m = sym (fit_next is_byte edge_byte m (all_of is_byte (listed m edge_byte)) (is_byte (edge_byte m)) refl refl)

  byte_fits : (m p : ℕ) → edges_place + m ≡ p → is_byte (edge_byte m) ≡ is_byte (get_or xs p 0)
  byte_fits m p e = ap (λ (i : ℕ). is_byte (get_or xs i 0)) e

  four_fit : (a b c d e : Bool) → a && b && c && d && e ≡ a && (b && c && d && e)
  four_fit a b c d e = ap (λ (x : Bool). x && e) (ap (λ (x : Bool). x && d) (and_assoc a b c) ∙ and_assoc a (b && c) d) ∙ and_assoc a (b && c && d) e

  fit_edges : (n : ℕ) → all_of is_byte (listed (edge_size * n) edge_byte) ≡ all_of edge_fits (listed n edge_of)
  unfolding listed all_of
  fit_edges zero = refl
  fit_edges (suc n) =
      let m = edge_size * n in
      let p = edges_place + edge_size * n in
      let at : edge_size * suc n ≡ m + 1 + 1 + 1 + 1 = omega arith in
      let next : n + 1 ≡ suc n = omega arith in
      let before = fit_edges n in
      let b0 = byte_next m in
      let b1 = byte_next (m + 1) in
      let b2 = byte_next (m + 1 + 1) in
      let b3 = byte_next (m + 1 + 1 + 1) in
      let f1 = byte_fits (m + 1) (p + 1) (omega arith) in
      let f2 = byte_fits (m + 1 + 1) (p + 2) (omega arith) in
      let f3 = byte_fits (m + 1 + 1 + 1) (p + 3) (omega arith) in
      let four = four_fit (all_of is_byte (listed m edge_byte)) (is_byte (get_or xs p 0)) (is_byte (get_or xs (p + 1) 0)) (is_byte (get_or xs (p + 2) 0)) (is_byte (get_or xs (p + 3) 0)) in
      let last = fit_next edge_fits edge_of n (all_of edge_fits (listed n edge_of)) (edge_fits (edge_of n)) refl refl in
      cc

  pub edges_cut : (before bytes : List ℕ) (fit : Bool) → length before ≡ edge_bytes
      → (fit ≡ all_of is_byte (listed edge_bytes edge_byte)) × Put (λ (j b : ℕ). b ≡ get_or (listed edge_bytes (λ i. edge_byte i % 256)) j 0) 0 edge_bytes before bytes
      → (fit ≡ all_of edge_fits (edges_in xs)) × EdgesCut xs bytes
  edges_cut before bytes fit size (all, P) = (all ∙ fit_edges edge_limit, record { size = P.same ∙ size; edge_is = is })
    where
      byte-is : (j p : ℕ) → j < edge_bytes → edges_place + j ≡ p → get_or bytes j 0 ≡ get_or xs p 0 % 256
      byte-is j p h e =
          subst (λ (i : ℕ). get_or bytes i 0 ≡ get_or (listed edge_bytes (λ i. edge_byte i % 256)) j 0) (omega arith) (P.done j h)
          ∙ listed_at edge_bytes (λ i. edge_byte i % 256) j 0 h
          ∙ ap (λ (i : ℕ). get_or xs i 0 % 256) e

      is : (k : ℕ) → k < edge_limit → edge_at bytes (edge_size * k) ≡ edge_cut (edge_of k)
      is k h =
          let p = edges_place + edge_size * k in
          rw (byte-is (edge_size * k) p (omega arith) refl, byte-is (edge_size * k + 1) (p + 1) (omega arith) (omega arith), byte-is (edge_size * k + 2) (p + 2) (omega arith) (omega arith), byte-is (edge_size * k + 3) (p + 3) (omega arith) (omega arith))

  pub edges_put : (bytes before after : List ℕ) → EdgesCut xs bytes → Put (λ (e p : ℕ). edge_in p ≡ edge_at bytes (edge_size * e)) 0 edge_limit before after
      → Put (λ (e p : ℕ). edge_in p ≡ get_or (cut_in xs).edges e no_edge) 0 edge_limit before after
  edges_put bytes before after C P =
      record { same = P.same; done = λ k h. P.done k h ∙ C.edge_is k h ∙ sym (listed_at edge_limit (λ i. edge_cut (edge_of i)) k no_edge h); low = P.low; high = P.high }

-- the first k automata, three numbers each
pub record HeadsSoFar (xs : List ℕ) (k : ℕ) (fit : Bool) (before after : List ℕ) : Type 0 where
  pub below : k ≤ automaton_limit
  pub size : length after ≡ places
  pub all : fit ≡ all_of automaton_fits (listed k (λ m. automaton_at xs (automata_place + automaton_size * m)))
  pub put : HeadsPut (cut_in xs).automata k before after

module _ (xs before : List ℕ) where
  abbrev automaton : ℕ → Automaton
  automaton m = automaton_at xs (automata_place + automaton_size * m)

  pub heads_lent_none : length before ≡ places → HeadsSoFar xs 0 true before before
  heads_lent_none size = record { below = omega arith; size = size; all = fit_none automaton_fits automaton; put = heads_none _ before }

  pub heads_lent_next : (k : ℕ) (fit b : Bool) (after last : List ℕ) → HeadsSoFar xs k fit before after → k < automaton_limit → b ≡ automaton_fits (automaton k) → HeadPut (automaton_cut (automaton k)) k after last
      → HeadsSoFar xs (k + 1) (fit && b) before last
  heads_lent_next k fit b after last S h e H =
      record {
        below = omega arith;
        size = H.same ∙ S.size;
        all = fit_next automaton_fits automaton k fit b S.all e;
        put = heads_next (cut_in xs).automata k before after last h S.put (subst (λ (x : Automaton). HeadPut x k after last) (sym (listed_at automaton_limit (λ m. automaton_cut (automaton m)) k no_automaton h)) H);
      }

  pub heads_lent_all : (k : ℕ) (fit : Bool) (after : List ℕ) → HeadsSoFar xs k fit before after → automaton_limit ≤ k → (fit ≡ all_of automaton_fits (automata_in xs)) × HeadsPut (cut_in xs).automata automaton_limit before after
  heads_lent_all k fit after S h =
      let e : k ≡ automaton_limit = omega (arith, S.below) in
      (S.all ∙ ap (λ (m : ℕ). all_of automaton_fits (listed m automaton)) e, subst (λ (m : ℕ). HeadsPut (cut_in xs).automata m before after) e S.put)

-- all zeros are the table all zeros
pub zeros_packed : (before after : List ℕ) → length before ≡ places → Put (λ (k p : ℕ). p ≡ 0) 0 places before after → Packed empty_table after
zeros_packed before after size P =
    record {
      size = P.same ∙ size;
      nodes_length = length-replicate node_limit no_line;
      automata_length = length-replicate automaton_limit no_automaton;
      edges_length = length-replicate edge_limit no_edge;
      line_is = λ k h. ap line_in (zero-at (lines_place + k) (omega arith)) ∙ sym (get_or-replicate node_limit k no_line no_line h);
      automaton_is = λ m h.
          ap (λ (y : ℕ). automaton_in y (get_or after (ranges_place + m) 0) (get_or after (before_place + m) 0)) (zero-at (heads_place + m) (omega arith))
          ∙ ap (λ (y : ℕ). automaton_in 0 y (get_or after (before_place + m) 0)) (zero-at (ranges_place + m) (omega arith))
          ∙ ap (λ (y : ℕ). automaton_in 0 0 y) (zero-at (before_place + m) (omega arith))
          ∙ sym (get_or-replicate automaton_limit m no_automaton no_automaton h);
      edge_is = λ e h. ap edge_in (zero-at e (omega arith)) ∙ sym (get_or-replicate edge_limit e no_edge no_edge h);
      used_is = rw (zero-at counts_place (omega arith), zero-at (counts_place + 1) (omega arith), zero-at (counts_place + 2) (omega arith));
    }
  where
    zero-at : (i : ℕ) → i < places → get_or after i 0 ≡ 0
    zero-at i h = subst (λ (j : ℕ). get_or after j 0 ≡ 0) (omega arith) (P.done i h)

-- the fields that stand in the numbers, each kind at its places
pub fields_packed : (xs first edges lines heads last : List ℕ) → length first ≡ places
    → Put (λ (e p : ℕ). edge_in p ≡ get_or (cut_in xs).edges e no_edge) 0 edge_limit first edges
    → Put (λ (k p : ℕ). line_in p ≡ get_or (cut_in xs).nodes k no_line) lines_place node_limit edges lines
    → HeadsPut (cut_in xs).automata automaton_limit lines heads
    → UsedPut (cut_in xs).used heads last
    → Packed (cut_in xs) last
fields_packed xs first edges lines heads last size =
    all_packed (cut_in xs) first edges lines heads last size
    (listed-length node_limit (λ k. line_cut (line_at xs (line_size * k))))
    (listed-length automaton_limit (λ m. automaton_cut (automaton_at xs (automata_place + automaton_size * m))))
    (listed-length edge_limit (λ e. edge_cut (edge_at xs (edges_place + edge_size * e))))

-- The walks along a path's edges from its start to its end are the path's runs. From run to walk by induction over the path; from walk to run because each edge keeps what is left of a run.
use Prim.Native.Nat.{ℕ, suc, ◌+◌, ◌≤◌, ◌<◌}
use native.Mathlib.Omega.{arith}
use mathlib.Core.Path.{◌≡◌, refl, sym, subst, subst₂}
use mathlib.Core.Logic.{◌⊎◌, inl, inr, ◌↔◌, ⊎_elim}
use mathlib.Core.List.{List, ◌++◌}
use lib.ListN.{length, length-append}
use Rattle.aldlf.specs.Sheet.{Dir, ahead, back, stay, dir_of}
use Rattle.aldlf.specs.Sheet as sheet
use Rattle.aldlf.specs.declared.Edge.{Edge}
use Rattle.aldlf.specs.Meaning.{Values, Moves}
use Rattle.formula.specs.Formula.{Path, step, seq, alt, many, Many, done, more, Sat, Runs}
use Rattle.formula.specs.Numbering.{under, within, states, own, entry, exit, dir_number, link, seq_links, alt_links, many_links, edges}
use Rattle.formula.proofs.Laws.{Some, some_append, some_left, some_right}

pub entry_in : (p : Path) (b : ℕ) → (b ≤ entry b p) × (entry b p < b + states p)
entry_in (step d a) b = omega arith
entry_in (seq p q) b = let h = entry_in p b in omega arith
entry_in (alt p q) b = omega arith
entry_in (many p) b = omega arith

pub exit_in : (p : Path) (b : ℕ) → (b ≤ exit b p) × (exit b p < b + states p)
exit_in (step d a) b = omega arith
exit_in (seq p q) b = let h = exit_in q (b + states p) in omega arith
exit_in (alt p q) b = omega arith
exit_in (many p) b = omega arith

pub own_length : (p : Path) (k b : ℕ) → length (edges k b p) ≡ own p
own_length (step d a) k b = refl
own_length (seq p q) k b = rw (length-append, length-append, own_length p k b, own_length q (k + within p) (b + states p)) refl
own_length (alt p q) k b = rw (length-append, length-append, own_length p k b, own_length q (k + within p) (b + states p)) refl
own_length (many p) k b = rw (length-append, own_length p k b) refl

-- walks of a graph on (state, entry) pairs
pub data Trip (R : ℕ → ℕ → ℕ → ℕ → Type 0) : ℕ → ℕ → ℕ → ℕ → Type 0 where
  stop : {s i : ℕ} → Trip R s i s i
  go : {s i t h u j : ℕ} → R s i t h → Trip R t h u j → Trip R s i u j

join : {R : ℕ → ℕ → ℕ → ℕ → Type 0} {s i t h u j : ℕ} → Trip R s i t h → Trip R t h u j → Trip R s i u j
join stop y = y
join (go r x) y = go r (join x y)

lift : {R R' : ℕ → ℕ → ℕ → ℕ → Type 0} → ((s i t h : ℕ) → R s i t h → R' s i t h) → {s i u j : ℕ} → Trip R s i u j → Trip R' s i u j
lift f stop = stop
lift f (go r x) = go (f _ _ _ _ r) (lift f x)

-- an edge of a table as a sheet has it
abbrev pub edge_from : Edge → sheet.Edge
edge_from x = record { from = x.from.0; dir = dir_of x.dir; test = x.test.0; to = x.to.0 }

-- an edge goes from state s at entry i to state t at entry h of a log of n entries
pub record Passes (n : ℕ) (H : Values) (s i t h : ℕ) (x : sheet.Edge) : Type 0 where
  pub leaves : x.from ≡ s
  pub holds : H x.test i
  pub moves : Moves n x.dir i h
  pub comes : x.to ≡ t

abbrev pub Goes : ℕ → Values → (s i t h : ℕ) → Edge → Type 0
Goes n H s i t h x = Passes n H s i t h (edge_from x)

-- one of the edges goes so
abbrev ByEdge : Values → ℕ → List Edge → (s i t h : ℕ) → Type 0
ByEdge H n es s i t h = Some (Goes n H s i t h) es

-- a direction's number and back
dir_back : (d : Dir) → dir_of (dir_number d) ≡ d
dir_back stay = refl
dir_back ahead = refl
dir_back back = refl

-- what is known of the steps' nodes: each holds where its formula does
abbrev pub NodesRight : Path → List ℕ → Values → ℕ → Type 0
NodesRight (step d a) log H k = (i : ℕ) → H (k + under a) i ↔ Sat a log i
NodesRight (seq p q) log H k = NodesRight p log H k × NodesRight q log H (k + within p)
NodesRight (alt p q) log H k = NodesRight p log H k × NodesRight q log H (k + within p)
NodesRight (many p) log H k = NodesRight p log H k

module _ (log : List ℕ) (H : Values) (zeroth : (i : ℕ) → H 0 i) where
  -- one of the path's edges goes so
  abbrev pub Go : ℕ → ℕ → Path → (s i t h : ℕ) → Type 0
  Go k b p = ByEdge H (length log) (edges k b p)

  linked : (s t i : ℕ) → Goes (length log) H s i t i (link s t)
  linked s t i = record { leaves = refl; holds = zeroth i; moves = refl; comes = refl }

  -- From run to walk: an edge of the left side, of the right side, or one that joins them
  module _ (L X : List Edge) where
    in_left : (s i t h : ℕ) → ByEdge H (length log) L s i t h → ByEdge H (length log) (L ++ X) s i t h
    in_left s i t h z = some_left (Goes (length log) H s i t h) L X z

    in_own : (s i t h : ℕ) → ByEdge H (length log) X s i t h → ByEdge H (length log) (L ++ X) s i t h
    in_own s i t h z = some_right (Goes (length log) H s i t h) L X z

  module _ (L R X : List Edge) where
    in_right : (s i t h : ℕ) → ByEdge H (length log) R s i t h → ByEdge H (length log) (L ++ (R ++ X)) s i t h
    in_right s i t h z = in_own L (R ++ X) s i t h (in_left R X s i t h z)

    in_joins : (s i t h : ℕ) → ByEdge H (length log) X s i t h → ByEdge H (length log) (L ++ (R ++ X)) s i t h
    in_joins s i t h z = in_own L (R ++ X) s i t h (in_own R X s i t h z)

  again : (p : Path) (k b : ℕ) → ((i j : ℕ) → Runs p log i j → Trip (Go k b p) (entry b p) i (exit b p) j)
      → {i j : ℕ} → Many (Runs p log) i j → Trip (Go k b (many p)) (exit b p) i (suc (b + states p)) j
  again p k b f {i} done = go (in_own (edges k b p) (many_links b p) _ _ _ _ (inr (inr (inl (linked _ _ i))))) stop
  again p k b f {i} (more {h = h} r m) =
      go (in_own (edges k b p) (many_links b p) _ _ _ _ (inr (inl (linked _ _ i))))
      (join (lift (in_left (edges k b p) (many_links b p)) (f i h r)) (again p k b f m))

  starred : (p : Path) (k b : ℕ) → ((i j : ℕ) → Runs p log i j → Trip (Go k b p) (entry b p) i (exit b p) j)
      → {i j : ℕ} → Many (Runs p log) i j → Trip (Go k b (many p)) (b + states p) i (suc (b + states p)) j
  starred p k b f {i} done = go (in_own (edges k b p) (many_links b p) _ _ _ _ (inr (inr (inr (inl (linked _ _ i)))))) stop
  starred p k b f {i} (more {h = h} r m) =
      go (in_own (edges k b p) (many_links b p) _ _ _ _ (inl (linked _ _ i)))
      (join (lift (in_left (edges k b p) (many_links b p)) (f i h r)) (again p k b f m))

  forked : (p q : Path) (k b : ℕ) (i j : ℕ)
      → Trip (Go k b p) (entry b p) i (exit b p) j ⊎ Trip (Go (k + within p) (b + states p) q) (entry (b + states p) q) i (exit (b + states p) q) j
      → Trip (Go k b (alt p q)) (b + (states p + states q)) i (suc (b + (states p + states q))) j
  forked p q k b i j (inl w) =
      let R = edges (k + within p) (b + states p) q in
      go (in_joins (edges k b p) R (alt_links b p q) _ _ _ _ (inl (linked _ _ i)))
      (join (lift (in_left (edges k b p) (R ++ alt_links b p q)) w) (go (in_joins (edges k b p) R (alt_links b p q) _ _ _ _ (inr (inr (inl (linked _ _ j))))) stop))
  forked p q k b i j (inr w) =
      let R = edges (k + within p) (b + states p) q in
      go (in_joins (edges k b p) R (alt_links b p q) _ _ _ _ (inr (inl (linked _ _ i))))
      (join (lift (in_right (edges k b p) R (alt_links b p q)) w) (go (in_joins (edges k b p) R (alt_links b p q) _ _ _ _ (inr (inr (inr (inl (linked _ _ j)))))) stop))

  walk_of : (p : Path) (k b : ℕ) → NodesRight p log H k → (i j : ℕ) → Runs p log i j → Trip (Go k b p) (entry b p) i (exit b p) j
  walk_of (step d a) k b r i j (s, mv) = go (inl (record { leaves = refl; holds = (r i).1 s; moves = subst (λ (z : Dir). Moves (length log) z i j) (sym (dir_back d)) mv; comes = refl })) stop
  walk_of (seq p q) k b r i j (h, x, y) =
      let R = edges (k + within p) (b + states p) q in
      join (lift (in_left (edges k b p) (R ++ seq_links b p q)) (walk_of p k b r.0 i h x))
      (go (in_joins (edges k b p) R (seq_links b p q) _ _ _ _ (inl (linked _ _ h)))
      (lift (in_right (edges k b p) R (seq_links b p q)) (walk_of q (k + within p) (b + states p) r.1 h j y)))
  walk_of (alt p q) k b r i j (inl x) = forked p q k b i j (inl (walk_of p k b r.0 i j x))
  walk_of (alt p q) k b r i j (inr x) = forked p q k b i j (inr (walk_of q (k + within p) (b + states p) r.1 i j x))
  walk_of (many p) k b r i j x = starred p k b (walk_of p k b r) x

  -- From walk to run
  -- What is left of a path's run from state s of its edges on: no walk is taken apart, every edge keeps it
  abbrev From : Path → ℕ → (s i j : ℕ) → Type 0
  From (step d a) b s i j = ((s ≡ b) × Runs (step d a) log i j) ⊎ ((s ≡ suc b) × (i ≡ j))
  From (seq p q) b s i j = ((h : ℕ) × From p b s i h × Runs q log h j) ⊎ From q (b + states p) s i j
  From (alt p q) b s i j = ((s ≡ b + (states p + states q)) × Runs (alt p q) log i j) ⊎ (((s ≡ suc (b + (states p + states q))) × (i ≡ j))
      ⊎ (From p b s i j ⊎ From q (b + states p) s i j))
  From (many p) b s i j = ((s ≡ b + states p) × Runs (many p) log i j) ⊎ (((s ≡ suc (b + states p)) × (i ≡ j))
      ⊎ ((h : ℕ) × From p b s i h × Many (Runs p log) h j))

  from_in : (p : Path) (b s i j : ℕ) → From p b s i j → (b ≤ s) × (s < b + states p)
  from_in (step d a) b s i j (inl (e, x)) = omega arith
  from_in (step d a) b s i j (inr (e, x)) = omega arith
  from_in (seq p q) b s i j (inl (h, f, r)) = let z = from_in p b s i h f in omega arith
  from_in (seq p q) b s i j (inr f) = let z = from_in q (b + states p) s i j f in omega arith
  from_in (alt p q) b s i j (inl (e, x)) = omega arith
  from_in (alt p q) b s i j (inr (inl (e, x))) = omega arith
  from_in (alt p q) b s i j (inr (inr (inl f))) = let z = from_in p b s i j f in omega arith
  from_in (alt p q) b s i j (inr (inr (inr f))) = let z = from_in q (b + states p) s i j f in omega arith
  from_in (many p) b s i j (inl (e, x)) = omega arith
  from_in (many p) b s i j (inr (inl (e, x))) = omega arith
  from_in (many p) b s i j (inr (inr (h, f, m))) = let z = from_in p b s i h f in omega arith

  -- from the start it is the run
  from_entry : (p : Path) (b i j : ℕ) → From p b (entry b p) i j → Runs p log i j
  from_entry (step d a) b i j (inl (e, x)) = x
  from_entry (step d a) b i j (inr (e, x)) = absurd (omega arith)
  from_entry (seq p q) b i j (inl (h, f, r)) = (h, from_entry p b i h f, r)
  from_entry (seq p q) b i j (inr f) = let z = from_in q (b + states p) (entry b p) i j f in let y = entry_in p b in absurd (omega arith)
  from_entry (alt p q) b i j (inl (e, x)) = x
  from_entry (alt p q) b i j (inr (inl (e, x))) = absurd (omega arith)
  from_entry (alt p q) b i j (inr (inr (inl f))) = let z = from_in p b (b + (states p + states q)) i j f in absurd (omega arith)
  from_entry (alt p q) b i j (inr (inr (inr f))) = let z = from_in q (b + states p) (b + (states p + states q)) i j f in absurd (omega arith)
  from_entry (many p) b i j (inl (e, x)) = x
  from_entry (many p) b i j (inr (inl (e, x))) = absurd (omega arith)
  from_entry (many p) b i j (inr (inr (h, f, m))) = let z = from_in p b (b + states p) i h f in absurd (omega arith)

  -- at the end nothing is left
  from_exit : (p : Path) (b i : ℕ) → From p b (exit b p) i i
  from_exit (step d a) b i = inr (refl, refl)
  from_exit (seq p q) b i = inr (from_exit q (b + states p) i)
  from_exit (alt p q) b i = inr (inl (refl, refl))
  from_exit (many p) b i = inr (inl (refl, refl))

  split_edge : (L R X : List Edge) (s i t h : ℕ) → ByEdge H (length log) (L ++ (R ++ X)) s i t h
      → ByEdge H (length log) L s i t h ⊎ (ByEdge H (length log) R s i t h ⊎ ByEdge H (length log) X s i t h)
  split_edge L R X s i t h z =
      ⊎_elim (λ y. inl y) (λ y. inr (some_append (Goes (length log) H s i t h) R X y)) (some_append (Goes (length log) H s i t h) L (R ++ X) z)

  -- an edge of a path comes to a state of the path
  abbrev In : ℕ → ℕ → ℕ → Type 0
  In b n t = (b ≤ t) × (t < b + n)

  link_in : (s₀ t₀ s i t h b n : ℕ) → In b n t₀ → Goes (length log) H s i t h (link s₀ t₀) → In b n t
  link_in s₀ t₀ s i t h b n l g = let e : t₀ ≡ t = g.comes in omega arith

  edge_in : (p : Path) (k b s i t h : ℕ) → Go k b p s i t h → In b (states p) t
  edge_in (step d a) k b s i t h (inl g) = let e : suc b ≡ t = g.comes in omega arith
  edge_in (step d a) k b s i t h (inr z) = elim z [ ]
  edge_in (seq p q) k b s i t h z = cases (split_edge (edges k b p) (edges (k + within p) (b + states p) q) (seq_links b p q) s i t h z) (edge_in p k b s i t h) (edge_in q (k + within p) (b + states p) s i t h)
    where
      cases : Go k b p s i t h ⊎ (Go (k + within p) (b + states p) q s i t h ⊎ ByEdge H (length log) (seq_links b p q) s i t h)
          → (Go k b p s i t h → In b (states p) t) → (Go (k + within p) (b + states p) q s i t h → In (b + states p) (states q) t) → In b (states (seq p q)) t
      cases (inl y) f g = let w = f y in omega arith
      cases (inr (inl y)) f g = let w = g y in omega arith
      cases (inr (inr (inl y))) f g = let w = entry_in q (b + states p) in link_in _ _ s i t h b _ (omega arith) y
      cases (inr (inr (inr y))) f g = elim y [ ]
  edge_in (alt p q) k b s i t h z = cases (split_edge (edges k b p) (edges (k + within p) (b + states p) q) (alt_links b p q) s i t h z) (edge_in p k b s i t h) (edge_in q (k + within p) (b + states p) s i t h)
    where
      cases : Go k b p s i t h ⊎ (Go (k + within p) (b + states p) q s i t h ⊎ ByEdge H (length log) (alt_links b p q) s i t h)
          → (Go k b p s i t h → In b (states p) t) → (Go (k + within p) (b + states p) q s i t h → In (b + states p) (states q) t) → In b (states (alt p q)) t
      cases (inl y) f g = let w = f y in omega arith
      cases (inr (inl y)) f g = let w = g y in omega arith
      cases (inr (inr (inl y))) f g = let w = entry_in p b in link_in _ _ s i t h b _ (omega arith) y
      cases (inr (inr (inr (inl y)))) f g = let w = entry_in q (b + states p) in link_in _ _ s i t h b _ (omega arith) y
      cases (inr (inr (inr (inr (inl y))))) f g = link_in _ _ s i t h b _ (omega arith) y
      cases (inr (inr (inr (inr (inr (inl y)))))) f g = link_in _ _ s i t h b _ (omega arith) y
      cases (inr (inr (inr (inr (inr (inr y)))))) f g = elim y [ ]
  edge_in (many p) k b s i t h z = cases (some_append (Goes (length log) H s i t h) (edges k b p) (many_links b p) z) (edge_in p k b s i t h)
    where
      cases : Go k b p s i t h ⊎ ByEdge H (length log) (many_links b p) s i t h → (Go k b p s i t h → In b (states p) t) → In b (states (many p)) t
      cases (inl y) f = let w = f y in omega arith
      cases (inr (inl y)) f = let w = entry_in p b in link_in _ _ s i t h b _ (omega arith) y
      cases (inr (inr (inl y))) f = let w = entry_in p b in link_in _ _ s i t h b _ (omega arith) y
      cases (inr (inr (inr (inl y)))) f = link_in _ _ s i t h b _ (omega arith) y
      cases (inr (inr (inr (inr (inl y))))) f = link_in _ _ s i t h b _ (omega arith) y
      cases (inr (inr (inr (inr (inr y))))) f = elim y [ ]

  -- what holds along a link
  along : (Q : ℕ → ℕ → Type 0) (s₀ t₀ s i t h : ℕ) → (Q t₀ i → Q s₀ i) → Goes (length log) H s i t h (link s₀ t₀) → Q t h → Q s i
  along Q s₀ t₀ s i t h f g x = subst (λ (z : ℕ). Q z i) g.leaves (f (subst₂ (λ (y z : ℕ). Q y z) (sym g.comes) g.moves x))

  -- each edge keeps what is left
  abbrev Keeps : Path → ℕ → ℕ → Type 0
  Keeps p k b = (s i t h j : ℕ) → Go k b p s i t h → From p b t h j → From p b s i j

  at_end : (p : Path) (b i j : ℕ) → i ≡ j → From p b (exit b p) i j
  at_end p b i j e = subst (λ (z : ℕ). From p b (exit b p) i z) e (from_exit p b i)

  module _ (p q : Path) (k b : ℕ) (keep : Keeps p k b) (keep' : Keeps q (k + within p) (b + states p)) where
    keeps_seq : (s i t h j : ℕ) → Go k b p s i t h ⊎ (Go (k + within p) (b + states p) q s i t h ⊎ ByEdge H (length log) (seq_links b p q) s i t h)
        → From (seq p q) b t h j → From (seq p q) b s i j
    keeps_seq s i t h j (inl y) (inl (x, f, r)) = inl (x, keep s i t h x y f, r)
    keeps_seq s i t h j (inl y) (inr f) =
        let u = edge_in p k b s i t h y in let v = from_in q (b + states p) t h j f in absurd (omega arith)
    keeps_seq s i t h j (inr (inl y)) (inl (x, f, r)) =
        let u = edge_in q (k + within p) (b + states p) s i t h y in let v = from_in p b t h x f in absurd (omega arith)
    keeps_seq s i t h j (inr (inl y)) (inr f) = inr (keep' s i t h j y f)
    keeps_seq s i t h j (inr (inr (inr y))) z = elim y [ ]
    keeps_seq s i t h j (inr (inr (inl y))) z = along (λ u v. From (seq p q) b u v j) (exit b p) (entry (b + states p) q) s i t h go_on y z
      where
        go_on : From (seq p q) b (entry (b + states p) q) i j → From (seq p q) b (exit b p) i j
        go_on (inl (x, f, r)) =
            let u = entry_in q (b + states p) in let v = from_in p b (entry (b + states p) q) i x f in absurd (omega arith)
        go_on (inr f) = inl (i, from_exit p b i, from_entry q (b + states p) i j f)

    -- what is left of an alternative at its left and right start, and at its end
    alt_left : (i j : ℕ) → From (alt p q) b (entry b p) i j → Runs p log i j
    alt_left i j (inl (e, x)) = let u = entry_in p b in absurd (omega arith)
    alt_left i j (inr (inl (e, x))) = let u = entry_in p b in absurd (omega arith)
    alt_left i j (inr (inr (inl f))) = from_entry p b i j f
    alt_left i j (inr (inr (inr f))) = let u = entry_in p b in let v = from_in q (b + states p) (entry b p) i j f in absurd (omega arith)

    alt_right : (i j : ℕ) → From (alt p q) b (entry (b + states p) q) i j → Runs q log i j
    alt_right i j (inl (e, x)) = let u = entry_in q (b + states p) in absurd (omega arith)
    alt_right i j (inr (inl (e, x))) = let u = entry_in q (b + states p) in absurd (omega arith)
    alt_right i j (inr (inr (inl f))) = let u = entry_in q (b + states p) in let v = from_in p b (entry (b + states p) q) i j f in absurd (omega arith)
    alt_right i j (inr (inr (inr f))) = from_entry q (b + states p) i j f

    alt_end : (i j : ℕ) → From (alt p q) b (suc (b + (states p + states q))) i j → i ≡ j
    alt_end i j (inl (e, x)) = absurd (omega arith)
    alt_end i j (inr (inl (e, x))) = x
    alt_end i j (inr (inr (inl f))) = let v = from_in p b (suc (b + (states p + states q))) i j f in absurd (omega arith)
    alt_end i j (inr (inr (inr f))) = let v = from_in q (b + states p) (suc (b + (states p + states q))) i j f in absurd (omega arith)

    keeps_alt : (s i t h j : ℕ) → Go k b p s i t h ⊎ (Go (k + within p) (b + states p) q s i t h ⊎ ByEdge H (length log) (alt_links b p q) s i t h)
        → From (alt p q) b t h j → From (alt p q) b s i j
    keeps_alt s i t h j (inl y) (inl (e, x)) = let u = edge_in p k b s i t h y in absurd (omega arith)
    keeps_alt s i t h j (inl y) (inr (inl (e, x))) = let u = edge_in p k b s i t h y in absurd (omega arith)
    keeps_alt s i t h j (inl y) (inr (inr (inl f))) = inr (inr (inl (keep s i t h j y f)))
    keeps_alt s i t h j (inl y) (inr (inr (inr f))) =
        let u = edge_in p k b s i t h y in let v = from_in q (b + states p) t h j f in absurd (omega arith)
    keeps_alt s i t h j (inr (inl y)) (inl (e, x)) = let u = edge_in q (k + within p) (b + states p) s i t h y in absurd (omega arith)
    keeps_alt s i t h j (inr (inl y)) (inr (inl (e, x))) = let u = edge_in q (k + within p) (b + states p) s i t h y in absurd (omega arith)
    keeps_alt s i t h j (inr (inl y)) (inr (inr (inl f))) =
        let u = edge_in q (k + within p) (b + states p) s i t h y in let v = from_in p b t h j f in absurd (omega arith)
    keeps_alt s i t h j (inr (inl y)) (inr (inr (inr f))) = inr (inr (inr (keep' s i t h j y f)))
    keeps_alt s i t h j (inr (inr (inl y))) z = along (λ u v. From (alt p q) b u v j) _ _ s i t h (λ f. inl (refl, inl (alt_left i j f))) y z
    keeps_alt s i t h j (inr (inr (inr (inl y)))) z = along (λ u v. From (alt p q) b u v j) _ _ s i t h (λ f. inl (refl, inr (alt_right i j f))) y z
    keeps_alt s i t h j (inr (inr (inr (inr (inl y))))) z =
        along (λ u v. From (alt p q) b u v j) _ _ s i t h (λ f. inr (inr (inl (at_end p b i j (alt_end i j f))))) y z
    keeps_alt s i t h j (inr (inr (inr (inr (inr (inl y)))))) z =
        along (λ u v. From (alt p q) b u v j) _ _ s i t h (λ f. inr (inr (inr (at_end q (b + states p) i j (alt_end i j f))))) y z
    keeps_alt s i t h j (inr (inr (inr (inr (inr (inr y)))))) z = elim y [ ]

  module _ (p : Path) (k b : ℕ) (keep : Keeps p k b) where
    many_start : (i j : ℕ) → From (many p) b (entry b p) i j → Many (Runs p log) i j
    many_start i j (inl (e, x)) = let u = entry_in p b in absurd (omega arith)
    many_start i j (inr (inl (e, x))) = let u = entry_in p b in absurd (omega arith)
    many_start i j (inr (inr (h, f, m))) = more (from_entry p b i h f) m

    many_end : (i j : ℕ) → From (many p) b (suc (b + states p)) i j → i ≡ j
    many_end i j (inl (e, x)) = absurd (omega arith)
    many_end i j (inr (inl (e, x))) = x
    many_end i j (inr (inr (h, f, m))) = let u = from_in p b (suc (b + states p)) i h f in absurd (omega arith)

    none : (i j : ℕ) → i ≡ j → Many (Runs p log) i j
    none i j e = subst (λ (z : ℕ). Many (Runs p log) i z) e done

    keeps_many : (s i t h j : ℕ) → Go k b p s i t h ⊎ ByEdge H (length log) (many_links b p) s i t h → From (many p) b t h j → From (many p) b s i j
    keeps_many s i t h j (inl y) (inl (e, x)) = let u = edge_in p k b s i t h y in absurd (omega arith)
    keeps_many s i t h j (inl y) (inr (inl (e, x))) = let u = edge_in p k b s i t h y in absurd (omega arith)
    keeps_many s i t h j (inl y) (inr (inr (x, f, m))) = inr (inr (x, keep s i t h x y f, m))
    keeps_many s i t h j (inr (inl y)) z = along (λ u v. From (many p) b u v j) _ _ s i t h (λ f. inl (refl, many_start i j f)) y z
    keeps_many s i t h j (inr (inr (inl y))) z = along (λ u v. From (many p) b u v j) _ _ s i t h (λ f. inr (inr (i, from_exit p b i, many_start i j f))) y z
    keeps_many s i t h j (inr (inr (inr (inl y)))) z = along (λ u v. From (many p) b u v j) _ _ s i t h (λ f. inr (inr (i, from_exit p b i, none i j (many_end i j f)))) y z
    keeps_many s i t h j (inr (inr (inr (inr (inl y))))) z = along (λ u v. From (many p) b u v j) _ _ s i t h (λ f. inl (refl, none i j (many_end i j f))) y z
    keeps_many s i t h j (inr (inr (inr (inr (inr y))))) z = elim y [ ]

  keeps : (p : Path) (k b : ℕ) → NodesRight p log H k → (s i t h j : ℕ) → Go k b p s i t h → From p b t h j → From p b s i j
  keeps (step d a) k b r s i t h j (inl g) (inl (e, x)) = let c : suc b ≡ t = g.comes in absurd (omega arith)
  keeps (step d a) k b r s i t h j (inl g) (inr (e, x)) =
      inl (sym g.leaves, ((r i).0 g.holds, subst (λ (z : ℕ). Moves (length log) d i z) x (subst (λ (z : Dir). Moves (length log) z i h) (dir_back d) g.moves)))
  keeps (step d a) k b r s i t h j (inr z) f = elim z [ ]
  keeps (seq p q) k b r s i t h j z f =
      keeps_seq p q k b (keeps p k b r.0) (keeps q (k + within p) (b + states p) r.1) s i t h j (split_edge (edges k b p) (edges (k + within p) (b + states p) q) (seq_links b p q) s i t h z) f
  keeps (alt p q) k b r s i t h j z f =
      keeps_alt p q k b (keeps p k b r.0) (keeps q (k + within p) (b + states p) r.1) s i t h j (split_edge (edges k b p) (edges (k + within p) (b + states p) q) (alt_links b p q) s i t h z) f
  keeps (many p) k b r s i t h j z f =
      keeps_many p k b (keeps p k b r) s i t h j (some_append (Goes (length log) H s i t h) (edges k b p) (many_links b p) z) f

  kept : (p : Path) (k b : ℕ) → NodesRight p log H k → {s i t h : ℕ} (j : ℕ) → Trip (Go k b p) s i t h → From p b t h j → From p b s i j
  kept p k b r j stop f = f
  kept p k b r j (go g w) f = keeps p k b r _ _ _ _ j g (kept p k b r j w f)

  -- THE PATH'S RUNS are the walks from its start to its end
  pub runs_iff : (p : Path) (k b : ℕ) → NodesRight p log H k → (i j : ℕ) → Trip (Go k b p) (entry b p) i (exit b p) j ↔ Runs p log i j
  runs_iff p k b r i j = (λ w. from_entry p b i j (kept p k b r j w (from_exit p b j)), walk_of p k b r i j)

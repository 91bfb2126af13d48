-- A node or an entry beyond what the library's numbers can say is answered as the largest of these: no sheet has that node, no log that entry.
use Prim.Native.Nat.{ℕ, ◌≤◌, ◌<◌, min}
use mathlib.Core.Path.{◌≡◌, refl, ap, sym, ◌∙◌}
use mathlib.Core.Logic.{◌⊎◌, inl, inr}
use mathlib.Core.Bool.{Bool, true, false}
use mathlib.Core.List.{List, [], ◌∷◌}
use native.Mathlib.Omega.{arith}
use lib.Dec.{eqb, leb, ltb}
use lib.ListN.{length}
use borrow.Author.Tests.{leb-true, le-ltb}
use Rattle.aldlf.specs.Constants.{node_limit, entry_limit}
use Rattle.aldlf.specs.Sheet.{Sheet, sheet_of}
use Rattle.aldlf.specs.Outcomes.{first_no, log_fits}
use Rattle.aldlf.specs.Walks.{walk_number, walk_outcome}
use Rattle.aldlf.specs.declared.Table.{Table}
use Rattle.aldlf.proofs.Bools.{and_right, bool_cases, lt-or-le}
use Rattle.sheet.specs.Given.{well_formed}
use Rattle.sheet.proofs.Decided.{wf_yes}
use Rattle.walk.proofs.Questions.{outcome_early, outcome_36, outcome_37}

first-no : (fits : Bool) → fits ≡ false → eqb (first_no ((true, 31) ∷ (fits, 32) ∷ (true, 33) ∷ [])) 0 ≡ false
first-no fits e = rw e

module _ (S : Sheet) (log buffer : List ℕ) where
  -- questions 31 and 32 do not look at the node and the entry
  no_table : (k i k' i' : ℕ) → walk_outcome false S log k i buffer ≡ walk_outcome false S log k' i' buffer
  unfolding walk_number walk_outcome
  no_table k i k' i' = refl

  no_log : (k i k' i' : ℕ) → log_fits log ≡ false → walk_outcome true S log k i buffer ≡ walk_outcome true S log k' i' buffer
  no_log k i k' i' e =
      let stops = first-no (log_fits log) e in
      outcome_early S log k i buffer true true (λ y. refl) stops ∙ sym (outcome_early S log k' i' buffer true true (λ y. refl) stops)

  -- question 36 looks at the node alone, and question 37 at the entry alone
  no_node : (k k' i : ℕ) → S.nodes ≤ k → S.nodes ≤ k' → walk_outcome true S log k i buffer ≡ walk_outcome true S log k' i buffer
  no_node k k' i l l' = go (bool_cases (log_fits log))
    where
      go : (log_fits log ≡ true) ⊎ (log_fits log ≡ false) → walk_outcome true S log k i buffer ≡ walk_outcome true S log k' i buffer
      go (inl y) = outcome_36 S log k i buffer y (le-ltb k S.nodes l) ∙ sym (outcome_36 S log k' i buffer y (le-ltb k' S.nodes l'))
      go (inr n) = no_log k i k' i n

  no_entry : (k i i' : ℕ) → log_fits log ≡ true → length log ≤ i → length log ≤ i' → walk_outcome true S log k i buffer ≡ walk_outcome true S log k i' buffer
  no_entry k i i' y l l' = go (bool_cases (ltb k S.nodes))
    where
      go : (ltb k S.nodes ≡ true) ⊎ (ltb k S.nodes ≡ false) → walk_outcome true S log k i buffer ≡ walk_outcome true S log k i' buffer
      go (inl n) = outcome_37 S log k i buffer y n (le-ltb i (length log) l) ∙ sym (outcome_37 S log k i' buffer y n (le-ltb i' (length log) l'))
      go (inr n) = outcome_36 S log k i buffer y n ∙ sym (outcome_36 S log k i' buffer y n)

  node_capped : (k i : ℕ) → S.nodes ≤ node_limit → walk_outcome true S log k i buffer ≡ walk_outcome true S log (min k 255) i buffer
  node_capped k i few = go (lt-or-le k S.nodes)
    where
      go : (k < S.nodes) ⊎ (S.nodes ≤ k) → walk_outcome true S log k i buffer ≡ walk_outcome true S log (min k 255) i buffer
      go (inl l) = let same : k ≡ min k 255 = omega arith in ap (λ (x : ℕ). walk_outcome true S log x i buffer) same
      go (inr l) = no_node k (min k 255) i l (omega arith)

  entry_capped : (k i : ℕ) → walk_outcome true S log k i buffer ≡ walk_outcome true S log k (min i 65535) buffer
  entry_capped k i = go (bool_cases (log_fits log)) (lt-or-le i (length log))
    where
      go : (log_fits log ≡ true) ⊎ (log_fits log ≡ false) → (i < length log) ⊎ (length log ≤ i) → walk_outcome true S log k i buffer ≡ walk_outcome true S log k (min i 65535) buffer
      go (inr n) l = no_log k i k (min i 65535) n
      go (inl y) l =
          let few = leb-true (length log) entry_limit (and_right (leb 1 (length log)) (leb (length log) entry_limit) y) in
          near few y l
        where
          near : length log ≤ entry_limit → log_fits log ≡ true → (i < length log) ⊎ (length log ≤ i) → walk_outcome true S log k i buffer ≡ walk_outcome true S log k (min i 65535) buffer
          near few y (inl l) = let same : i ≡ min i 65535 = omega arith in ap (λ (x : ℕ). walk_outcome true S log k x buffer) same
          near few y (inr l) = no_entry k i (min i 65535) y l (omega arith)

-- a given table has at most 128 nodes
few_nodes : (t : Table) → well_formed t ≡ true → (sheet_of t).nodes ≤ node_limit
unfolding sheet_of
few_nodes t w = (wf_yes t w).grown.nodes≤

pub capped : (t : Table) (log : List ℕ) (k i : ℕ) (buffer : List ℕ)
    → walk_outcome (well_formed t) (sheet_of t) log k i buffer ≡ walk_outcome (well_formed t) (sheet_of t) log (min k 255) (min i 65535) buffer
capped t log k i buffer = go (well_formed t) refl
  where
    go : (g : Bool) → well_formed t ≡ g → walk_outcome g (sheet_of t) log k i buffer ≡ walk_outcome g (sheet_of t) log (min k 255) (min i 65535) buffer
    go true w = node_capped (sheet_of t) log buffer k i (few_nodes t w) ∙ entry_capped (sheet_of t) log buffer (min k 255) i
    go false w = no_table (sheet_of t) log buffer k i (min k 255) (min i 65535)

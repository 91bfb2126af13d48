-- THE SHEET OF A TABLE THAT SOME TEXT GIVES IS SOUND: its lines name earlier nodes, its edges go to states of their automaton, its automata start in a state of their own, and its rows' bits fit.
use Prim.Native.Nat.{ℕ, ◌+◌, ◌≤◌, ◌<◌}
use native.Mathlib.Omega.{arith}
use mathlib.Core.Path.{◌≡◌, sym, subst, ap, ◌∙◌}
use mathlib.Core.Logic.{◌⊎◌, inl, inr}
use mathlib.Core.Bool.{true, false≢true}
use lib.Dec.{ltb}
use borrow.Author.Tests.{ltb-true}
use Rattle.aldlf.specs.Constants.{node_limit, state_limit, letter_n, letter_a, letter_o, letter_d, letter_b}
use Rattle.aldlf.specs.Sheet.{Line, by_mode, sheet_of}
use Rattle.aldlf.specs.Stands.{Tests, Names}
use Rattle.aldlf.specs.Parts.{counts, Sound}
use Rattle.aldlf.specs.declared.NodeLine.{NodeLine}
use Rattle.aldlf.specs.declared.Automaton.{Automaton}
use Rattle.aldlf.specs.declared.Table.{Table}
use Rattle.aldlf.proofs.Bools.{lt-or-le}
use Rattle.aldlf.proofs.Letters.{by_letter}
use Rattle.sheet.specs.Facts.{node_at, automaton_at, ModalFacts, AutomatonFacts, TableFacts}
use Rattle.sheet.proofs.Facts.{tests_below}

module _ (t : Table) (f : TableFacts t) where
  -- a line with a letter is on the sheet
  pub in_use : (k c : ℕ) → (node_at t k).kind ≡ c → 0 < c → k < t.used.nodes
  in_use k c e l = go (lt-or-le k t.used.nodes)
    where
      go : (k < t.used.nodes) ⊎ (t.used.nodes ≤ k) → k < t.used.nodes
      go (inl q) = q
      go (inr q) = let z : 0 ≡ c = sym (ap (λ (x : NodeLine). x.kind) (f.no_node k q)) ∙ e in absurd (omega arith)

  modal_at : (k : ℕ) → ((node_at t k).kind ≡ letter_d) ⊎ ((node_at t k).kind ≡ letter_b) → ModalFacts t k
  modal_at k (inl e) = (f.node k (in_use k letter_d e (omega arith))).modal (inl e)
  modal_at k (inr e) = (f.node k (in_use k letter_b e (omega arith))).modal (inr e)

  -- LINES NAME EARLIER NODES
  pub names_earlier : (k y : ℕ) → Names (sheet_of t) ((sheet_of t).line k) y → y < k
  unfolding sheet_of
  names_earlier k y =
      by_letter (λ l. Names (sheet_of t) l y → y < k) (node_at t k).kind (node_at t k).a (node_at t k).b (λ z. absurd z) (λ e z. absurd z) (λ e z. absurd z)
      (λ e z. subst (λ (j : ℕ). j < k) z ((f.node k (in_use k letter_n e (omega arith))).not< e))
      (λ e. two ((f.node k (in_use k letter_a e (omega arith))).both< (inl e)))
      (λ e. two ((f.node k (in_use k letter_o e (omega arith))).both< (inr e)))
      (λ e. modal (modal_at k (inl e)))
      (λ e. modal (modal_at k (inr e)))
    where
      two : {a b : ℕ} → (a < k) × (b < k) → (a ≡ y) ⊎ (b ≡ y) → y < k
      two q (inl e) = subst (λ (j : ℕ). j < k) e q.0
      two q (inr e) = subst (λ (j : ℕ). j < k) e q.1

      modal : ModalFacts t k → ((node_at t k).b ≡ y) ⊎ Tests (sheet_of t) (node_at t k).a y → y < k
      modal m (inl e) = subst (λ (j : ℕ). j < k) e m.node<
      modal m (inr (e, (lo, hi), q)) = subst (λ (j : ℕ). j < k) q (tests_below t k e f m lo hi)

  automaton_in : (m e : ℕ) → (automaton_at t m).first ≤ e → e < (automaton_at t m).first + (automaton_at t m).count → AutomatonFacts t m
  automaton_in m e a b = go (lt-or-le m t.used.automata)
    where
      go : (m < t.used.automata) ⊎ (t.used.automata ≤ m) → AutomatonFacts t m
      go (inl l) = f.automaton m l
      go (inr l) =
          let q = subst (λ (x : Automaton). (x.first ≤ e) × (e < x.first + x.count)) (f.no_automaton_past m l) (a, b) in
          absurd (omega arith)

  pub sound : Sound (sheet_of t)
  unfolding sheet_of
  sound =
      record {
        some = f.some_node;
        few = f.nodes≤;
        earlier = names_earlier;
        inside = λ m e a b. ((automaton_in m e a b).edge e a b).to<;
        starts = λ k. by_letter Starts (node_at t k).kind (node_at t k).a (node_at t k).b tt (λ e. tt) (λ e. tt) (λ e. tt) (λ e. tt) (λ e. tt) (λ e. start k (inl e)) (λ e. start k (inr e));
        fits = λ k s. by_letter (λ l. counts (sheet_of t) l s ≡ true → (k < node_limit) × (s < state_limit)) (node_at t k).kind (node_at t k).a (node_at t k).b
            (λ c. absurd (false≢true c)) (λ e c. absurd (false≢true c)) (λ e c. absurd (false≢true c)) (λ e c. absurd (false≢true c)) (λ e c. absurd (false≢true c)) (λ e c. absurd (false≢true c))
            (λ e c. fit k s (inl e) (in_use k letter_d e (omega arith)) c) (λ e c. fit k s (inr e) (in_use k letter_b e (omega arith)) c);
      }
    where
      Starts : Line → Type 0
      Starts l = by_mode (λ m a. ((sheet_of t).automaton m).start < ((sheet_of t).automaton m).states) (λ m a. ((sheet_of t).automaton m).start < ((sheet_of t).automaton m).states) (Unit {0}) l

      start : (k : ℕ) → ((node_at t k).kind ≡ letter_d) ⊎ ((node_at t k).kind ≡ letter_b) → (automaton_at t (node_at t k).a).start.0 < (automaton_at t (node_at t k).a).states
      start k e = (f.automaton (node_at t k).a (modal_at k e).automaton<).start<

      fit : (k s : ℕ) → ((node_at t k).kind ≡ letter_d) ⊎ ((node_at t k).kind ≡ letter_b) → k < t.used.nodes → ltb s (automaton_at t (node_at t k).a).states ≡ true → (k < node_limit) × (s < state_limit)
      fit k s e l c =
          let a = f.automaton (node_at t k).a (modal_at k e).automaton< in
          (omega (arith, f.nodes≤), omega (arith, ltb-true s (automaton_at t (node_at t k).a).states c, a.states≤))

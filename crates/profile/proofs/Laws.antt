-- Laws by which the code meets the definitions: what fits, lines letter by letter, places one after the other, and the two answers.
use Prim.Native.Nat.{ℕ, zero, suc, ◌+◌, ◌*◌, ◌-◌, ◌≤◌, ◌<◌}
use native.Mathlib.Omega.{arith}
use native.Mathlib.Numerals.{add-one}
use mathlib.Core.Path.{◌≡◌, refl, sym, ap, ◌∙◌}
use mathlib.Core.List.{List, map}
use mathlib.Core.Bool.{Bool, true, false}
use mathlib.Core.Logic.{◌⊎◌, inl, inr, ⊎_elim}
use lib.ListN.{length, get_or, set, length-set, length-map, get_or-map}
use lib.Seq.{get_or-set_same, get_or-set_other, ext_get_or}
use lib.Dec.{eqb, leb}
use borrow.Author.Tests.{ne_eqb}
use Rattle.aldlf.specs.Constants.{node_limit, letter_p, letter_n, letter_a, letter_o, letter_d, letter_b}
use Rattle.aldlf.specs.Sheet.{no_line}
use Rattle.aldlf.specs.Refusals.{refusal_number}
use Rattle.aldlf.specs.declared.Refusal.{Refusal}
use Rattle.aldlf.specs.declared.NodeLine.{NodeLine}
use Rattle.aldlf.specs.declared.Automaton.{Automaton}
use Rattle.aldlf.specs.declared.Edge.{Edge}
use Rattle.aldlf.specs.declared.Used.{Used}
use Rattle.aldlf.specs.declared.Table.{Table}
use Rattle.sheet.specs.Given.{well_formed, edges_before}
use Rattle.sheet.specs.Questions.{empty_table}
use Rattle.sheet.specs.Facts.{node_at, automaton_at, edge_at, TableFacts}
use Rattle.sheet.proofs.Bools.{same, split}
use Rattle.sheet.proofs.Facts.{table_facts}
use Rattle.sheet.proofs.Decided.{wf_yes}
use Rattle.profile.specs.Profile.{ProfileAnswer}
use Rattle.profile.specs.Profile.{ProfileCheck}
use Rattle.profile.specs.Profile.{line, exchanged, kept_line, opposite_line, kept_in, opposite_in, doubled, profile_lines, kept_automaton, kept_edge, profile_of, profile_number, profile_outcome, line_in_profile, in_profile, profile_check}
use Rattle.profile.specs.Room.{NamesRoom}

-- What fits -----------------------------------------------------------------------------------------------------------------------

-- a node of the table, and the one that an N names, are places of the table
pub names_small : (t : Table) → well_formed t ≡ true → (k : ℕ) → k < t.used.nodes → (k < node_limit) × ((node_at t k).kind ≡ letter_n → (node_at t k).a < node_limit)
names_small t w k l =
    let f = table_facts t w in
    let b = f.nodes≤ in
    (omega arith, λ e. omega (arith, (f.node k l).not< e))

module _ (t : Table) (w : well_formed t ≡ true) (r : 2 * t.used.nodes + 1 ≤ node_limit) where
  abbrev f : TableFacts t
  f = table_facts t w

  -- the nodes that old line k names have room for their two lines
  pub names_room : (k : ℕ) → k < t.used.nodes → NamesRoom (node_at t k)
  names_room k l =
      let x = f.node k l in
      record {
        not< = λ e. omega (arith, x.not< e);
        both< = λ e. (omega (arith, (x.both< e).0), omega (arith, (x.both< e).1));
        modal< = λ e. omega (arith, (x.modal (⊎_elim inr inl e)).node<);
      }

  -- twice the nodes above an M line, used or not
  pub before_small : (m : ℕ) → 2 * (automaton_at t m).before < node_limit
  before_small m = go (split t.used.automata m)
    where
      go : (t.used.automata ≤ m) ⊎ (m < t.used.automata) → 2 * (automaton_at t m).before < node_limit
      go (inl h) = let e = ap (λ (x : Automaton). x.before) (f.no_automaton_past m h) in omega arith
      go (inr h) = let b = (f.automaton m h).before< in omega arith

  -- twice the node that an edge names: an edge in use belongs to an automaton
  owned : (m e : ℕ) → m ≤ t.used.automata → e < edges_before t.automata m → 2 * (edge_at t e).test.0 < node_limit
  owned zero e h l = absurd (omega arith)
  owned (suc m) e h l = go (λ k. owned m e (omega arith) k) (split (automaton_at t m).first e)
    where
      go : (e < edges_before t.automata m → 2 * (edge_at t e).test.0 < node_limit) → ((automaton_at t m).first ≤ e) ⊎ (e < (automaton_at t m).first) → 2 * (edge_at t e).test.0 < node_limit
      go rec (inl lo) = let x = ((f.automaton m h).edge e lo l).test< in let b = (f.automaton m h).before< in omega arith
      go rec (inr lo) = rec (let q = ((wf_yes t w).grown.automata m h).first≡ in omega arith)

  pub test_small : (e : ℕ) → 2 * (edge_at t e).test.0 < node_limit
  test_small e = go (split t.used.edges e)
    where
      go : (t.used.edges ≤ e) ⊎ (e < t.used.edges) → 2 * (edge_at t e).test.0 < node_limit
      go (inl h) = let q = ap (λ (x : Edge). x.test.0) (f.no_edge_past e h) in omega arith
      go (inr h) = owned t.used.automata e (omega arith) (let q = (wf_yes t w).grown.total in omega arith)

-- Lines ---------------------------------------------------------------------------------------------------------------------------

module _ (x : NodeLine) where
  pub kept_two : (x.kind ≡ letter_a) ⊎ (x.kind ≡ letter_o) → line x.kind (2 * x.a) (2 * x.b) ≡ kept_line x
  unfolding kept_line
  kept_two e = ⊎_elim (λ e. rw e) (λ e. rw e) e

  pub kept_modal : (x.kind ≡ letter_b) ⊎ (x.kind ≡ letter_d) → line x.kind x.a (2 * x.b) ≡ kept_line x
  unfolding kept_line
  kept_modal e = ⊎_elim (λ e. rw e) (λ e. rw e) e

  pub kept_other : ((x.kind ≡ letter_a) ⊎ (x.kind ≡ letter_o) → ⊥) → ((x.kind ≡ letter_b) ⊎ (x.kind ≡ letter_d) → ⊥) → x ≡ kept_line x
  unfolding kept_line
  kept_other p q =
      simp (ne_eqb x.kind letter_a (λ e. p (inl e)), ne_eqb x.kind letter_o (λ e. p (inr e)), ne_eqb x.kind letter_b (λ e. q (inl e)), ne_eqb x.kind letter_d (λ e. q (inr e)))

  pub kept_not : (out : List NodeLine) → x.kind ≡ letter_n → get_or out (2 * x.a + 1) no_line ≡ kept_in out x
  unfolding kept_in
  kept_not out e = rw e

  pub kept_plain : (out : List NodeLine) → (x.kind ≡ letter_n → ⊥) → kept_line x ≡ kept_in out x
  unfolding kept_in
  kept_plain out f = rw (ne_eqb x.kind letter_n f)

module _ (k : ℕ) (x : NodeLine) (d : ℕ) (is : d ≡ exchanged x.kind) where
  pub opposite_fact : x.kind ≡ letter_p → line letter_n (2 * k) 0 ≡ opposite_line k x
  unfolding opposite_line
  opposite_fact e = rw e

  pub opposite_two : (x.kind ≡ letter_a) ⊎ (x.kind ≡ letter_o) → line d (2 * x.a + 1) (2 * x.b + 1) ≡ opposite_line k x
  unfolding opposite_line
  opposite_two e = ap (λ (z : ℕ). line z (2 * x.a + 1) (2 * x.b + 1)) is ∙ ⊎_elim (λ e. rw e) (λ e. rw e) e

  pub opposite_modal : (x.kind ≡ letter_b) ⊎ (x.kind ≡ letter_d) → line d x.a (2 * x.b + 1) ≡ opposite_line k x
  unfolding opposite_line
  opposite_modal e = ap (λ (z : ℕ). line z x.a (2 * x.b + 1)) is ∙ ⊎_elim (λ e. rw e) (λ e. rw e) e

  pub opposite_other : (x.kind ≡ letter_p → ⊥) → ((x.kind ≡ letter_a) ⊎ (x.kind ≡ letter_o) → ⊥) → ((x.kind ≡ letter_b) ⊎ (x.kind ≡ letter_d) → ⊥) → line d x.a x.b ≡ opposite_line k x
  unfolding opposite_line
  opposite_other r p q =
      ap (λ (z : ℕ). line z x.a x.b) is
      ∙ simp (ne_eqb x.kind letter_p r, ne_eqb x.kind letter_a (λ e. p (inl e)), ne_eqb x.kind letter_o (λ e. p (inr e)), ne_eqb x.kind letter_b (λ e. q (inl e)), ne_eqb x.kind letter_d (λ e. q (inr e)))

-- lines with the same letter and numbers are the same
pub line_cong : {c a b c' a' b' : ℕ} → c ≡ c' → a ≡ a' → b ≡ b' → line c a b ≡ line c' a' b'
line_cong e f g = rw (e, f, g)

pub opposite_not : (k : ℕ) (x : NodeLine) (out : List NodeLine) → x.kind ≡ letter_n → get_or out (2 * x.a) no_line ≡ opposite_in k out x
unfolding opposite_in
opposite_not k x out e = rw e

pub opposite_plain : (k : ℕ) (x : NodeLine) (out : List NodeLine) → (x.kind ≡ letter_n → ⊥) → opposite_line k x ≡ opposite_in k out x
unfolding opposite_in
opposite_plain k x out f = rw (ne_eqb x.kind letter_n f)

-- one old line more
pub doubled_next : (ns : List NodeLine) (k : ℕ) (out : List NodeLine) (p q : NodeLine) → out ≡ doubled ns k → p ≡ kept_in out (get_or ns k no_line) → q ≡ opposite_in k out (get_or ns k no_line)
    → set (set out (2 * k) p) (2 * k + 1) q ≡ doubled ns (k + 1)
unfolding doubled
doubled_next ns k out p q e a b = rw (a, b, e) (ap (doubled ns) (sym (add-one k)))

pub pair_next : (ns : List NodeLine) (k : ℕ) (out : List NodeLine) (pq : NodeLine × NodeLine) → out ≡ doubled ns k
    → pq ≡ (kept_in out (get_or ns k no_line), opposite_in k out (get_or ns k no_line)) → set (set out (2 * k) pq.0) (2 * k + 1) pq.1 ≡ doubled ns (k + 1)
pair_next ns k out pq e p = doubled_next ns k out pq.0 pq.1 e (ap (λ (r : NodeLine × NodeLine). r.0) p) (ap (λ (r : NodeLine × NodeLine). r.1) p)

-- the rule's line again
pub last_put : (ns : List NodeLine) (n : ℕ) (out : List NodeLine) → out ≡ doubled ns n → set out (2 * n) (get_or out (2 * (n - 1)) no_line) ≡ profile_lines ns n
unfolding profile_lines
last_put ns n out e = rw e

-- Places --------------------------------------------------------------------------------------------------------------------------

-- The first m places of `out` are made by f of those of xs.
pub record Placed {A : Type 0} (f : A → A) (d : A) (xs out : List A) (m : ℕ) : Type 0 where
  pub long : length out ≡ length xs
  pub made : (j : ℕ) → j < m → get_or out j d ≡ f (get_or xs j d)

pub placed_none : {A : Type 0} (f : A → A) (d : A) (xs out : List A) → length out ≡ length xs → Placed f d xs out 0
placed_none f d xs out e = record { long = e; made = λ j l. absurd (omega arith) }

pub placed_next : {A : Type 0} (f : A → A) (d : A) (xs out : List A) (m : ℕ) (y : A) → m < length xs → y ≡ f (get_or xs m d) → Placed f d xs out m → Placed f d xs (set out m y) (m + 1)
placed_next f d xs out m y l e p = record { long = length-set out m y ∙ p.long; made = λ j h. go j h (same j m) }
  where
    go : (j : ℕ) → j < m + 1 → (j ≡ m) ⊎ (j ≡ m → ⊥) → get_or (set out m y) j d ≡ f (get_or xs j d)
    go j h (inl q) = let n = p.long in rw q (get_or-set_same out m y d (omega arith) ∙ e)
    go j h (inr q) = get_or-set_other out m j y d q ∙ p.made j (omega arith)

pub placed_all : {A : Type 0} (f : A → A) (d : A) (xs out : List A) (m : ℕ) → f d ≡ d → length xs ≤ m → Placed f d xs out m → out ≡ map f xs
placed_all f d xs out m e l p =
    ext_get_or d out (map f xs) (p.long ∙ sym (length-map xs f))
    (λ i h. let n = p.long in p.made i (omega arith) ∙ sym (ap (get_or (map f xs) i) (sym e) ∙ get_or-map f xs i d))

-- the table by its parts
pub parts_of : (t : Table) (ns : List NodeLine) (ms : List Automaton) (es : List Edge) (u : Used) → ns ≡ profile_lines t.nodes t.used.nodes → ms ≡ map kept_automaton t.automata → es ≡ map kept_edge t.edges → u ≡ t.used
    → ◌≡◌ {A = Table} (record { nodes = ns; automata = ms; edges = es; used = record { nodes = 2 * u.nodes + 1; automata = u.automata; edges = u.edges } }) (profile_of t)
unfolding profile_of
parts_of t ns ms es u a b c d = rw (a, b, c, d)

-- Answers -------------------------------------------------------------------------------------------------------------------------

pub number_31 : (t : Table) → well_formed t ≡ false → 31 ≡ profile_number t
unfolding profile_number
number_31 t e = rw e

pub number_42 : (t : Table) → well_formed t ≡ true → leb (2 * t.used.nodes + 1) node_limit ≡ false → 42 ≡ profile_number t
unfolding profile_number
number_42 t e f = rw (e, f)

pub number_0 : (t : Table) → well_formed t ≡ true → leb (2 * t.used.nodes + 1) node_limit ≡ true → 0 ≡ profile_number t
unfolding profile_number
number_0 t e f = rw (e, f)

-- a refusal has a number
pub refused : (r : Refusal) → refusal_number r ≡ 0 → ⊥
refused r e = grind arith

pub outcome_no : (t : Table) (q : ℕ) → q ≡ profile_number t → (q ≡ 0 → ⊥) → ◌≡◌ {A = ProfileAnswer} (record { number = q; table = empty_table }) (profile_outcome t)
unfolding profile_outcome
outcome_no t zero e f = absurd (f refl)
outcome_no t (suc q) e f = rw (← e, profile_outcome) refl

pub outcome_yes : (t u : Table) (q : ℕ) → q ≡ profile_number t → q ≡ 0 → u ≡ profile_of t → ◌≡◌ {A = ProfileAnswer} (record { number = 0; table = u }) (profile_outcome t)
unfolding profile_outcome
outcome_yes t u q e z p = rw (sym e ∙ z, profile_outcome, p) refl

pub check_no : (t : Table) → well_formed t ≡ false → ◌≡◌ {A = ProfileCheck} (record { number = 31; yes = false }) (profile_check t)
unfolding profile_check
check_no t e = rw e

pub check_yes : (t : Table) (b : Bool) → well_formed t ≡ true → b ≡ in_profile t → ◌≡◌ {A = ProfileCheck} (record { number = 0; yes = b }) (profile_check t)
unfolding profile_check
check_yes t b e p = rw (e, p)

-- a line that is no N, and one that stands on a line
pub in_other : (ns : List NodeLine) (k : ℕ) → ((get_or ns k no_line).kind ≡ letter_n → ⊥) → true ≡ line_in_profile ns k
unfolding line_in_profile
in_other ns k f = rw (ne_eqb (get_or ns k no_line).kind letter_n f)

pub in_stands : (ns : List NodeLine) (k : ℕ) → (get_or ns k no_line).kind ≡ letter_n → eqb (get_or ns (get_or ns k no_line).a no_line).kind letter_p ≡ line_in_profile ns k
unfolding line_in_profile
in_stands ns k e = rw e

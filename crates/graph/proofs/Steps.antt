-- An edge between configurations, seen from the one that it leads to and from the one that it leaves.
use mathlib.Core.Path.{◌≡◌, refl, ap, ap₂, sym, ◌∙◌, subst}
use mathlib.Core.List.{List}
use mathlib.Core.Bool.{true, false}
use mathlib.Core.Logic.{◌⊎◌, inl, inr, ⊎_elim}
use Prim.Native.Nat.{ℕ, suc, ◌+◌, ◌-◌, ◌*◌, ◌/◌, ◌%◌, ◌≤◌, ◌<◌}
use native.Mathlib.Nat.{mul-le-mul, suc-mul, div-add-mod', div-lt_iff_lt-mul}
use native.Mathlib.Omega.{arith}
use borrow.Author.Tests.{eq-eqb, ne_eqb, lt-ltb, le-ltb}
use lib.Arith.{digits_div, digits_mod}
use lib.ListN.{length}
use Rattle.aldlf.specs.Sheet.{bit}
use Rattle.aldlf.specs.declared.Edge.{Edge}
use Rattle.aldlf.specs.declared.Automaton.{Automaton}
use Rattle.aldlf.proofs.Bools.{bool_cases, lt-or-le}
use Rattle.graph.specs.Graph.{Step, Forward, far, at}
use Rattle.graph.specs.Arcs.{unpacked_of}
use Rattle.graph.specs.Configurations.{entry_before, prior_of, graph_of, Goes, Moves, turned_of, arrival_of, start_of, EdgeFits, Ready}
use Rattle.graph.proofs.Cases.{same?}
use Rattle.graph.proofs.Priors.{other_state, off_log, test_fails, test_holds as prior-at}

module _ (d j n : ℕ) where
  stays : d ≡ 0 → entry_before d j n ≡ j
  stays e = rw (eq-eqb d 0 e)

  first_none : d ≡ 1 → j ≡ 0 → entry_before d j n ≡ far
  first_none e z = rw (ne_eqb d 0 (omega arith), eq-eqb d 1 e, eq-eqb j 0 z)

  one_less : d ≡ 1 → (j ≡ 0 → ⊥) → entry_before d j n ≡ j - 1
  one_less e z = rw (ne_eqb d 0 (omega arith), eq-eqb d 1 e, ne_eqb j 0 z)

  one_more : d ≡ 2 → j + 1 < n → entry_before d j n ≡ j + 1
  one_more e l = rw (ne_eqb d 0 (omega arith), ne_eqb d 1 (omega arith), lt-ltb (j + 1) n l)

  last_none : d ≡ 2 → n ≤ j + 1 → entry_before d j n ≡ far
  last_none e l = rw (ne_eqb d 0 (omega arith), ne_eqb d 1 (omega arith), le-ltb (j + 1) n l)

  pub goes_before : (i : ℕ) → d ≤ 2 → i ≡ entry_before d j n → (i ≡ far → ⊥) → Goes d i j
  goes_before i dl e ne =
      ⊎_elim (λ z. inl (z, e ∙ stays z))
      (λ nz.
      ⊎_elim
      (λ o.
      ⊎_elim (λ z. absurd (ne (e ∙ first_none o z))) (λ z. let m = one_less o z in inr (inl (o, omega arith))) (same? j 0))
      (λ no1.
      let two : d ≡ 2 = omega arith in
      ⊎_elim (λ l. let m = one_more two l in inr (inr (two, omega arith))) (λ l. absurd (ne (e ∙ last_none two l))) (lt-or-le (j + 1) n))
      (same? d 1))
      (same? d 0)

  pub before_goes : (i : ℕ) → i < n → Goes d i j → entry_before d j n ≡ i
  before_goes i il g =
      ⊎_elim (λ z. stays z.0 ∙ sym z.1)
      (⊎_elim (λ o. let e = o.1 in let m = one_less o.0 (omega arith) in omega arith)
      (λ t. let e = t.1 in let m = one_more t.0 (omega arith) in omega arith))
      g

turned_zero : (d : ℕ) → d ≡ 0 → turned_of d ≡ 0
turned_zero d e = rw (eq-eqb d 0 e)

turned_more : (d : ℕ) → (d ≡ 0 → ⊥) → turned_of d ≡ 3 - d
turned_more d e = rw (ne_eqb d 0 e)

pub turn_goes : (d i j : ℕ) → Goes d i j → Goes (turned_of d) j i
turn_goes d i j g =
    ⊎_elim (λ z. inl (turned_zero d z.0, sym z.1))
    (⊎_elim (λ o. let a = o.0 in let m = turned_more d (omega arith) in inr (inr (omega arith, o.1)))
    (λ t. let a = t.0 in let m = turned_more d (omega arith) in inr (inl (omega arith, t.1))))
    g

pub goes_turn : (d i j : ℕ) → d ≤ 2 → Goes (turned_of d) j i → Goes d i j
goes_turn d i j l g =
    ⊎_elim
    (λ z. ⊎_elim (λ h. inl (z, sym h.1)) (⊎_elim (λ o. let a = o.0 in let m = turned_zero d z in absurd (omega arith)) (λ t. let a = t.0 in let m = turned_zero d z in absurd (omega arith))) g)
    (λ nz.
    let m = turned_more d nz in
    ⊎_elim (λ h. let a = h.0 in absurd (omega arith))
    (⊎_elim (λ o. let a = o.0 in inr (inr (omega arith, o.1))) (λ t. let a = t.0 in inr (inl (omega arith, t.1))))
    g)
    (same? d 0)

goes_one : (d i j k : ℕ) → Goes d i j → Goes d i k → j ≡ k
goes_one d i j k a b =
    ⊎_elim
    (λ x. ⊎_elim (λ y. let p = x.1 in let q = y.1 in omega arith) (⊎_elim (λ y. absurd (let p = x.0 in let q = y.0 in omega arith)) (λ y. absurd (let p = x.0 in let q = y.0 in omega arith))) b)
    (⊎_elim
    (λ x. ⊎_elim (λ y. absurd (let p = x.0 in let q = y.0 in omega arith)) (⊎_elim (λ y. let p = x.1 in let q = y.1 in omega arith) (λ y. absurd (let p = x.0 in let q = y.0 in omega arith))) b)
    (λ x. ⊎_elim (λ y. absurd (let p = x.0 in let q = y.0 in omega arith)) (⊎_elim (λ y. absurd (let p = x.0 in let q = y.0 in omega arith)) (λ y. let p = x.1 in let q = y.1 in omega arith)) b))
    a

-- an edge leads to one configuration
pub moves_one : (words : List ℕ) (e : Edge) (states p q r : ℕ) → Moves words e states p q → Moves words e states p r → q ≡ r
moves_one words e states p q r a b =
    let d : q / states ≡ r / states = goes_one e.dir (p / states) (q / states) (r / states) a.goes b.goes in
    let m : q % states ≡ r % states = sym a.to_state ∙ b.to_state in
    sym (div-add-mod' q states) ∙ (ap₂ (λ (x y : ℕ). x * states + y) d m ∙ div-add-mod' r states)

module _ (words : List ℕ) (e : Edge) (states : ℕ) (fits : EdgeFits states e) (few : length words ≤ 512) where
  -- from what `prior` finds to the edge
  pub prior_moves : (p q : ℕ) → p < far → prior_of words e states (q % states) (q / states) ≡ p → Moves words e states p q
  prior_moves p q pl eq =
      ⊎_elim
      (λ to.
      let i = entry_before e.dir (q / states) (length words) in
      ⊎_elim (λ f. absurd (let z = off_log words e states (q % states) (q / states) to i refl f in omega arith))
      (λ nf.
      ⊎_elim
      (λ t.
      let z : i * states + e.from.0 ≡ p = prior-at words e states (q % states) (q / states) to i refl nf t ∙ eq in
      let dv : p / states ≡ i = ap (λ (x : ℕ). x / states) (sym z) ∙ digits_div i fits.from_fits in
      let md : p % states ≡ e.from.0 = ap (λ (x : ℕ). x % states) (sym z) ∙ digits_mod i fits.from_fits in
      record {
        from_state = sym md;
        to_state = to;
        test_holds = ap (λ (x : ℕ). bit (at words x) e.test.0) dv ∙ t;
        goes = goes_before e.dir (q / states) (length words) (p / states) fits.dir_fits dv (λ f. nf (sym dv ∙ f));
      })
      (λ t. absurd (let z = test_fails words e states (q % states) (q / states) to i refl nf t in omega arith))
      (bool_cases (bit (at words i) e.test.0)))
      (same? i far))
      (λ nto. absurd (let z = other_state words e states (q % states) (q / states) nto in omega arith))
      (same? e.to.0 (q % states))

  -- and back
  pub moves_prior : (p q : ℕ) → 0 < states → p < length words * states → Moves words e states p q → prior_of words e states (q % states) (q / states) ≡ p
  moves_prior p q pos pl m =
      let il : p / states < length words = (div-lt_iff_lt-mul pos).1 pl in
      let b = before_goes e.dir (q / states) (length words) (p / states) il m.goes in
      sym (prior-at words e states (q % states) (q / states) m.to_state (p / states) (sym b) (omega arith) m.test_holds)
      ∙ (ap (λ (x : ℕ). p / states * states + x) m.from_state ∙ div-add-mod' p states)

-- a state at an entry of the log is a configuration
pub config_inside : (i states s n : ℕ) → i < n → s < states → i * states + s < n * states
config_inside i states s n l k =
    let m = mul-le-mul {n₁ = suc i} {m₁ = states} {n₂ = n} {m₂ = states} l (omega arith) in
    let z = suc-mul i states in
    omega arith

-- the graph's edges are those of the automaton
module _ (arcs : List ℕ) (q : Automaton) (words : List ℕ) (r : Ready arcs q words) where
  pub size_small : length words * q.states ≤ 8192
  size_small = mul-le-mul {n₂ = 512} {m₂ = 16} r.few_words r.few_states

  -- a walk's start is a configuration
  pub start_in : (i : ℕ) → i < length words → q.start.0 < q.states → start_of q i < length words * q.states
  start_in i l k = config_inside i q.states q.start.0 (length words) l k

  pub step_moves : (p e c : ℕ) → Step (graph_of arcs q words) p e c → Moves words (unpacked_of (at arcs e)) q.states p c
  step_moves p e c s =
      prior_moves words (unpacked_of (at arcs e)) q.states (r.each e s.from_first s.below_last) r.few_words p c
      (let a = s.source_in in let b = size_small in omega arith) s.source

  pub moves_step :
      (p e c : ℕ) → q.first ≤ e → e < q.first + q.count → p < length words * q.states → c < length words * q.states
      → Moves words (unpacked_of (at arcs e)) q.states p c → Step (graph_of arcs q words) p e c
  moves_step p e c l1 l2 pl cl m =
      record {
        from_first = l1;
        below_last = l2;
        source = moves_prior words (unpacked_of (at arcs e)) q.states (r.each e l1 l2) r.few_words p c r.some_state pl m;
        source_in = pl;
        target_in = cl;
      }

  pub forward : Forward (graph_of arcs q words)
  forward p e c c2 a b = moves_one words (unpacked_of (at arcs e)) q.states p c c2 (step_moves p e c a) (step_moves p e c2 b)

-- what `arrival` finds by its test
module _ (words : List ℕ) (e : Edge) (i : ℕ) where
  pub test_on : bit (at words i) e.test.0 ≡ true → arrival_of words e i ≡ entry_before (turned_of e.dir) i (length words)
  unfolding arrival_of
  test_on b = rw b

  pub test_off : bit (at words i) e.test.0 ≡ false → arrival_of words e i ≡ far
  unfolding arrival_of
  test_off b = rw b

-- from an entry at which the edge arrives to the configuration that it leads to, and back
module _ (words : List ℕ) (e : Edge) (states s i : ℕ) (fits : EdgeFits states e) (from : e.from.0 ≡ s) where
  inside : s < states
  inside = omega (arith, fits.from_fits)

  entry_is : (i * states + s) / states ≡ i
  entry_is = digits_div i inside

  turned_most : turned_of e.dir ≤ 2
  turned_most =
      ⊎_elim (λ z. let a = turned_zero e.dir z in omega arith) (λ z. let a = turned_more e.dir z in omega arith) (same? e.dir 0)

  pub arrival_moves : (j : ℕ) → j ≡ arrival_of words e i → (j ≡ far → ⊥) → Moves words e states (i * states + s) (j * states + e.to.0)
  arrival_moves j ej nf = go (bool_cases (bit (at words i) e.test.0))
    where
      go : (bit (at words i) e.test.0 ≡ true) ⊎ (bit (at words i) e.test.0 ≡ false) → Moves words e states (i * states + s) (j * states + e.to.0)
      go (inr b) = absurd (nf (ej ∙ test_off words e i b))
      go (inl b) =
          record {
            from_state = from ∙ sym (digits_mod i inside);
            to_state = sym (digits_mod j fits.to_fits);
            test_holds = ap (λ (x : ℕ). bit (at words x) e.test.0) entry_is ∙ b;
            goes =
                subst (λ (x : ℕ). Goes e.dir x ((j * states + e.to.0) / states)) (sym entry_is)
                (subst (Goes e.dir i) (sym (digits_div j fits.to_fits))
                (goes_turn e.dir i j fits.dir_fits (goes_before (turned_of e.dir) i (length words) j turned_most (ej ∙ test_on words e i b) nf)));
          }

  pub arrival_entry : (q : ℕ) → 0 < states → q < length words * states → Moves words e states (i * states + s) q → arrival_of words e i ≡ q / states
  arrival_entry q pos l m =
      let b : bit (at words i) e.test.0 ≡ true = ap (λ (x : ℕ). bit (at words x) e.test.0) (sym entry_is) ∙ m.test_holds in
      let g : Goes e.dir i (q / states) = subst (λ (x : ℕ). Goes e.dir x (q / states)) entry_is m.goes in
      test_on words e i b ∙ before_goes (turned_of e.dir) i (length words) (q / states) ((div-lt_iff_lt-mul pos).1 l) (turn_goes e.dir i (q / states) g)

  pub arrival_number : (q : ℕ) → 0 < states → q < length words * states → Moves words e states (i * states + s) q → arrival_of words e i * states + e.to.0 ≡ q
  arrival_number q pos l m = ap₂ (λ (x y : ℕ). x * states + y) (arrival_entry q pos l m) m.to_state ∙ div-add-mod' q states

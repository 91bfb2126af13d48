-- The circle of counters: the steps between two, and the entry that bears one, which is exactly one where there is any.
use Rattle.std.proofs.Common.{◌≡◌, ℕ, ◌+◌, ◌%◌, ◌<◌, ◌≤◌, Bool, true, false, ◌&&◌, leb, ltb, ◌↔◌, sym, refl, ap, ◌∙◌, arith, ltb-false, ltb-true, le-ltb, lt-ltb, le-leb}
use borrow.Author.Tests.{lt-leb}
use Rattle.aldlf.specs.Constants.{entry_limit}
use Rattle.joblog.specs.Counted.{counter_limit, steps_between, Lookup, entry_bearing}

-- The steps between two counters are the one number below 65,536 that leads from the earlier to the later.
pub steps_iff : (a b d : ℕ) → a < counter_limit → b < counter_limit → (steps_between a b ≡ d) ↔ ((d < counter_limit) × ((a + d) % counter_limit ≡ b))
steps_iff a b d ha hb = ((λ e. (omega arith, omega arith)), (λ p. omega (arith, p.0, p.1)))

module _ (first n c : ℕ) where
  abbrev steps : ℕ
  steps = steps_between first c

  -- the code's answers are the definition's
  pub lookup_out : (leb 1 n && leb n entry_limit) ≡ false → entry_bearing first n c ≡ record { number = 32; entry = 0 }
  unfolding entry_bearing
  lookup_out h = rw h

  pub lookup_none : n ≡ 0 → entry_bearing first n c ≡ record { number = 32; entry = 0 }
  unfolding entry_bearing
  lookup_none h = rw h

  pub lookup_over : entry_limit < n → entry_bearing first n c ≡ record { number = 32; entry = 0 }
  unfolding entry_bearing
  lookup_over h = rw (le-leb 1 n (omega arith), lt-leb n entry_limit h)

  module _ (some : 1 ≤ n) (limit : n ≤ entry_limit) where
    pub lookup_no : n ≤ steps → entry_bearing first n c ≡ record { number = 30; entry = 0 }
    unfolding entry_bearing
    lookup_no h = rw (le-leb 1 n some, le-leb n entry_limit limit, le-ltb steps n h)

    pub lookup_yes : steps < n → entry_bearing first n c ≡ record { number = 0; entry = steps }
    unfolding entry_bearing
    lookup_yes h = rw (le-leb 1 n some, le-leb n entry_limit limit, lt-ltb steps n h)

    module _ (first< : first < counter_limit) (c< : c < counter_limit) where
      yes_go : (i : ℕ) (t : Bool) → ltb steps n ≡ t → entry_bearing first n c ≡ record { number = 0; entry = i } → (i < n) × ((first + i) % counter_limit ≡ c)
      yes_go i true e h =
          let y = ltb-true steps n e in
          let z : steps ≡ i = ap (λ (r : Lookup). r.entry) (sym (lookup_yes y) ∙ h) in
          (omega arith, ((steps_iff first c i first< c<).0 z).1)
      yes_go i false e h = let z : ◌≡◌ {A = ℕ} 30 0 = ap (λ (r : Lookup). r.number) (sym (lookup_no (ltb-false steps n e)) ∙ h) in absurd (omega arith)

      -- An entry is given exactly where it is one of the log's and bears the counter.
      pub lookup_iff : (i : ℕ) → (entry_bearing first n c ≡ record { number = 0; entry = i }) ↔ ((i < n) × ((first + i) % counter_limit ≡ c))
      lookup_iff i = (yes_go i (ltb steps n) refl, given)
        where
          given : (i < n) × ((first + i) % counter_limit ≡ c) → entry_bearing first n c ≡ record { number = 0; entry = i }
          given p =
              let z : steps ≡ i = (steps_iff first c i first< c<).1 (omega (arith, p.0), p.1) in
              lookup_yes (omega (arith, p.0)) ∙ rw z

      no_go : (t : Bool) → ltb steps n ≡ t → entry_bearing first n c ≡ record { number = 30; entry = 0 } → (i : ℕ) → i < n → (first + i) % counter_limit ≡ c → ⊥
      no_go true e h i l b = let z : ◌≡◌ {A = ℕ} 0 30 = ap (λ (r : Lookup). r.number) (sym (lookup_yes (ltb-true steps n e)) ∙ h) in omega arith
      no_go false e h i l b = omega (arith, ltb-false steps n e, (steps_iff first c i first< c<).1 (omega arith, b))

      some_go : (t : Bool) → ltb steps n ≡ t → ((i : ℕ) → i < n → (first + i) % counter_limit ≡ c → ⊥) → entry_bearing first n c ≡ record { number = 30; entry = 0 }
      some_go true e none = absurd (let y = ltb-true steps n e in none steps y ((steps_iff first c steps first< c<).0 refl).1)
      some_go false e none = lookup_no (ltb-false steps n e)

      -- Question 30 gets a no exactly where no entry bears the counter.
      pub lookup_30 : (entry_bearing first n c ≡ record { number = 30; entry = 0 }) ↔ ((i : ℕ) → i < n → (first + i) % counter_limit ≡ c → ⊥)
      lookup_30 = (no_go (ltb steps n) refl, some_go (ltb steps n) refl)

-- At most 512 entries means that at most one bears a counter.
pub lookup_one : (first n c i j : ℕ) → n ≤ entry_limit → i < n → j < n → (first + i) % counter_limit ≡ c → (first + j) % counter_limit ≡ c → i ≡ j
lookup_one first n c i j limit hi hj e f = omega arith

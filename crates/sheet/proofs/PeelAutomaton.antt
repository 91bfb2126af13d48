-- The last lines are an M line and its G lines: they pass, and the table without them is one that lines have built.
use Prim.Native.Nat.{ℕ, zero, suc, ◌+◌, ◌*◌, ◌-◌, ◌/◌, ◌%◌, ◌^◌, ◌≤◌, ◌<◌}
use mathlib.Core.Path.{◌≡◌, refl, ap, sym, ◌∙◌}
use mathlib.Core.List.{List, [], ◌∷◌, ◌++◌}
use mathlib.Core.Bool.{Bool, true, false}
use mathlib.Core.Logic.{◌⊎◌, inl, inr, ⊎_elim}
use native.Mathlib.Nat.{eq-or-lt_of_le, div-eq_of_lt, mod-lt, mod-eq_of_lt, le_of_lt}
use native.Mathlib.Omega.{arith}
use lib.ListN.{length, get_or, set, length-set, length-append}
use lib.Seq.{get_or-set_same, get_or-set_other, set-set, set-get_or}
use lib.Pow.{pow_pos, mod-pow-add}
use borrow.Author.Tests.{lt-ltb, le-leb}
use Rattle.aldlf.specs.Constants.{letter_m, letter_g}
use Rattle.aldlf.specs.Sheet.{bit, no_automaton}
use Rattle.aldlf.specs.declared.NodeLine.{NodeLine}
use Rattle.aldlf.specs.declared.Automaton.{Automaton}
use Rattle.aldlf.specs.declared.Table.{Table}
use Rattle.text.specs.Text.{not_number}
use Rattle.sheet.specs.declared.line.Line.{Line}
use Rattle.sheet.specs.declared.build.Reading.{Reading}
use Rattle.sheet.specs.Ranges.{is_of_kind, kinds, first_wrong, out_of_range}
use Rattle.sheet.specs.Questions.{known_line, all_numbers, room_left, belongs, last, newly_accepting, plain_step, question, with_automaton, accepting_by, with_accepting, added}
use Rattle.sheet.specs.Given.{edges_before, nodes_before}
use Rattle.sheet.proofs.Bools.{same}
use Rattle.sheet.proofs.Fits.{edges_last, nodes_last}
use Rattle.sheet.proofs.Asked.{question_passes}
use Rattle.sheet.proofs.Added.{line_M, line_G}
use Rattle.sheet.proofs.Print.{Canon}
use Rattle.sheet.proofs.Reach.{next}
use Rattle.sheet.proofs.Grown.{NodeOk, node, auto, Grown, mk, ok_t, ok_f, ok_p, ok_n, ok_a, ok_o, ok_d, ok_b}
use Rattle.sheet.proofs.PeelNode.{Built, weaken}

two : (n : ℕ) → (n % 2 ≡ 0) ⊎ (n % 2 ≡ 1)
two n = ⊎_elim (λ (e : n % 2 ≡ 0). inl e) (λ f. inr (omega arith)) (same (n % 2) 0)

-- an automaton with other accepting states
abbrev accept : Automaton → ℕ → Automaton
accept x w = record { states = x.states; start = x.start; accepting = w; first = x.first; count = x.count; before = x.before }

pub m_line : Automaton → Line
m_line x = record { letter = letter_m; count = 2; a = x.states; b = x.start.0; c = 0; d = 0 }

pub g_line : ℕ → Line
g_line s = record { letter = letter_g; count = 1; a = s; b = 0; c = 0; d = 0 }

m_passes : (r : Reading) (x : Automaton) → r.table.used.automata < 16 → 1 ≤ x.states → x.states ≤ 16 → x.start.0 < x.states → (question r (m_line x)).number ≡ 0
unfolding known_line all_numbers room_left belongs out_of_range kinds is_of_kind first_wrong newly_accepting plain_step m_line
m_passes r x h some_state states≤ st =
    question_passes r (m_line x) refl
    (rw (lt-ltb x.states not_number (omega arith), lt-ltb x.start.0 not_number (omega arith)))
    (lt-ltb r.table.used.automata 16 h)
    refl
    (simp (le-leb 1 x.states some_state, le-leb x.states 16 states≤, lt-ltb x.start.0 x.states st))
    refl
    refl

m_canon : (x : Automaton) → x.states ≤ 16 → x.start.0 < x.states → Canon (m_line x)
unfolding m_line
m_canon x states≤ st =
    record {
      shape = record { a0 = λ h. absurd (omega arith); b0 = λ h. absurd (omega arith); c0 = λ h. refl; d0 = λ h. refl; few = omega arith };
      four = omega arith;
      a< = omega arith;
      b< = omega arith;
      c< = omega arith;
      d< = omega arith;
      parted = omega arith;
      ended = omega arith;
      byte = omega arith;
    }

g_passes : (r : Reading) (s : ℕ) → r.inside ≡ true → s < (last r.table).states → s < not_number → bit (last r.table).accepting s ≡ false → (question r (g_line s)).number ≡ 0
unfolding known_line all_numbers room_left belongs out_of_range kinds is_of_kind first_wrong newly_accepting plain_step g_line
g_passes r s i h w z =
    question_passes r (g_line s) refl (rw (lt-ltb s not_number w)) refl i (rw (lt-ltb s (last r.table).states h)) (rw z) refl

g_canon : (s : ℕ) → s < 16 → Canon (g_line s)
unfolding g_line
g_canon s h =
    record {
      shape = record { a0 = λ h. absurd (omega arith); b0 = λ h. refl; c0 = λ h. refl; d0 = λ h. refl; few = omega arith };
      four = omega arith;
      a< = omega arith;
      b< = omega arith;
      c< = omega arith;
      d< = omega arith;
      parted = omega arith;
      ended = omega arith;
      byte = omega arith;
    }

less : (ac j : ℕ) (ms : List Automaton) (i a : ℕ) → ac ≤ j + 1 → i < (get_or ms j no_automaton).before → a < ac → (get_or ms a no_automaton).before ≤ i → a < j
less ac j ms i a h w p n = ⊎_elim (λ (e : a ≡ j). absurd (let z = ap (λ (k : ℕ). (get_or ms k no_automaton).before) e in omega arith)) (λ (k : a < j). k) (eq-or-lt_of_le {n = a} {m = j} (omega arith))

node_less : (ac j : ℕ) (ms ms' : List Automaton) (i : ℕ) (x : NodeLine) → ac ≤ j + 1 → i < (get_or ms j no_automaton).before → ((m : ℕ) → m < j → get_or ms' m no_automaton ≡ get_or ms m no_automaton) → NodeOk ac ms i x → NodeOk j ms' i x
node_less ac j ms ms' i x h w f (ok_t e p q) = ok_t e p q
node_less ac j ms ms' i x h w f (ok_f e p q) = ok_f e p q
node_less ac j ms ms' i x h w f (ok_p e p q) = ok_p e p q
node_less ac j ms ms' i x h w f (ok_n e p q) = ok_n e p q
node_less ac j ms ms' i x h w f (ok_a e p q) = ok_a e p q
node_less ac j ms ms' i x h w f (ok_o e p q) = ok_o e p q
node_less ac j ms ms' i x h w f (ok_d e p n q) = ok_d e (less ac j ms i x.a h w p n) (rw (f x.a (less ac j ms i x.a h w p n)) n) q
node_less ac j ms ms' i x h w f (ok_b e p n q) = ok_b e (less ac j ms i x.a h w p n) (rw (f x.a (less ac j ms i x.a h w p n)) n) q

module _ (t : Table) (g : Grown t true) (h : (last t).count ≡ 0) where
  some : 1 ≤ t.used.automata
  some = (g.inside refl).0

  pub ms' : List Automaton
  ms' = set t.automata (t.used.automata - 1) no_automaton

  unfoldable pub less_auto : Table
  less_auto = mk t.nodes ms' t.edges t.used.nodes (t.used.automata - 1) t.used.edges

  at_other : (m : ℕ) → (m ≡ t.used.automata - 1 → ⊥) → get_or ms' m no_automaton ≡ auto t m
  unfolding ms'
  at_other m f = get_or-set_other t.automata (t.used.automata - 1) m no_automaton no_automaton f

  first_X : (last t).first ≡ t.used.edges
  first_X = omega (arith, edges_last t.automata t.used.automata some, g.total)

  nb_X : (last t).before ≡ t.used.nodes
  nb_X = sym (nodes_last t.automata t.used.automata some) ∙ (g.inside refl).1

  before_same : (m : ℕ) → m ≤ t.used.automata - 1 → edges_before ms' m ≡ edges_before t.automata m
  before_same zero w = refl
  before_same (suc m) w = ap (λ (a : Automaton). a.first + a.count) (at_other m (omega arith))

  below_same : (m : ℕ) → m ≤ t.used.automata - 1 → nodes_before ms' m ≡ nodes_before t.automata m
  below_same zero w = refl
  below_same (suc m) w = ap (λ (a : Automaton). a.before) (at_other m (omega arith))

  pub less_auto_grown : (b : Bool) → (b ≡ true → (1 ≤ t.used.automata - 1) × (nodes_before t.automata (t.used.automata - 1) ≡ t.used.nodes))
      → (b ≡ false → (m : ℕ) → m < t.used.automata - 1 → (auto t m).before < t.used.nodes) → Grown less_auto b
  unfolding less_auto ms'
  less_auto_grown b fi fo =
      let J = t.used.automata - 1 in
      record {
        nodes_long = g.nodes_long;
        automata_long = length-set t.automata J no_automaton ∙ g.automata_long;
        edges_long = g.edges_long;
        nodes≤ = g.nodes≤;
        automata≤ = omega (arith, g.automata≤);
        edges≤ = g.edges≤;
        nodes = λ i w. node_less t.used.automata J t.automata ms' i (node t i) (omega (arith, some)) (omega (arith, nb_X)) (λ m p. at_other m (omega arith)) (g.nodes i w);
        no_nodes = g.no_nodes;
        automata = λ m w. rw (before_same m (omega arith), below_same m (omega arith), at_other m (omega arith)) (g.automata m (omega arith));
        no_automata = λ m w.
            ⊎_elim (λ (e : J ≡ m). rw (← e) (get_or-set_same t.automata J no_automaton no_automaton (omega (arith, some, g.automata≤, g.automata_long))))
            (λ (q : J < m). at_other m (omega arith) ∙ g.no_automata m (omega arith))
            (eq-or-lt_of_le w);
        edges = λ m w e lo hi.
            let at = at_other m (omega arith) in
            let a1 = ap (λ (a : Automaton). a.first) at in
            let a2 = ap (λ (a : Automaton). a.count) at in
            rw at (g.edges m (omega arith) e (omega arith) (omega arith));
        no_edges = g.no_edges;
        total = before_same J (omega arith) ∙ sym (g.automata J (omega (arith, some))).first≡ ∙ first_X;
        inside = λ q. ((fi q).0, below_same J (omega arith) ∙ (fi q).1);
        outside = λ q m w. rw (at_other m (omega arith)) (fo q m w);
      }

  with_acc : ℕ → Table
  with_acc w = mk t.nodes (set t.automata (t.used.automata - 1) (accept (last t) w)) t.edges t.used.nodes t.used.automata t.used.edges

  at_acc : (w : ℕ) → last (with_acc w) ≡ accept (last t) w
  unfolding with_acc
  at_acc w = get_or-set_same t.automata (t.used.automata - 1) (accept (last t) w) no_automaton (omega (arith, some, g.automata≤, g.automata_long))

  whole_acc : with_acc (last t).accepting ≡ t
  unfolding with_acc
  whole_acc = ap (λ (ms : List Automaton). mk t.nodes ms t.edges t.used.nodes t.used.automata t.used.edges) (set-get_or t.automata (t.used.automata - 1) no_automaton)

  more_M : with_automaton less_auto (m_line (last t)) ≡ with_acc 0
  unfolding with_automaton less_auto ms' with_acc m_line
  more_M =
      let J = t.used.automata - 1 in
      let X = last t in
      let e : J + 1 ≡ t.used.automata = omega (arith, some) in
      let fill : ℕ → ℕ → ℕ → Automaton = λ f c b. record { states = X.states; start = X.start; accepting = 0; first = f; count = c; before = b } in
      let tab : Automaton → ℕ → Table = λ a n. mk t.nodes (set (set t.automata J no_automaton) J a) t.edges t.used.nodes n t.used.edges in
      ap (λ (f : ℕ). tab (fill f 0 t.used.nodes) (J + 1)) (sym first_X)
      ∙ ap (λ (c : ℕ). tab (fill X.first c t.used.nodes) (J + 1)) (sym h)
      ∙ ap (λ (b : ℕ). tab (fill X.first X.count b) (J + 1)) (sym nb_X)
      ∙ ap (λ (n : ℕ). tab (accept X 0) n) e
      ∙ ap (λ (ms : List Automaton). mk t.nodes ms t.edges t.used.nodes t.used.automata t.used.edges) (set-set t.automata J no_automaton (accept X 0))

  more_G : (w s : ℕ) → with_accepting (with_acc w) (g_line s) ≡ with_acc (w + 2 ^ s)
  unfolding with_accepting with_acc g_line
  more_G w s =
      ap (λ (a : Automaton). accepting_by a (2 ^ s) (with_acc w)) (at_acc w)
      ∙ ap (λ (ms : List Automaton). mk t.nodes ms t.edges t.used.nodes t.used.automata t.used.edges) (set-set t.automata (t.used.automata - 1) (accept (last t) w) (accept (last t) (w + 2 ^ s)))

  build_M : (b : Bool) (m : ℕ) → Built less_auto b m → Built (with_acc 0) true (m + 1)
  unfolding less_auto added m_line
  build_M b m u =
      let J = t.used.automata - 1 in
      let o = g.automata J (omega (arith, some)) in
      let c : J < 16 = omega (arith, some, g.automata≤) in
      record {
        ls = u.ls ++ (m_line (last t) ∷ []);
        r = added u.r (length u.ls + 1) (m_line (last t));
        way = next u.way (m_canon (last t) o.states≤ o.start<) (m_passes u.r (last t) (rw u.same c) o.some_state o.states≤ o.start<);
        same = sym (line_M u.r.table (m_line (last t)) refl) ∙ ap (λ (y : Table). with_automaton y (m_line (last t))) u.same ∙ more_M;
        flag = refl;
        short = omega (arith, length-append u.ls (m_line (last t) ∷ []), u.short);
      }

  add_G : (w s m : ℕ) → w < 2 ^ s → s < (last t).states → Built (with_acc w) true m → Built (with_acc (w + 2 ^ s)) true (m + 1)
  unfolding added g_line
  add_G w s m k l u =
      let o = g.automata (t.used.automata - 1) (omega (arith, some)) in
      let l1 : s < (last (with_acc w)).states = rw (at_acc w) l in
      let b1 : bit (last (with_acc w)).accepting s ≡ false = rw (at_acc w, div-eq_of_lt k) in
      record {
        ls = u.ls ++ (g_line s ∷ []);
        r = added u.r (length u.ls + 1) (g_line s);
        way = next u.way (g_canon s (omega (arith, o.states≤))) (g_passes u.r s u.flag (rw u.same l1) (omega (arith, o.states≤)) (rw u.same b1));
        same = sym (line_G u.r.table (g_line s) refl) ∙ ap (λ (y : Table). with_accepting y (g_line s)) u.same ∙ more_G w s;
        flag = refl;
        short = omega (arith, length-append u.ls (g_line s ∷ []), u.short);
      }

  zero_G : (m : ℕ) → Built (with_acc 0) true m → Built (with_acc ((last t).accepting % 2 ^ 0)) true (m + 0)
  zero_G m u = let e : (last t).accepting % 2 ^ 0 ≡ 0 = omega arith in rw e (weaken (m + 0) (omega arith) u)

  next_G : (m s : ℕ) → s < (last t).states → Built (with_acc ((last t).accepting % 2 ^ s)) true (m + s) → Built (with_acc ((last t).accepting % 2 ^ suc s)) true (m + suc s)
  next_G m s l i =
      let a = (last t).accepting in
      let w = a % 2 ^ s in
      let e0 : 1 + s ≡ suc s = omega arith in
      let e : a % 2 ^ suc s ≡ a / 2 ^ s % 2 * 2 ^ s + w = ap (λ (n : ℕ). a % 2 ^ n) (sym e0) ∙ mod-pow-add a 1 s in
      let lt : w < 2 ^ s = mod-lt a (pow_pos s) in
      ⊎_elim
      (λ (z : a / 2 ^ s % 2 ≡ 0). let f : a % 2 ^ suc s ≡ w = e ∙ ap (λ (n : ℕ). n * 2 ^ s + w) z ∙ omega arith in rw f (weaken (m + suc s) (omega arith) i))
      (λ (z : a / 2 ^ s % 2 ≡ 1). let f : a % 2 ^ suc s ≡ w + 2 ^ s = e ∙ ap (λ (n : ℕ). n * 2 ^ s + w) z ∙ omega arith in rw f (weaken (m + suc s) (omega arith) (add_G w s (m + s) lt l i)))
      (two (a / 2 ^ s))

  build_G : (m s : ℕ) → s ≤ (last t).states → Built (with_acc 0) true m → Built (with_acc ((last t).accepting % 2 ^ s)) true (m + s)
  build_G m zero l u = zero_G m u
  build_G m (suc s) l u = next_G m s l (build_G m s (le_of_lt l) u)

  pub build_auto : (b : Bool) (m : ℕ) → Built less_auto b m → Built t true (m + 17)
  build_auto b m u =
      let o = g.automata (t.used.automata - 1) (omega (arith, some)) in
      let v = build_G (m + 1) (last t).states (omega arith) (build_M b m u) in
      let e : (last t).accepting % 2 ^ (last t).states ≡ (last t).accepting = mod-eq_of_lt o.accepting< in
      let y : Built (with_acc (last t).accepting) true (m + 1 + (last t).states) = rw e at v in
      let z : Built t true (m + 1 + (last t).states) = rw whole_acc at y in
      weaken (m + 17) (omega (arith, o.states≤)) z

-- The start of the search: the goals are at distance 0 and in the queue.
use mathlib.Core.Path.{◌≡◌, refl, ap, ap₂, sym, ◌∙◌, subst₃}
use mathlib.Core.List.{List, [], ◌∷◌}
use mathlib.Core.Bool.{Bool, true, false, ◌&&◌, false≢true}
use mathlib.Core.Logic.{⊎_elim}
use Prim.Native.Nat.{ℕ, suc, ◌+◌, ◌-◌, ◌*◌, ◌%◌, ◌^◌, ◌≤◌, ◌<◌}
use native.Mathlib.Nat.{not-suc-le-zero, zero-div}
use native.Mathlib.Numerals.{add-one}
use native.Mathlib.Omega.{arith}
use lib.Arith.{digits_div, digits_mod}
use lib.Dec.{eqb}
use lib.ListN.{length, set, length-set}
use lib.Seq.{get_or-set_same, get_or-set_other}
use Rattle.aldlf.specs.Sheet.{bit}
use Rattle.aldlf.specs.Verdict.{facing}
use Rattle.aldlf.specs.declared.Automaton.{Automaton}
use Rattle.aldlf.proofs.Bools.{lt-or-le}
use Rattle.graph.specs.Graph.{Graph, Walk, far, at}
use Rattle.graph.specs.Configurations.{pick_nat}
use Rattle.graph.proofs.Cases.{split}
use Rattle.shortest.specs.declared.Goal.{Goal}
use Rattle.shortest.specs.Goals.{goal_at, goals_in}
use Rattle.shortest.specs.Progress.{Progress, Seeded, Put, zero_in}
use Rattle.shortest.specs.Descent.{Distances}
use Rattle.shortest.proofs.Marked.{marked_none, marked_set}

pub seeded_none : (goal : ℕ → Bool) (D Q : List ℕ) → ((i : ℕ) → i < length D → at D i ≡ far) → Seeded goal D Q 0 0
seeded_none goal D Q f =
    record {
      few = omega arith;
      set_to = λ i l. absurd (not-suc-le-zero l);
      rest = λ i l. f i;
      counted = marked_none D f;
      placed = λ i l. absurd (not-suc-le-zero l);
      queued = λ i l. absurd (not-suc-le-zero l);
    }

-- configurations that are no goals are left as they are
pub seeded_skip : (goal : ℕ → Bool) (D Q : List ℕ) (c c2 t : ℕ) → c ≤ c2 → c2 ≤ length D → ((i : ℕ) → c ≤ i → i < c2 → goal i ≡ false) → Seeded goal D Q c t → Seeded goal D Q c2 t
seeded_skip goal D Q c c2 t le in-dist none s =
    record {
      few = let a = s.few in omega arith;
      set_to = λ i l.
          ⊎_elim (λ lt. s.set_to i lt) (λ ge. s.rest i ge (omega arith) ∙ sym (ap (λ (b : Bool). pick_nat b 0 far) (none i ge l))) (lt-or-le i c);
      rest = λ i l. s.rest i (omega arith);
      counted = s.counted;
      placed = λ i l. let o = s.placed i l in (let a = o.0 in omega arith, o.1);
      queued = λ i l g. ⊎_elim (λ lt. s.queued i lt g) (λ ge. absurd (false≢true (sym (none i ge l) ∙ g))) (lt-or-le i c);
    }

module _
    (goal : ℕ → Bool)
    (D Q : List ℕ)
    (c t : ℕ)
    (s : Seeded goal D Q c t)
    (cin : c < length D)
    (room : t < length Q) where
  seeded_goal : goal c ≡ true → Seeded goal (set D c 0) (set Q t c) (c + 1) (t + 1)
  seeded_goal g =
      record {
        few = let a = s.few in omega arith;
        set_to = λ i l.
            ⊎_elim
            (λ q. ap (at (set D c 0)) q ∙ (get_or-set_same D c 0 0 cin ∙ sym (ap (λ (b : Bool). pick_nat b 0 far) (ap goal q ∙ g))))
            (λ lt. get_or-set_other D c i 0 0 (omega arith) ∙ s.set_to i lt)
            (split i c l);
        rest = λ i l il. get_or-set_other D c i 0 0 (omega arith) ∙ s.rest i (omega arith) (omega (arith, length-set D c 0));
        counted = marked_set D c 0 cin (s.rest c (omega arith) cin) (λ e. omega arith) ∙ (ap suc s.counted ∙ sym (add-one t));
        placed =
            λ i l.
            ⊎_elim
            (λ e.
            let q : at (set Q t c) i ≡ c = ap (at (set Q t c)) e ∙ get_or-set_same Q t c 0 room in
            (omega arith, ap goal q ∙ g))
            (λ lt.
            let q : at (set Q t c) i ≡ at Q i = get_or-set_other Q t i c 0 (omega arith) in
            let o = s.placed i lt in
            (let a = o.0 in omega arith, ap goal q ∙ o.1))
            (split i t l);
        queued =
            λ i l gi.
            ⊎_elim (λ e. (t, omega arith, get_or-set_same Q t c 0 room ∙ sym e))
            (λ lt.
            let o = s.queued i lt gi in
            (o.0, let a = o.1 in omega arith, get_or-set_other Q t o.0 c 0 (let a = o.1 in omega arith) ∙ o.2))
            (split i c l);
      }

  seeded_other : goal c ≡ false → Seeded goal D Q (c + 1) t
  seeded_other g = seeded_skip goal D Q c (c + 1) t (omega arith) (omega arith) (λ i a b. let e : i ≡ c = omega arith in ap goal e ∙ g) s

  pub seeded_more : (b : Bool) → goal c ≡ b → (D2 Q2 : List ℕ) (t2 : ℕ) → Put D Q b c t D2 Q2 t2 → Seeded goal D2 Q2 (c + 1) t2
  seeded_more true g D2 Q2 t2 p = subst₃ (λ (x y : List ℕ) (z : ℕ). Seeded goal x y (c + 1) z) (sym p.dist) (sym p.queue) (sym p.tail) (seeded_goal g)
  seeded_more false g D2 Q2 t2 p = subst₃ (λ (x y : List ℕ) (z : ℕ). Seeded goal x y (c + 1) z) (sym p.dist) (sym p.queue) (sym p.tail) (seeded_other g)

-- at most one more in the queue
pub put_few : (D Q : List ℕ) (b : Bool) (c t : ℕ) (D2 Q2 : List ℕ) (t2 : ℕ) → Put D Q b c t D2 Q2 t2 → t2 ≤ t + 1
put_few D Q true c t D2 Q2 t2 p = omega (arith, p.tail)
put_few D Q false c t D2 Q2 t2 p = omega (arith, p.tail)

-- no state is a goal where none is in the mask
pub seeded_empty : (goal : ℕ → Bool) (D Q : List ℕ) (goals states base t : ℕ) → goals ≡ 0 → base + states ≤ length D → ((s : ℕ) → s < states → goal (base + s) ≡ bit goals s)
    → Seeded goal D Q base t → Seeded goal D Q (base + states) t
seeded_empty goal D Q goals states base t z l same s =
    seeded_skip goal D Q base (base + states) t (omega arith) l
    (λ i a b.
    let e : i ≡ base + (i - base) = omega arith in
    ap goal e ∙ (same (i - base) (omega arith) ∙ (ap (λ (x : ℕ). bit x (i - base)) z ∙ ap (λ (x : ℕ). eqb (x % 2) 1) (zero-div (2 ^ (i - base))))))
    s

-- the goals of an entry are the bits of its mask
goals_bit : (accepts wanted : Bool) (accepting s : ℕ) → bit accepting s ≡ accepts → accepts && wanted ≡ bit (pick_nat wanted accepting 0) s
goals_bit true true accepting s e = sym e
goals_bit false true accepting s e = sym e
goals_bit true false accepting s e = sym (ap (λ (x : ℕ). eqb (x % 2) 1) (zero-div (2 ^ s)))
goals_bit false false accepting s e = sym (ap (λ (x : ℕ). eqb (x % 2) 1) (zero-div (2 ^ s)))

pub goal-bit : (words : List ℕ) (q : Automaton) (goal : Goal) (j s : ℕ) → s < q.states
    → goal_at words q goal (j * q.states + s) ≡ bit (goals_in (at words j) q.accepting goal) s
unfolding goal_at
goal-bit words q goal j s l =
    ap₂ (λ (x y : ℕ). bit q.accepting x && facing goal.want (bit (at words y) goal.node.0)) (digits_mod j l) (digits_div j l)
    ∙ goals_bit (bit q.accepting s) (facing goal.want (bit (at words j) goal.node.0)) q.accepting s refl

pick_range : (b : Bool) (x : ℕ) → x ≡ pick_nat b 0 far → x ≤ far
pick_range true x e = omega arith
pick_range false x e = omega arith

-- all are seeded: the search begins
module _
    (G : Graph)
    (goal : ℕ → Bool)
    (D Q : List ℕ)
    (t : ℕ)
    (whole : length D ≡ G.size)
    (room : G.size ≤ length Q)
    (fits : G.size ≤ 8192)
    (s : Seeded goal D Q G.size t) where
  is_goal : (i : ℕ) → i < G.size → at D i < far → goal i ≡ true
  is_goal i l m = go (goal i) refl
    where
      go : (b : Bool) → goal i ≡ b → goal i ≡ true
      go true g = g
      go false g = absurd (let e : at D i ≡ far = s.set_to i l ∙ ap (λ (b : Bool). pick_nat b 0 far) g in omega arith)

  at_zero : (i : ℕ) → i < G.size → goal i ≡ true → at D i ≡ 0
  at_zero i l g = s.set_to i l ∙ ap (λ (b : Bool). pick_nat b 0 far) g

  zero_of : (i : ℕ) → i < t → at D (at Q i) ≡ 0
  zero_of i l = let o = s.placed i l in at_zero (at Q i) o.0 o.1

  pub begun : Progress G (zero_in D) D Q 0 G.first t
  begun =
      record {
        whole = whole;
        room = room;
        fits = fits;
        head = omega arith;
        counted = s.counted;
        placed = λ i l. (s.placed i l).0;
        short = λ i l. omega (arith, zero_of i l);
        queued = λ c l m. s.queued c l (is_goal c l m);
        rising = λ i j ij l. omega (arith, zero_of i (omega arith), zero_of j l);
        near = λ h i l. omega (arith, zero_of i l);
        walked = λ c l m. let z = at_zero c l (is_goal c l m) in ([], z, sym z);
        goals = λ c l z. z;
        closed = λ i e p l st. absurd (not-suc-le-zero l);
        partly = λ h e p l st. absurd (let a = st.from_first in omega arith);
        ranged = λ c l. pick_range (goal c) (at D c) (s.set_to c l);
      }

  pub goal_zero : (i : ℕ) → i < G.size → zero_in D i → goal i ≡ true
  goal_zero i l z = is_goal i l (let y : at D i ≡ 0 = z in omega arith)

  pub zero_goal : (i : ℕ) → i < G.size → goal i ≡ true → zero_in D i
  zero_goal i l g = at_zero i l g

-- other words for the goals
module _ (G : Graph) (A B : ℕ → Type 0) (to : (i : ℕ) → i < G.size → A i → B i) (back : (i : ℕ) → i < G.size → B i → A i) where
  walk_to : (w : List ℕ) (c : ℕ) → c < G.size → Walk G A w c → Walk G B w c
  walk_to [] c l a = to c l a
  walk_to (e ∷ w) c l v = (v.0, v.1, walk_to w v.0 v.1.target_in v.2)

  walk_back : (w : List ℕ) (c : ℕ) → c < G.size → Walk G B w c → Walk G A w c
  walk_back [] c l a = back c l a
  walk_back (e ∷ w) c l v = (v.0, v.1, walk_back w v.0 v.1.target_in v.2)

  pub distances_to : (D : List ℕ) (c : ℕ) → c < G.size → Distances G A D c → Distances G B D c
  distances_to D c cin d =
      record {
        whole = d.whole;
        walked = λ p l m. let v = d.walked p l m in (v.0, walk_to v.0 p l v.1, v.2);
        least = λ w p l v. d.least w p l (walk_back w p l v);
        reached = λ w v. d.reached w (walk_back w c cin v);
      }

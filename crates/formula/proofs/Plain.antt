-- Question 9 on a made table: a formula without path marks has a plain node, by induction over it, and lines that are added later change nothing of that.
use Prim.Native.Nat.{ℕ, suc, ◌+◌, ◌≤◌, ◌<◌}
use native.Mathlib.Omega.{arith}
use mathlib.Core.Path.{◌≡◌, refl, ap, sym, subst, ◌∙◌}
use mathlib.Core.List.{List}
use mathlib.Core.Bool.{Bool, true, false, ◌&&◌}
use lib.ListN.{length, get_or, take, drop, set, length-set, replicate, take-append-drop}
use lib.Seq.{get_or-set_same, length-take-le, take-set-le}
use Rattle.aldlf.specs.Constants.{node_limit, letter_t, letter_p, letter_n, letter_a, letter_o}
use Rattle.aldlf.specs.Sheet.{Dir, ahead, back, stay, no_line}
use Rattle.aldlf.specs.declared.NodeLine.{NodeLine}
use Rattle.aldlf.specs.declared.Table.{Table}
use Rattle.sheet.specs.Questions.{plain_node, plain_from, plains, with_node}
use Rattle.sheet.proofs.Asked.{from_length, plains_on}
use Rattle.sheet.proofs.Bools as bools
use Rattle.sheet.proofs.Plain.{from_append, from_keep, plain_set}
use Rattle.formula.specs.Formula.{Formula, always, fact, neg, both, either, some, every, Path, step, seq, alt, many}
use Rattle.formula.specs.Numbering.{under, within, dir_number, newest, with_letter, made, made_in}
use Rattle.formula.specs.Outcome.{plain, step_takes, steps_plain, steps_plain_in}
use Rattle.formula.proofs.Making.{Makes, none, letter, path, makes, makes_in, nodes_grow, Sized, sized}
use Rattle.formula.proofs.Counts.{made_adds, in_adds}

-- the flag of a line put in at place n is what the line says of the flags before it, which are those before it already
record Flag (ns : List NodeLine) (n : ℕ) (x : NodeLine) : Type 0 where
  flags : List Bool
  below : (j : ℕ) → j < n → get_or flags j false ≡ get_or (plains ns) j false
  is : get_or (plains (set ns n x)) n false ≡ plain_node flags x

-- flags are found for the lines before place n, then for the others
halves : (ns : List NodeLine) (n : ℕ) → n ≤ length ns → plains ns ≡ plain_from (drop n ns) n (plain_from (take n ns) 0 (replicate node_limit false))
halves ns n h =
    let none = replicate node_limit false in
    let k : 0 + length (take n ns) ≡ n = omega (arith, length-take-le n ns h) in
    ap (λ (l : List NodeLine). plain_from l 0 none) (sym (take-append-drop n ns)) ∙ from_append (take n ns) (drop n ns) 0 none ∙ ap (λ (i : ℕ). plain_from (drop n ns) i (plain_from (take n ns) 0 none)) k

new_flag : (ns : List NodeLine) (n : ℕ) (x : NodeLine) → n < length ns → length ns ≡ node_limit → Flag ns n x
new_flag ns n x h l =
    let none = replicate node_limit false in
    let q = plain_from (take n ns) 0 none in
    let xs = set ns n x in
    let v = plain_node q x in
    let size = length-set ns n x in
    let long = from_length (take n ns) 0 none in
    let start : plain_from (take n xs) 0 none ≡ q = ap (λ (k : List NodeLine). plain_from k 0 none) (take-set-le n ns n x (omega arith)) in
    let on : plains xs ≡ plain_from (drop (n + 1) xs) (n + 1) (set q n v) = halves xs n (omega arith) ∙ ap (plain_from (drop n xs) n) start ∙ plains_on xs n q (omega arith)
    ∙ ap (λ (y : NodeLine). plain_from (drop (n + 1) xs) (n + 1) (set q n (plain_node q y))) (get_or-set_same ns n x no_line h) in
    record {
      flags = q;
      below = λ j m. sym (ap (λ (k : List Bool). get_or k j false) (halves ns n (omega arith)) ∙ from_keep (drop n ns) n j q false m);
      is = ap (λ (k : List Bool). get_or k n false) on ∙ from_keep (drop (n + 1) xs) (n + 1) n (set q n v) false (omega arith) ∙ get_or-set_same q n v false (omega arith);
    }

-- one line more keeps the flags before it, and so do all lines of a formula
kept_letter : (t : Table) (l a b j : ℕ) → j < t.used.nodes → Sized t → t.used.nodes < node_limit → get_or (plains (with_letter t l a b).nodes) j false ≡ get_or (plains t.nodes) j false
unfolding with_node
kept_letter t l a b j h z r = plain_set t.nodes t.used.nodes j _ _ h (let q = z.nodes in omega arith)

kept : {t u : Table} → Makes t u → (j : ℕ) → j < t.used.nodes → Sized t → u.used.nodes ≤ node_limit → get_or (plains u.nodes) j false ≡ get_or (plains t.nodes) j false
unfolding with_node
kept none j h z r = refl
kept (letter s l x y) j h z r = kept_letter _ l x y j (omega (arith, nodes_grow s)) (sized s z) (omega arith) ∙ kept s j h z (omega arith)
kept (path s k p) j h z r = kept s j h z r

-- the flag of a new T or P, N, A or O line
flag_leaf : (t : Table) (l a b : ℕ) → Sized t → t.used.nodes < node_limit → ((fs : List Bool) → plain_node fs (record { kind = l; a = a; b = b }) ≡ true) → get_or (plains (with_letter t l a b).nodes) t.used.nodes false ≡ true
unfolding with_node
flag_leaf t l a b z r f = let q = z.nodes in let v = new_flag t.nodes t.used.nodes (record { kind = l; a = a; b = b }) (omega arith) q in v.is ∙ f v.flags

flag_neg : (t : Table) (a : ℕ) → Sized t → t.used.nodes < node_limit → a < t.used.nodes → get_or (plains t.nodes) a false ≡ true
    → get_or (plains (with_letter t letter_n a 0).nodes) t.used.nodes false ≡ true
unfolding with_node
flag_neg t a z r l h =
    let q = z.nodes in
    let v = new_flag t.nodes t.used.nodes (record { kind = letter_n; a = a; b = 0 }) (omega arith) q in
    v.is ∙ v.below a l ∙ h

flag_two : (t : Table) (k a b : ℕ) → Sized t → t.used.nodes < node_limit → a < t.used.nodes → b < t.used.nodes → get_or (plains t.nodes) a false ≡ true → get_or (plains t.nodes) b false ≡ true
    → ((fs : List Bool) → plain_node fs (record { kind = k; a = a; b = b }) ≡ (get_or fs a false && get_or fs b false)) → get_or (plains (with_letter t k a b).nodes) t.used.nodes false ≡ true
unfolding with_node
flag_two t k a b z r l m h g f =
    let q = z.nodes in
    let v = new_flag t.nodes t.used.nodes (record { kind = k; a = a; b = b }) (omega arith) q in
    let x : get_or v.flags a false ≡ true = v.below a l ∙ h in
    let y : get_or v.flags b false ≡ true = v.below b m ∙ g in
    v.is ∙ f v.flags ∙ rw (x, y) refl

-- the node of `&` or `|` on two plain nodes
plain_two : (k : ℕ) → ((fs : List Bool) (x y : ℕ) → plain_node fs (record { kind = k; a = x; b = y }) ≡ (get_or fs x false && get_or fs y false)) → (a b : Formula) (t : Table) → Sized t
    → (made b (made a t)).used.nodes < node_limit → get_or (plains (made a t).nodes) (t.used.nodes + under a) false ≡ true → get_or (plains (made b (made a t)).nodes) ((made a t).used.nodes + under b) false ≡ true
    → get_or (plains (with_letter (made b (made a t)) k (newest (made a t)) (newest (made b (made a t)))).nodes) (t.used.nodes + (suc (under a) + suc (under b))) false ≡ true
plain_two k f a b t z r h g =
    let u = made a t in
    let v = made b u in
    let c = made_adds a t in
    let d = made_adds b u in
    let y = sized (makes a t) z in
    let n : v.used.nodes ≡ t.used.nodes + (suc (under a) + suc (under b)) = omega arith in
    let i : t.used.nodes + under a ≡ newest u = omega arith in
    let j : u.used.nodes + under b ≡ newest v = omega arith in
    subst (λ (x : ℕ). get_or (plains (with_letter v k (newest u) (newest v)).nodes) x false ≡ true) n
    (flag_two v k (newest u) (newest v) (sized (makes b u) y) r (omega arith) (omega arith)
    (kept (makes b u) (newest u) (omega arith) y (omega arith) ∙ subst (λ (x : ℕ). get_or (plains u.nodes) x false ≡ true) i h)
    (subst (λ (x : ℕ). get_or (plains v.nodes) x false ≡ true) j g) (λ fs. f fs (newest u) (newest v)))

-- A FORMULA WITHOUT PATH MARKS HAS A PLAIN NODE
plain-node : (a : Formula) (t : Table) → plain a ≡ true → Sized t → (made a t).used.nodes ≤ node_limit → get_or (plains (made a t).nodes) (t.used.nodes + under a) false ≡ true
unfolding made with_node
plain-node always t e z r = let k : t.used.nodes + 0 ≡ t.used.nodes = omega arith in rw k (flag_leaf t letter_t 0 0 z (omega arith) (λ fs. refl))
plain-node (fact f) t e z r = let k : t.used.nodes + 0 ≡ t.used.nodes = omega arith in rw k (flag_leaf t letter_p f 0 z (omega arith) (λ fs. refl))
plain-node (neg a) t e z r =
    let u = made a t in
    let c = made_adds a t in
    let i : t.used.nodes + under a ≡ newest u = omega arith in
    subst (λ (y : ℕ). get_or (plains (with_letter u letter_n (newest u) 0).nodes) y false ≡ true) c.nodes
    (flag_neg u (newest u) (sized (makes a t) z) (omega arith) (omega arith) (subst (λ (y : ℕ). get_or (plains u.nodes) y false ≡ true) i (plain-node a t e z (omega arith))))
plain-node (both a b) t e z r =
    let s = bools.both (plain a) (plain b) e in
    let d = made_adds b (made a t) in
    plain_two letter_a (λ fs x y. refl) a b t z (omega arith) (plain-node a t s.0 z (omega arith)) (plain-node b (made a t) s.1 (sized (makes a t) z) (omega arith))
plain-node (either a b) t e z r =
    let s = bools.both (plain a) (plain b) e in
    let d = made_adds b (made a t) in
    plain_two letter_o (λ fs x y. refl) a b t z (omega arith) (plain-node a t s.0 z (omega arith)) (plain-node b (made a t) s.1 (sized (makes a t) z) (omega arith))
plain-node (some p a) t e z r = absurd (let q : ◌≡◌ {A = ℕ} 0 1 = cc in omega arith)
plain-node (every p a) t e z r = absurd (let q : ◌≡◌ {A = ℕ} 0 1 = cc in omega arith)

-- each ahead or back step of a path whose formulas' first node is k tests a plain node
abbrev pub PlainAt : Path → List NodeLine → ℕ → Type 0
PlainAt (step d a) ns k = ¬ (dir_number d ≡ 0) → get_or (plains ns) (k + under a) false ≡ true
PlainAt (seq p q) ns k = PlainAt p ns k × PlainAt q ns (k + within p)
PlainAt (alt p q) ns k = PlainAt p ns k × PlainAt q ns (k + within p)
PlainAt (many p) ns k = PlainAt p ns k

plain_move : (p : Path) (ns ns' : List NodeLine) (k : ℕ) → ((j : ℕ) → j < k + within p → get_or (plains ns') j false ≡ get_or (plains ns) j false) → PlainAt p ns k → PlainAt p ns' k
plain_move (step d a) ns ns' k f h = λ q. f (k + under a) (omega arith) ∙ h q
plain_move (seq p q) ns ns' k f h = (plain_move p ns ns' k (λ j l. f j (omega arith)) h.0, plain_move q ns ns' (k + within p) (λ j l. f j (omega arith)) h.1)
plain_move (alt p q) ns ns' k f h = (plain_move p ns ns' k (λ j l. f j (omega arith)) h.0, plain_move q ns ns' (k + within p) (λ j l. f j (omega arith)) h.1)
plain_move (many p) ns ns' k f h = plain_move p ns ns' k f h

plain_step : (d : Dir) (a : Formula) (t : Table) → step_takes d (plain a) ≡ true → Sized t → (made a t).used.nodes ≤ node_limit → ¬ (dir_number d ≡ 0) → get_or (plains (made a t).nodes) (t.used.nodes + under a) false ≡ true
plain_step stay a t e z r n = absurd (n refl)
plain_step ahead a t e z r n = plain-node a t e z r
plain_step back a t e z r n = plain-node a t e z r

-- the steps of the two sides of `;` and `+`
plain_sides : (p q : Path) (t : Table) → Sized t → (made_in q (made_in p t)).used.nodes ≤ node_limit → PlainAt p (made_in p t).nodes t.used.nodes → PlainAt q (made_in q (made_in p t)).nodes (made_in p t).used.nodes
    → PlainAt p (made_in q (made_in p t)).nodes t.used.nodes × PlainAt q (made_in q (made_in p t)).nodes (t.used.nodes + within p)
plain_sides p q t z r h g =
    let u = made_in p t in
    let c = in_adds p t in (
      plain_move p u.nodes (made_in q u).nodes t.used.nodes (λ j l. kept (makes_in q u) j (omega arith) (sized (makes_in p t) z) r) h,
      subst (λ (k : ℕ). PlainAt q (made_in q u).nodes k) c.nodes g,
    )

pub plain_path : (p : Path) (t : Table) → steps_plain_in p ≡ true → Sized t → (made_in p t).used.nodes ≤ node_limit → PlainAt p (made_in p t).nodes t.used.nodes
unfolding made
plain_path (step d a) t e z r = plain_step d a t (bools.both (step_takes d (plain a)) (steps_plain a) e).0 z r
plain_path (seq p q) t e z r =
    let s = bools.both (steps_plain_in p) (steps_plain_in q) e in
    let d = in_adds q (made_in p t) in
    plain_sides p q t z r (plain_path p t s.0 z (omega arith)) (plain_path q (made_in p t) s.1 (sized (makes_in p t) z) r)
plain_path (alt p q) t e z r =
    let s = bools.both (steps_plain_in p) (steps_plain_in q) e in
    let d = in_adds q (made_in p t) in
    plain_sides p q t z r (plain_path p t s.0 z (omega arith)) (plain_path q (made_in p t) s.1 (sized (makes_in p t) z) r)
plain_path (many p) t e z r = plain_path p t e z r

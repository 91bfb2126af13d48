-- Chains, prefixes, atoms and pieces as laws over plain variables: what the parser's cycle cites.
use Prim.Native.Nat.{ℕ, zero, suc, ◌+◌, ◌-◌, ◌≤◌, ◌<◌}
use mathlib.Core.Path.{◌≡◌, refl, ap, sym, subst, ◌∙◌}
use mathlib.Core.List.{List}
use mathlib.Core.Bool.{Bool, true, false, cond}
use mathlib.Core.Logic.{◌⊎◌, inl, inr}
use native.Mathlib.Omega.{arith}
use lib.ListN.{length}
use lib.Dec.{eqb}
use borrow.Author.Tests.{ne_eqb, eqb-true}
use Rattle.aldlf.specs.Sheet.{ahead, back, stay}
use Rattle.formula.specs.Formula.{Formula, both, either, Path, step, seq, alt}
use Rattle.formula.specs.Parse.{Got, ok, bad, deep, Inner, Held, nothing, held, joined, Prefix, angle, square, map_got, byte, closed, chained, chain, stepped, atom_at, prefix_at, piece_at, outside, inner}
use Rattle.formula.specs.Code.{code_keep, code_and, code_or, code_not, code_begin, code_some, code_every, code_step, code_keep_part, code_seq, code_alt}
use Rattle.parsing.specs.Work.{Work, put, put_if, masked, ended}
use Rattle.parsing.specs.Work as work
use Rattle.parsing.specs.Build.{build, build_in, Seen, got_of, Next, goes, stops, followed, end_of, opened, simple_at, stepped_by}
use Rattle.formula.proofs.Bytes.{byte_there}
use Rattle.parsing.proofs.Laws.{fuel_down, got_ok, got_fail, map_closed}

no : {A : Type 0} → ◌≡◌ {A = ℕ} 0 1 → A
no z = absurd (omega arith)

-- what a success says of what was read
pub data Read {X : Type 0} (mk : X → Work) (p : Seen) : Got X → Type 0 where
  is : {x : X} → p.work ≡ mk x → Read mk p (ok x p.at)

pub read_ok : {X : Type 0} (mk : X → Work) (p : Seen) (g : Got X) → got_of p ≡ map_got mk g → p.number ≡ 0 → Read mk p g
read_ok mk p (ok x to) e z =
    let h : ok p.work p.at ≡ ok (mk x) to = sym (got_ok p z) ∙ e in
    let k : p.at ≡ to = cc in
    subst (λ (n : ℕ). Read mk p (ok x n)) k (is cc)
read_ok mk p (bad to) e z = no (let h = sym (got_ok p z) ∙ e in cc)
read_ok mk p (deep to) e z = no (let h = sym (got_ok p z) ∙ e in cc)

-- a failure, read on
pub data Lost {X Y : Type 0} : Got X → Got Y → Type 0 where
  lost_bad : {to : ℕ} → Lost (bad to) (bad to)
  lost_deep : {to : ℕ} → Lost (deep to) (deep to)

pub read_fail : {X Y : Type 0} (mk : X → Work) (mk' : Y → Work) (p : Seen) (g : Got X) (g' : Got Y) → got_of p ≡ map_got mk g → ¬ (p.number ≡ 0)
    → ((to : ℕ) → g ≡ bad to → g' ≡ bad to) → ((to : ℕ) → g ≡ deep to → g' ≡ deep to) → got_of p ≡ map_got mk' g'
read_fail mk mk' p (ok x to) g' e ne hb hd = go (got_fail p ne)
  where
    go : (got_of p ≡ bad p.at) ⊎ (got_of p ≡ deep p.at) → got_of p ≡ map_got mk' g'
    go (inl h) = no (let k = sym h ∙ e in cc)
    go (inr h) = no (let k = sym h ∙ e in cc)
read_fail mk mk' p (bad to) g' e ne hb hd = e ∙ ap (λ (z : Got _). map_got mk' z) (sym (hb to refl))
read_fail mk mk' p (deep to) g' e ne hb hd = e ∙ ap (λ (z : Got _). map_got mk' z) (sym (hd to refl))

-- where a left side is kept
module _ {X : Type 0} (mk : X → Work → Work) (keep : ℕ) where
  abbrev pub kept : Held X → Work → Work
  kept nothing w = w
  kept (held x) w = put keep (mk x w)

abbrev pub is_held : {X : Type 0} → Held X → Bool
is_held nothing = false
is_held (held x) = true

module _ {X : Type 0} (text : List ℕ) (f g : X → X → X) (b c keep : ℕ) (item : ℕ → Got X) (mk : X → Work → Work) where
  -- where a chain stands: its items so far, and the fuel that is left
  pub record Stands (whole : Got X) (w₀ : Work) (at : ℕ) (w : Work) (second first : Bool) : Type 0 where
    pub o : Held X
    pub a : Held X
    pub n : ℕ
    pub fuel : length text ≤ at + n
    pub state : w ≡ kept mk keep a (kept mk keep o w₀)
    pub before_o : second ≡ is_held o
    pub before_a : first ≡ is_held a
    pub rest : whole ≡ chain text f g b c item (suc n) o a at

  pub chain_starts : (w₀ : Work) (at : ℕ) → Stands (chain text f g b c item (suc (length text)) nothing nothing at) w₀ at w₀ false false
  chain_starts w₀ at = record { o = nothing; a = nothing; n = length text; fuel = omega arith; state = refl; before_o = refl; before_a = refl; rest = refl }

  chain-bad : (n : ℕ) (o a : Held X) (at to : ℕ) → item at ≡ bad to → chain text f g b c item (suc n) o a at ≡ bad to
  unfolding chain
  chain-bad n o a at to e = ap (chained text f g b c (chain text f g b c item n) o a) e

  chain-deep : (n : ℕ) (o a : Held X) (at to : ℕ) → item at ≡ deep to → chain text f g b c item (suc n) o a at ≡ deep to
  unfolding chain
  chain-deep n o a at to e = ap (chained text f g b c (chain text f g b c item n) o a) e

  pub chain_fails : {whole : Got X} {w₀ : Work} {at : ℕ} {w : Work} {second first : Bool} → Stands whole w₀ at w second first → (p : Seen)
      → got_of p ≡ map_got (λ (x : X). mk x w) (item at) → ¬ (p.number ≡ 0) → got_of p ≡ map_got (λ (x : X). mk x w₀) whole
  chain_fails {whole} {w₀} {at} {w} i p e ne =
      read_fail (λ (x : X). mk x w) (λ (x : X). mk x w₀) p (item at) whole e ne
      (λ to h. i.rest ∙ chain-bad i.n i.o i.a at to h)
      (λ to h. i.rest ∙ chain-deep i.n i.o i.a at to h)

  module _ (law-f : (y x : X) (w : Work) → put b (mk x (put keep (mk y w))) ≡ mk (f y x) w) (law-g : (y x : X) (w : Work) → put c (mk x (put keep (mk y w))) ≡ mk (g y x) w)
      (b< : b < 256) (c< : c < 256) where
    join_a : (a : Held X) (x : X) (w : Work) → put_if (is_held a) b (mk x (kept mk keep a w)) ≡ mk (joined f a x) w
    join_a nothing x w = refl
    join_a (held y) x w = law-f y x w

    join_o : (o : Held X) (x : X) (w : Work) → put_if (is_held o) c (mk x (kept mk keep o w)) ≡ mk (joined g o x) w
    join_o nothing x w = refl
    join_o (held y) x w = law-g y x w

    -- what the step after an item comes to
    abbrev pub Outcome : Got X → Work → ℕ → Next → Type 0
    Outcome whole w₀ to (stops v) = ok v to ≡ map_got (λ (x : X). mk x w₀) whole
    Outcome whole w₀ to (goes second first v) = (to < length text) × Stands whole w₀ (to + 1) v second first

    module _ (whole : Got X) (w₀ : Work) (n : ℕ) (o a : Held X) (x : X) (to : ℕ) (w : Work) (second first : Bool)
        (w-is : w ≡ mk x (kept mk keep a (kept mk keep o w₀))) (o_is : second ≡ is_held o) (a-is : first ≡ is_held a)
        (fuel : length text ≤ to + n) (rest : whole ≡ chained text f g b c (chain text f g b c item n) o a (ok x to)) where
      u_is : put_if first b w ≡ mk (joined f a x) (kept mk keep o w₀)
      u_is = ap (λ (z : Bool). put_if z b w) a-is ∙ ap (λ (z : Work). put_if (is_held a) b z) w-is ∙ join_a a x (kept mk keep o w₀)

      v_is : put_if second c (put_if first b w) ≡ mk (joined g o (joined f a x)) w₀
      v_is = ap (λ (z : Bool). put_if z c (put_if first b w)) o_is ∙ ap (λ (z : Work). put_if (is_held o) c z) u_is ∙ join_o o (joined f a x) w₀

      stands_more : (o' a' : Held X) (second' first' : Bool) (v : Work) → to < length text → v ≡ kept mk keep a' (kept mk keep o' w₀) → second' ≡ is_held o' → first' ≡ is_held a'
          → whole ≡ chain text f g b c item n o' a' (to + 1) → (to < length text) × Stands whole w₀ (to + 1) v second' first'
      stands_more o' a' second' first' v h p q r k =
          let d = fuel_down text n to h fuel in (
            h,
            record {
              o = o';
              a = a';
              n = d.0;
              fuel = (let e = d.1 in omega arith);
              state = p;
              before_o = q;
              before_a = r;
              rest = k ∙ ap (λ (z : ℕ). chain text f g b c item z o' a' (to + 1)) d.1;
            },
          )

      after_item : (y z : Bool) → eqb (byte text to) b ≡ y → eqb (byte text to) c ≡ z → Outcome whole w₀ to (followed b c keep (byte text to) second first w)
      unfolding followed
      after_item true z e f' =
          rw e
          (stands_more o (held (joined f a x)) second true (put keep (put_if first b w))
          (byte_there text to b (eqb-true (byte text to) b e) b<) (ap (λ (q : Work). put keep q) u_is) o_is refl (rest ∙ rw e refl))
      after_item false true e f' =
          rw (e, f')
          (stands_more (held (joined g o (joined f a x))) nothing true false (put keep (put_if second c (put_if first b w)))
          (byte_there text to c (eqb-true (byte text to) c f') c<) (ap (λ (q : Work). put keep q) v_is) refl refl (rest ∙ rw (e, f') refl))
      after_item false false e f' =
          let k : whole ≡ ok (joined g o (joined f a x)) to = rest ∙ rw (e, f') refl in
          rw (e, f') (ap (λ (q : Work). ok q to) v_is ∙ ap (λ (q : Got X). map_got (λ (x : X). mk x w₀) q) (sym k))

    pub chain_goes : {whole : Got X} {w₀ : Work} {at : ℕ} {w : Work} {second first : Bool} → Stands whole w₀ at w second first → (p : Seen)
        → got_of p ≡ map_got (λ (x : X). mk x w) (item at) → p.number ≡ 0 → at < p.at → (nx : Next) → nx ≡ followed b c keep (byte text p.at) second first p.work
        → Outcome whole w₀ p.at nx
    unfolding chain
    chain_goes {whole} {w₀} {at} {w} {second} {first} i p e z l nx k = subst (λ (q : Next). Outcome whole w₀ p.at q) (sym k) (go (item at) (read_ok (λ (x : X). mk x w) p (item at) e z) i.rest)
      where
        go : (q : Got X) → Read (λ (x : X). mk x w) p q → whole ≡ chained text f g b c (chain text f g b c item i.n) i.o i.a q → Outcome whole w₀ p.at (followed b c keep (byte text p.at) second first p.work)
        go q (is {x} h) r =
            after_item whole w₀ i.n i.o i.a x p.at p.work second first (h ∙ ap (λ (t : Work). mk x t) i.state) i.before_o i.before_a (let h = i.fuel in omega arith) r
            (eqb (byte text p.at) b) (eqb (byte text p.at) c) refl refl

-- the two chains' joins
pub both_law : (y x : Formula) (w : Work) → put code_and (build x (put code_keep (build y w))) ≡ build (both y x) w
unfolding build
both_law y x w = refl

pub either_law : (y x : Formula) (w : Work) → put code_or (build x (put code_keep (build y w))) ≡ build (either y x) w
unfolding build
either_law y x w = refl

pub seq_law : (y x : Path) (w : Work) → put code_seq (build_in x (put code_keep_part (build_in y w))) ≡ build_in (seq y x) w
unfolding build
seq_law y x w = refl

pub alt_law : (y x : Path) (w : Work) → put code_alt (build_in x (put code_keep_part (build_in y w))) ≡ build_in (alt y x) w
unfolding build
alt_law y x w = refl

-- behind a mark
pub inner_none : (text : List ℕ) (d : ℕ) → d ≡ 0 → inner text d ≡ record { formula = λ at. deep at; path = λ at. deep at }
unfolding inner
inner_none text zero e = refl
inner_none text (suc d) e = absurd (omega arith)

pub inner_down : (text : List ℕ) (d : ℕ) → 1 ≤ d → inner text d ≡ outside text (inner text (d - 1))
unfolding inner
inner_down text zero l = absurd (omega arith)
inner_down text (suc d) l = ap (λ (z : ℕ). outside text (inner text z)) (let h : d ≡ suc d - 1 = omega arith in h)

-- atoms and pieces
module _ (text : List ℕ) (I : Inner) (at : ℕ) (w : Work) where
  pub atom_bracket : byte text at ≡ 40 → (p r : Seen) → got_of p ≡ map_got (λ (a : Formula). build a w) (I.formula (at + 1)) → got_of r ≡ closed text 41 (got_of p)
      → got_of r ≡ map_got (λ (a : Formula). build a w) (atom_at text I at)
  unfolding atom_at
  atom_bracket e p r h k = rw e (k ∙ ap (λ (z : Got Work). closed text 41 z) h ∙ sym (map_closed text (λ (a : Formula). build a w) 41 (I.formula (at + 1))))

  pub atom_simple : ¬ (byte text at ≡ 40) → (g : Got Work) → g ≡ map_got (λ (a : Formula). build a w) (simple_at text at) → g ≡ map_got (λ (a : Formula). build a w) (atom_at text I at)
  unfolding atom_at simple_at
  atom_simple ne g h = rw (ne_eqb (byte text at) 40 ne) h

  pub piece_bracket : byte text at ≡ 40 → (p r : Seen) → got_of p ≡ map_got (λ (q : Path). build_in q w) (I.path (at + 1)) → got_of r ≡ closed text 41 (got_of p)
      → got_of r ≡ map_got (λ (q : Path). build_in q w) (piece_at text I at)
  unfolding piece_at
  piece_bracket e p r h k = rw e (k ∙ ap (λ (z : Got Work). closed text 41 z) h ∙ sym (map_closed text (λ (q : Path). build_in q w) 41 (I.path (at + 1))))

  pub piece_none : ¬ (byte text at ≡ 123) → ¬ (byte text at ≡ 40) → bad at ≡ map_got (λ (q : Path). build_in q w) (piece_at text I at)
  unfolding piece_at
  piece_none a b = rw (ne_eqb (byte text at) 123 a, ne_eqb (byte text at) 40 b)

  stepped_go : (a : Formula) (to : ℕ) (x y : Bool)
      → cond x (ok (work.stepped (code_step back) (build a (masked w))) (to + 1)) (cond y (ok (work.stepped (code_step stay) (build a (masked w))) (to + 1)) (ok (work.stepped (code_step ahead) (build a (masked w))) to))
      ≡ map_got (λ (q : Path). build_in q w) (cond x (ok (step back a) (to + 1)) (cond y (ok (step stay a) (to + 1)) (ok (step ahead a) to)))
  unfolding build
  stepped_go a to true y = refl
  stepped_go a to false true = refl
  stepped_go a to false false = refl

  stepped_map : (g : Got Formula) → stepped_by text (map_got (λ (a : Formula). build a (masked w)) g) ≡ map_got (λ (q : Path). build_in q w) (stepped text g)
  unfolding stepped_by stepped
  stepped_map (ok a to) = stepped_go a to (eqb (byte text to) 45) (eqb (byte text to) 63)
  stepped_map (bad to) = refl
  stepped_map (deep to) = refl

  pub piece_step : byte text at ≡ 123 → (v : Work) (p q r : Seen) → v ≡ masked w → got_of p ≡ map_got (λ (a : Formula). build a v) (I.formula (at + 1)) → got_of q ≡ closed text 125 (got_of p) → got_of r ≡ stepped_by text (got_of q)
      → got_of r ≡ map_got (λ (q : Path). build_in q w) (piece_at text I at)
  unfolding piece_at
  piece_step e v p q r m h k l =
      rw e
      (l ∙ ap (λ (z : Got Work). stepped_by text z) (k ∙ ap (λ (z : Got Work). closed text 125 z) (h ∙ ap (λ (z : Work). map_got (λ (a : Formula). build a z) (I.formula (at + 1))) m) ∙ sym (map_closed text (λ (a : Formula). build a (masked w)) 125 (I.formula (at + 1))))
      ∙ stepped_map (closed text 125 (I.formula (at + 1))))

  -- prefixes
  pub prefix_bang : byte text at ≡ 33 → (v : Work) → v ≡ put code_not w → ok v (at + 1) ≡ map_got (λ (p : Prefix). opened p w) (prefix_at text I at)
  unfolding prefix_at opened
  prefix_bang e v h = rw (e, h)

  opened-angle : (g : Got Path) → map_got (ended code_some) (map_got (λ (q : Path). build_in q (put code_begin w)) g) ≡ map_got (λ (p : Prefix). opened p w) (map_got angle g)
  unfolding opened
  opened-angle (ok q to) = refl
  opened-angle (bad to) = refl
  opened-angle (deep to) = refl

  opened-square : (g : Got Path) → map_got (ended code_every) (map_got (λ (q : Path). build_in q (put code_begin w)) g) ≡ map_got (λ (p : Prefix). opened p w) (map_got square g)
  unfolding opened
  opened-square (ok q to) = refl
  opened-square (bad to) = refl
  opened-square (deep to) = refl

  pub prefix_path : ¬ (byte text at ≡ 33) → (v : Work) (p q r : Seen) (c : ℕ) → v ≡ put code_begin w → got_of p ≡ map_got (λ (q : Path). build_in q v) (I.path (at + 1)) → c ≡ end_of (byte text at) → got_of q ≡ closed text c (got_of p)
      → got_of r ≡ map_got (ended c) (got_of q) → got_of r ≡ map_got (λ (p : Prefix). opened p w) (prefix_at text I at)
  unfolding prefix_at
  prefix_path ne v p q r c m h k l t = rw (ne_eqb (byte text at) 33 ne) (go (eqb (byte text at) 60) k)
    where
      path-is : (x : ℕ) → c ≡ x → got_of r ≡ map_got (ended x) (map_got (λ (q : Path). build_in q (put code_begin w)) (closed text x (I.path (at + 1))))
      path-is x e =
          t ∙ ap (λ (z : ℕ). map_got (ended z) (got_of q)) e
          ∙ ap (λ (z : Got Work). map_got (ended x) z) (l ∙ ap (λ (z : ℕ). closed text z (got_of p)) e ∙ ap (λ (z : Got Work). closed text x z) (h ∙ ap (λ (z : Work). map_got (λ (q : Path). build_in q z) (I.path (at + 1))) m) ∙ sym (map_closed text (λ (q : Path). build_in q (put code_begin w)) x (I.path (at + 1))))

      go : (y : Bool) → c ≡ cond y code_some code_every → got_of r ≡ map_got (λ (p : Prefix). opened p w) (cond y (map_got angle (closed text 62 (I.path (at + 1)))) (map_got square (closed text 93 (I.path (at + 1)))))
      go true e = path-is code_some e ∙ opened-angle (closed text 62 (I.path (at + 1)))
      go false e = path-is code_every e ∙ opened-square (closed text 93 (I.path (at + 1)))

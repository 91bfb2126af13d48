-- Chains of numbers by their keys: none yet, and one more at the head of its chain.
use Prim.Native.Nat.{ℕ, ◌+◌, ◌≤◌, ◌<◌}
use native.Mathlib.Omega.{arith}
use mathlib.Core.Path.{◌≡◌, sym, subst, ◌∙◌}
use mathlib.Core.Logic.{⊎_elim}
use Rattle.graph.specs.Arcs.{Least, Chain}
use Rattle.graph.proofs.Cases.{same?}

pub chain_none : (key head link : ℕ → ℕ) (last : ℕ) → last ≤ 256 → ((s : ℕ) → s < 16 → head s ≡ 65535) → Chain key head link last last
chain_none key head link last few empty =
    record {
      heads = λ s l.
          let h = empty s l in
          record { above = omega arith; hit = λ x. absurd (omega arith); none = λ e a b c. absurd (omega arith) };
      links = λ e a b. absurd (omega arith);
    }

-- the same numbers by keys that agree from k on
least_same : (key key2 : ℕ → ℕ) (s k last x : ℕ) → ((i : ℕ) → k ≤ i → i < last → key2 i ≡ key i) → Least key s k last x → Least key2 s k last x
least_same key key2 s k last x same l =
    record {
      above = l.above;
      hit = λ b. same x l.above b ∙ l.hit b;
      none = λ e a b c z. l.none e a b c (sym (same e a c) ∙ z);
    }

module _
    (key head link key2 head2 link2 : ℕ → ℕ)
    (e last s : ℕ)
    (l : e < last)
    (c : Chain key head link (e + 1) last)
    (key_here : key2 e ≡ s)
    (key-other : (i : ℕ) → e < i → i < last → key2 i ≡ key i)
    (head-here : head2 s ≡ e)
    (head-other : (r : ℕ) → r < 16 → (r ≡ s → ⊥) → head2 r ≡ head r)
    (Link-here : link2 e ≡ head s)
    (link-other : (i : ℕ) → e < i → i < last → link2 i ≡ link i)
    (ls : s < 16) where
  new_head : Least key2 s e last e
  new_head = record { above = omega arith; hit = λ b. key_here; none = λ i a b. absurd (omega arith) }

  old_head : (r x : ℕ) → (r ≡ s → ⊥) → Least key r (e + 1) last x → Least key2 r e last x
  old_head r x ne o =
      let a = o.above in
      record {
        above = omega arith;
        hit = λ b. key-other x (omega arith) b ∙ o.hit b;
        none = λ i b d f z.
            ⊎_elim (λ q. ne (sym z ∙ subst (λ (y : ℕ). key2 y ≡ s) (sym q) key_here))
            (λ nq. o.none i (omega arith) d f (sym (key-other i (omega arith) f) ∙ z))
            (same? i e);
      }

  pub chain_more : Chain key2 head2 link2 e last
  chain_more =
      record {
        heads = λ r lr.
            ⊎_elim
            (λ q. subst (λ (y : ℕ). Least key2 y e last (head2 y)) (sym q) (subst (Least key2 s e last) (sym head-here) new_head))
            (λ ne. subst (Least key2 r e last) (sym (head-other r lr ne)) (old_head r (head r) ne (c.heads r lr)))
            (same? r s);
        links = λ i a b.
            ⊎_elim
            (λ q.
            subst (λ (y : ℕ). Least key2 (key2 y) (y + 1) last (link2 y)) (sym q)
            (subst (λ (y : ℕ). Least key2 y (e + 1) last (link2 e)) (sym key_here)
            (subst (Least key2 s (e + 1) last) (sym Link-here) (least_same key key2 s (e + 1) last (head s) (λ j f. key-other j (omega arith)) (c.heads s ls)))))
            (λ ne.
            subst (λ (y : ℕ). Least key2 y (i + 1) last (link2 i)) (sym (key-other i (omega arith) b))
            (subst (Least key2 (key i) (i + 1) last) (sym (link-other i (omega arith) b))
            (least_same key key2 (key i) (i + 1) last (link i) (λ j f. key-other j (omega arith)) (c.links i (omega arith) b))))
            (same? i e);
      }

-- One edge of the descent: whether it arrives in a configuration at the wanted distance.
use Prim.Native.Nat.{ℕ, ◌+◌, ◌*◌, ◌≤◌, ◌<◌}
use native.Mathlib.Nat.{div-lt_iff_lt-mul}
use native.Mathlib.Omega.{arith}
use mathlib.Core.Path.{◌≡◌, refl, ap, ◌∙◌}
use mathlib.Core.List.{List}
use lib.ListN.{length}
use Rattle.aldlf.specs.declared.Edge.{Edge}
use Rattle.graph.specs.Graph.{far, at}
use Rattle.graph.specs.Configurations.{arrival_of, EdgeFits}
use Rattle.graph.proofs.Steps.{arrival_moves, arrival_entry, arrival_number}
use Rattle.shortest.specs.Descent.{Nearer}

module _
    (words D : List ℕ)
    (e : Edge)
    (states s i d : ℕ)
    (fits : EdgeFits states e)
    (from : e.from.0 ≡ s)
    (few : length words ≤ 512)
    (j : ℕ)
    (arrives : j ≡ arrival_of words e i) where
  some : 0 < states
  some = let a = fits.from_fits in omega arith

  pub off_log : j ≡ far → Nearer words D e states (i * states + s) d far
  off_log f =
      record {
        there = λ n. absurd (n refl);
        none = λ z q l m eq.
            let a = arrival_entry words e states s i fits from q some l m in
            let b = (div-lt_iff_lt-mul {x = q} {y = length words} some).1 l in
            omega arith;
      }

  pub elsewhere : (at D (j * states + e.to.0) ≡ d → ⊥) → Nearer words D e states (i * states + s) d far
  elsewhere ne =
      record {
        there = λ n. absurd (n refl);
        none = λ z q l m eq.
            ne (ap (λ (x : ℕ). at D (x * states + e.to.0)) arrives ∙ (ap (at D) (arrival_number words e states s i fits from q some l m) ∙ eq));
      }

  pub arrived : (j ≡ far → ⊥) → j < length words → at D (j * states + e.to.0) ≡ d → Nearer words D e states (i * states + s) d j
  arrived nf l eq = record { there = λ n. (l, arrival_moves words e states s i fits from j arrives nf, eq); none = λ z. absurd (nf z) }

-- Question 9's flags: the flag of a node is what its line says of all flags.
use Prim.Native.Nat.{ℕ, zero, suc, ◌+◌, ◌≤◌, ◌<◌}
use native.Mathlib.Omega.{arith}
use mathlib.Core.Path.{◌≡◌, sym, ap, subst, ◌∙◌}
use mathlib.Core.List.{List, [], ◌∷◌}
use mathlib.Core.Bool.{Bool, false}
use lib.ListN.{length, get_or, set, length-set, replicate, length-replicate}
use lib.Seq.{get_or-set_same, get_or-set_other}
use Rattle.aldlf.specs.Constants.{node_limit}
use Rattle.aldlf.specs.Sheet.{no_line}
use Rattle.aldlf.specs.declared.NodeLine.{NodeLine}
use Rattle.aldlf.specs.declared.Automaton.{Automaton}
use Rattle.sheet.specs.Questions.{plain_node, plain_from, plains}
use Rattle.sheet.proofs.Plain.{from_keep}
use Rattle.sheet.proofs.Grown.{NodeOk, ok_t, ok_f, ok_p, ok_n, ok_a, ok_o, ok_d, ok_b}

-- the flag of node k is what its line says of flags that are the final ones below k
record Flag (all : List Bool) (k : ℕ) (x : NodeLine) : Type 0 where
  flags : List Bool
  below : (j : ℕ) → j < k → get_or flags j false ≡ get_or all j false
  is : get_or all k false ≡ plain_node flags x

from_at : (ns : List NodeLine) (i k : ℕ) (p : List Bool) → k < length ns → i + length ns ≤ length p → Flag (plain_from ns i p) (i + k) (get_or ns k no_line)
unfolding plain_from
from_at [] i k p h l = absurd (omega arith)
from_at (x ∷ ns) i zero p h l =
    let v = plain_node p x in
    let e : i + 0 ≡ i = omega arith in
    record {
      flags = p;
      below = λ j m. sym (from_keep ns (i + 1) j (set p i v) false (omega arith) ∙ get_or-set_other p i j v false (omega arith));
      is = ap (λ (z : ℕ). get_or (plain_from ns (i + 1) (set p i v)) z false) e ∙ from_keep ns (i + 1) i (set p i v) false (omega arith) ∙ get_or-set_same p i v false (omega arith);
    }
from_at (x ∷ ns) i (suc k) p h l =
    let v = plain_node p x in
    let e : i + 1 + k ≡ i + suc k = omega arith in
    subst (λ (z : ℕ). Flag (plain_from ns (i + 1) (set p i v)) z (get_or ns k no_line)) e
    (from_at ns (i + 1) k (set p i v) (omega arith) (let q = length-set p i v in omega arith))

-- a line that names only earlier nodes is asked of their flags alone
plain_cong : (p q : List Bool) (ac : ℕ) (ms : List Automaton) (k : ℕ) (x : NodeLine) → ((j : ℕ) → j < k → get_or p j false ≡ get_or q j false) → NodeOk ac ms k x → plain_node p x ≡ plain_node q x
plain_cong p q ac ms k x f (ok_t e a b) = rw e
plain_cong p q ac ms k x f (ok_f e a b) = rw e
plain_cong p q ac ms k x f (ok_p e a b) = rw e
plain_cong p q ac ms k x f (ok_n e a b) = rw (e, f x.a a)
plain_cong p q ac ms k x f (ok_a e a b) = rw (e, f x.a a, f x.b b)
plain_cong p q ac ms k x f (ok_o e a b) = rw (e, f x.a a, f x.b b)
plain_cong p q ac ms k x f (ok_d e a n b) = rw e
plain_cong p q ac ms k x f (ok_b e a n b) = rw e

-- THE FLAG of node k
pub flag_at : (ns : List NodeLine) (ac : ℕ) (ms : List Automaton) (k : ℕ) → length ns ≡ node_limit → k < node_limit → NodeOk ac ms k (get_or ns k no_line)
    → get_or (plains ns) k false ≡ plain_node (plains ns) (get_or ns k no_line)
flag_at ns ac ms k long l ok =
    let z : 0 + k ≡ k = omega arith in
    let n = length-replicate node_limit false in
    let f = subst (λ (j : ℕ). Flag (plains ns) j (get_or ns k no_line)) z (from_at ns 0 k (replicate node_limit false) (omega arith) (omega arith)) in
    f.is ∙ plain_cong f.flags (plains ns) ac ms k (get_or ns k no_line) f.below ok

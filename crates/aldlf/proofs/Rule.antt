-- PARTS JUDGE THE NODES THAT THE RULE STANDS ON AS THE WHOLE SHEET DOES: `rule_sheet S`, in which every other node is false, gives the verdicts and the row bits of S on these nodes, for every row.
use Prim.Native.Nat.{ℕ, zero, suc, ◌≤◌, ◌<◌}
use native.Mathlib.Omega.{arith}
use mathlib.Core.Path.{◌≡◌, refl, sym, subst, ap, ap₂, ◌∙◌}
use mathlib.Core.Logic.{◌⊎◌, inl, inr}
use mathlib.Core.Bool.{Bool, true, false, cond, not, ◌&&◌, ◌||◌, false≢true}
use mathlib.Core.List.{List, [], ◌∷◌}
use lib.Dec.{eqb}
use lib.ListN.{length}
use borrow.Author.Tests.{eqb-true}
use Rattle.aldlf.specs.Constants.{node_limit, state_limit}
use Rattle.aldlf.specs.Sheet.{Sheet, Line, T, F, P, N, A, O, D, B, by_mode}
use Rattle.aldlf.specs.Stands.{Tests, Names, EdgeOf, stands, rule_sheet}
use Rattle.aldlf.specs.Parts.{Bits, row_entry, counts, looks_only, Sound}
use Rattle.aldlf.specs.Verdict.{facing, goal, modal, says, judge, says_from, row_of, plain, plain_line, verdict}
use Rattle.aldlf.specs.Outcomes.{verdict_at, part_words}
use Rattle.aldlf.specs.declared.Way.{Way}
use Rattle.aldlf.proofs.Bools.{bool_cases, lt-or-le, and_left}
use Rattle.aldlf.proofs.Agree.{entry_in}
use Rattle.aldlf.proofs.Cut.{Allowed}
use Rattle.aldlf.proofs.Across.{reached_across}
use Rattle.aldlf.proofs.Same.{judge_same, row_of_same}
use Rattle.aldlf.proofs.Splitting.{Uses, Any}
use Rattle.aldlf.proofs.Stands.{stands_in, stands_names, stands_iff, looks_iff}
use Rattle.aldlf.proofs.Words.{words_bit, words_unused}

-- The sheet that parts judge -----------------------------------------------------------------------------------------------------

pub rule_line : (S : Sheet) (k : ℕ) → stands S k ≡ true → (rule_sheet S).line k ≡ S.line k
unfolding rule_sheet
rule_line S k o = ap (λ (b : Bool). cond b (S.line k) F) o

pub other_line : (S : Sheet) (k : ℕ) → stands S k ≡ false → (rule_sheet S).line k ≡ F
unfolding rule_sheet
other_line S k o = ap (λ (b : Bool). cond b (S.line k) F) o

-- what the rule does not stand on has no bit in a row
pub rule_counts : (S : Sheet) (k s : ℕ) → counts (rule_sheet S) ((rule_sheet S).line k) s ≡ stands S k && counts S (S.line k) s
unfolding rule_sheet
rule_counts S k s = go (stands S k)
  where
    go : (b : Bool) → counts (rule_sheet S) (cond b (S.line k) F) s ≡ b && counts S (S.line k) s
    go true = refl
    go false = refl

pub rule_plain : (S : Sheet) (k s : ℕ) → stands S k ≡ true → plain (rule_sheet S) k s ≡ plain S k s
rule_plain S k s o = ap plain_line (rule_line S k o)

rule_names : (S : Sheet) (l : Line) (x : ℕ) → Names (rule_sheet S) l x → Names S l x
unfolding rule_sheet
rule_names S T x z = z
rule_names S F x z = z
rule_names S (P f) x z = z
rule_names S (N a) x z = z
rule_names S (A a b) x z = z
rule_names S (O a b) x z = z
rule_names S (D m a) x z = z
rule_names S (B m a) x z = z

pub rule_sound : (S : Sheet) → Sound S → Sound (rule_sheet S)
unfolding rule_sheet
rule_sound S sound =
    record {
      some = sound.some;
      few = sound.few;
      earlier = λ k x z. earlier k x (stands S k) z;
      inside = sound.inside;
      starts = λ k. starts k (stands S k);
      fits = λ k s c. fits k s (stands S k) c;
    }
  where
    earlier : (k x : ℕ) (b : Bool) → Names (rule_sheet S) (cond b (S.line k) F) x → x < k
    earlier k x true z = sound.earlier k x (rule_names S (S.line k) x z)
    earlier k x false z = absurd z

    starts : (k : ℕ) (b : Bool) → by_mode (λ m a. (S.automaton m).start < (S.automaton m).states) (λ m a. (S.automaton m).start < (S.automaton m).states) (Unit {0}) (cond b (S.line k) F)
    starts k true = sound.starts k
    starts k false = tt

    fits : (k s : ℕ) (b : Bool) → counts S (cond b (S.line k) F) s ≡ true → (k < node_limit) × (s < state_limit)
    fits k s true c = sound.fits k s c
    fits k s false c = absurd (false≢true c)

-- Question 34 --------------------------------------------------------------------------------------------------------------------

-- on the sheet that parts judge, the automata in use look only that way
pub rule_used : (w : Way) (S : Sheet) → Sound S → looks_only w S ≡ true → (k : ℕ) → Uses w (rule_sheet S) Any ((rule_sheet S).line k)
unfolding rule_sheet
rule_used w S sound only k = go (bool_cases (stands S k))
  where
    Edges : Line → Type 0
    Edges l = (e : ℕ) → by_mode (λ m a. EdgeOf S m e) (λ m a. EdgeOf S m e) ⊥ l → Allowed w (S.edge e).dir

    uses : (l : Line) → Edges l → Uses w (rule_sheet S) Any l
    uses T f = tt
    uses F f = tt
    uses (P x) f = tt
    uses (N a) f = tt
    uses (A a b) f = (tt, tt)
    uses (O a b) f = (tt, tt)
    uses (D m a) f = (tt, λ e p q. (tt, f e (p, q)))
    uses (B m a) f = (tt, λ e p q. (tt, f e (p, q)))

    go : (stands S k ≡ true) ⊎ (stands S k ≡ false) → Uses w (rule_sheet S) Any ((rule_sheet S).line k)
    go (inl o) =
        subst (Uses w (rule_sheet S) Any) (sym (rule_line S k o))
        (uses (S.line k) (λ e z. (looks_iff w S sound).0 only e (k, (stands_iff S sound k).0 o, z)))
    go (inr o) = subst (Uses w (rule_sheet S) Any) (sym (other_line S k o)) tt

-- Verdicts -----------------------------------------------------------------------------------------------------------------------

module _ (S : Sheet) (sound : Sound S) (log : List ℕ) (ρ : Bits) where
  abbrev R : Sheet
  R = rule_sheet S

  module _ (n : ℕ) (h : (k i : ℕ) → stands S k ≡ true → i < length log → judge R log ρ n k i ≡ judge S log ρ n k i) where
    rule_modal : (want : Bool) (m a : ℕ) → ((x : ℕ) → (a ≡ x) ⊎ Tests S m x → stands S x ≡ true) → (s i : ℕ) → i < length log
        → modal R (length log) (judge R log ρ n) ρ n want m a s i ≡ modal S (length log) (judge S log ρ n) ρ n want m a s i
    unfolding rule_sheet
    rule_modal want m a on s i l = ap (facing want)
        (reached_across R S (length log) m (judge R log ρ n) (judge S log ρ n) (goal R (judge R log ρ n) want m a) (goal S (judge S log ρ n) want m a)
        (λ u. facing want (ρ n u)) (λ u. facing want (ρ n u)) refl (λ e. record { from = refl; dir = refl; to = refl })
        (λ e i p q l. h (S.edge e).test i (on (S.edge e).test (inr (e, (p, q), refl))) l)
        (λ u j q. ap (λ (b : Bool). (S.automaton m).accepts u && facing want b) (h a j (on a (inl refl)) q))
        (λ e p q. refl) s i l)

    rule_says : (l : Line) → ((x : ℕ) → Names S l x → stands S x ≡ true) → (i : ℕ) → i < length log → says R log ρ (judge R log ρ n) n l i ≡ says S log ρ (judge S log ρ n) n l i
    unfolding rule_sheet
    rule_says T on i b = refl
    rule_says F on i b = refl
    rule_says (P f) on i b = refl
    rule_says (N a) on i b = ap not (h a i (on a refl) b)
    rule_says (A a c) on i b = ap₂ ◌&&◌ (h a i (on a (inl refl)) b) (h c i (on c (inr refl)) b)
    rule_says (O a c) on i b = ap₂ ◌||◌ (h a i (on a (inl refl)) b) (h c i (on c (inr refl)) b)
    rule_says (D m a) on i b = rule_modal true m a on (S.automaton m).start i b
    rule_says (B m a) on i b = rule_modal false m a on (S.automaton m).start i b

    rule_from : (l : Line) → ((x : ℕ) → Names S l x → stands S x ≡ true) → (s i : ℕ) → i < length log → says_from R log ρ n l s i ≡ says_from S log ρ n l s i
    rule_from T on s i b = refl
    rule_from F on s i b = refl
    rule_from (P f) on s i b = refl
    rule_from (N a) on s i b = refl
    rule_from (A a c) on s i b = refl
    rule_from (O a c) on s i b = refl
    rule_from (D m a) on s i b = rule_modal true m a on s i b
    rule_from (B m a) on s i b = rule_modal false m a on s i b

  -- THE SAME VERDICT, on every node that the rule stands on, whatever the row
  pub rule_judge : (n k i : ℕ) → stands S k ≡ true → i < length log → judge R log ρ n k i ≡ judge S log ρ n k i
  unfolding judge
  rule_judge zero k i o l = refl
  rule_judge (suc n) k i o l = go (bool_cases (eqb k n)) (rule_judge n)
    where
      Same : (k i : ℕ) → Bool → Type 0
      Same k i b = ◌≡◌ {A = Bool} (elim b [ true ↦ says R log ρ (judge R log ρ n) n (R.line n) i | false ↦ judge R log ρ n k i ]) (elim b [ true ↦ says S log ρ (judge S log ρ n) n (S.line n) i | false ↦ judge S log ρ n k i ])

      go : (eqb k n ≡ true) ⊎ (eqb k n ≡ false) → ((k i : ℕ) → stands S k ≡ true → i < length log → judge R log ρ n k i ≡ judge S log ρ n k i) → Same k i (eqb k n)
      go (inl e) rec =
          let on : stands S n ≡ true = subst (λ (z : ℕ). stands S z ≡ true) (eqb-true k n e) o in
          subst (Same k i) (sym e) (ap (λ (z : Line). says R log ρ (judge R log ρ n) n z i) (rule_line S n on) ∙ rule_says n rec (S.line n) (λ x z. stands_names S sound n x on z) i l)
      go (inr e) rec = subst (Same k i) (sym e) (rec k i o l)

  -- a node that the rule does not stand on holds nowhere
  pub other_judge : (n k i : ℕ) → stands S k ≡ false → judge R log ρ n k i ≡ false
  unfolding judge
  other_judge zero k i o = refl
  other_judge (suc n) k i o = go (bool_cases (eqb k n)) (other_judge n k i o)
    where
      Off : Bool → Type 0
      Off b = ◌≡◌ {A = Bool} (elim b [ true ↦ says R log ρ (judge R log ρ n) n (R.line n) i | false ↦ judge R log ρ n k i ]) false

      go : (eqb k n ≡ true) ⊎ (eqb k n ≡ false) → judge R log ρ n k i ≡ false → Off (eqb k n)
      go (inl e) rec =
          subst Off (sym e) (ap (λ (z : Line). says R log ρ (judge R log ρ n) n z i) (other_line S n (subst (λ (z : ℕ). stands S z ≡ false) (eqb-true k n e) o)))
      go (inr e) rec = subst Off (sym e) rec

  -- both in one: what a part's word has
  pub part_judge : (k i : ℕ) → i < length log → judge R log ρ (suc k) k i ≡ stands S k && judge S log ρ (suc k) k i
  part_judge k i l = go (bool_cases (stands S k))
    where
      go : (stands S k ≡ true) ⊎ (stands S k ≡ false) → judge R log ρ (suc k) k i ≡ stands S k && judge S log ρ (suc k) k i
      go (inl o) = rule_judge (suc k) k i o l ∙ sym (ap (λ (b : Bool). b && judge S log ρ (suc k) k i) o)
      go (inr o) = other_judge (suc k) k i o ∙ sym (ap (λ (b : Bool). b && judge S log ρ (suc k) k i) o)

-- Rows ---------------------------------------------------------------------------------------------------------------------------

and_parts : (a b c b' c' : Bool) → b ≡ a && b' → (a ≡ true → c ≡ c') → b && c ≡ a && (b' && c')
and_parts true b c b' c' e f = ap₂ ◌&&◌ e (f refl)
and_parts false b c b' c' e f = ap (λ (z : Bool). z && c) e

-- what a part's row has: the whole sheet's bits of the nodes that the rule stands on
pub rule_row : (w : Way) (S : Sheet) → Sound S → (log : List ℕ) (ρ : Bits) (k s : ℕ) → row_of w (rule_sheet S) log ρ k s ≡ stands S k && row_of w S log ρ k s
unfolding row_of
rule_row w S sound [] ρ k s = and_parts (stands S k) (counts (rule_sheet S) ((rule_sheet S).line k) s) (ρ k s) (counts S (S.line k) s) (ρ k s) (rule_counts S k s) (λ o. refl)
rule_row w S sound (x ∷ xs) ρ k s =
    let i = row_entry w (length (x ∷ xs)) in
    and_parts (stands S k) (counts (rule_sheet S) ((rule_sheet S).line k) s) (says_from (rule_sheet S) (x ∷ xs) ρ k ((rule_sheet S).line k) s i) (counts S (S.line k) s) (says_from S (x ∷ xs) ρ k (S.line k) s i) (rule_counts S k s)
    (λ o. ap (λ (l : Line). says_from (rule_sheet S) (x ∷ xs) ρ k l s i) (rule_line S k o)
    ∙ rule_from S sound (x ∷ xs) ρ k (λ j i. rule_judge S sound (x ∷ xs) ρ k j i) (S.line k) (λ x z. stands_names S sound k x o z) s i (entry_in w (length (x ∷ xs)) (omega arith)))

-- Whole logs ---------------------------------------------------------------------------------------------------------------------

-- the two plain rows agree on the bits that count for parts
plain_same : (S : Sheet) (k s : ℕ) → counts (rule_sheet S) ((rule_sheet S).line k) s ≡ true → plain (rule_sheet S) k s ≡ plain S k s
plain_same S k s c = rule_plain S k s (and_left (stands S k) (counts S (S.line k) s) (sym (rule_counts S k s) ∙ c))

-- judged on a whole log, by the plain row of its own
pub rule_verdict : (S : Sheet) → Sound S → (log : List ℕ) (k i : ℕ) → stands S k ≡ true → i < length log → verdict (rule_sheet S) log k i ≡ verdict S log k i
rule_verdict S sound log k i o l =
    judge_same (rule_sheet S) (rule_sound S sound) log (plain (rule_sheet S)) (plain S) (plain_same S) (suc k) k i l
    ∙ rule_judge S sound log (plain S) (suc k) k i o l

pub other_verdict : (S : Sheet) → Sound S → (log : List ℕ) (k i : ℕ) → stands S k ≡ false → verdict (rule_sheet S) log k i ≡ false
other_verdict S sound log k i o = other_judge S sound log (plain (rule_sheet S)) (suc k) k i o

pub rule_plain_row : (w : Way) (S : Sheet) → Sound S → (log : List ℕ) (k s : ℕ) → row_of w (rule_sheet S) log (plain (rule_sheet S)) k s ≡ stands S k && row_of w S log (plain S) k s
rule_plain_row w S sound log k s =
    row_of_same w (rule_sheet S) (rule_sound S sound) log (plain (rule_sheet S)) (plain S) (plain_same S) k s ∙ rule_row w S sound log (plain S) k s

-- Words --------------------------------------------------------------------------------------------------------------------------

-- the sheet that parts judge has the sheet's nodes
rule_nodes : (S : Sheet) → (rule_sheet S).nodes ≡ S.nodes
unfolding rule_sheet
rule_nodes S = refl

-- every bit of its words, unused ones too, is its verdict
pub rule_bits : (S : Sheet) → Sound S → (log : List ℕ) (ρ : Bits) (i k : ℕ) → i < length log → k < node_limit
    → verdict_at (part_words (rule_sheet S) ρ log) i k ≡ judge (rule_sheet S) log ρ (suc k) k i
rule_bits S sound log ρ i k l lk = go (lt-or-le k (rule_sheet S).nodes)
  where
    off : (rule_sheet S).nodes ≤ k → stands S k ≡ false
    off b = go (bool_cases (stands S k))
      where
        go : (stands S k ≡ true) ⊎ (stands S k ≡ false) → stands S k ≡ false
        go (inl o) = let a : k < S.nodes = stands_in S sound k o in absurd (omega (arith, rule_nodes S))
        go (inr o) = o

    go : (k < (rule_sheet S).nodes) ⊎ ((rule_sheet S).nodes ≤ k) → verdict_at (part_words (rule_sheet S) ρ log) i k ≡ judge (rule_sheet S) log ρ (suc k) k i
    go (inl b) = words_bit (rule_sheet S) ρ log k i b lk l
    go (inr b) = words_unused (rule_sheet S) ρ log k i b lk l ∙ sym (other_judge S sound log ρ (suc k) k i (off b))

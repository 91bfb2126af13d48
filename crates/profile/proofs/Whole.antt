-- Question 10: it reads only where edges come from and go to, so it says of the profile what it says of the sheet.
use Prim.Native.Nat.{ℕ, zero, suc}
use mathlib.Core.Path.{◌≡◌, refl, ap, ap₂, ◌∙◌}
use mathlib.Core.List.{List, [], ◌∷◌, map}
use mathlib.Core.Bool.{Bool, cond, ◌||◌}
use lib.ListN.{take, drop}
use Rattle.aldlf.specs.declared.Edge.{Edge}
use Rattle.aldlf.specs.declared.Automaton.{Automaton}
use Rattle.aldlf.specs.declared.Table.{Table}
use Rattle.sheet.specs.Questions.{stands_on, some_edge, edges_of, each_state, whole, whole_of}
use Rattle.sheet.proofs.Each.{each_cong}
use Rattle.profile.specs.Profile.{kept_automaton, kept_edge, profile_of}

take-map : {A : Type 0} (f : A → A) (n : ℕ) (l : List A) → take n (map f l) ≡ map f (take n l)
take-map f zero l = refl
take-map f (suc n) [] = refl
take-map f (suc n) (x ∷ l) = ap (λ (z : List _). f x ∷ z) (take-map f n l)

drop-map : {A : Type 0} (f : A → A) (n : ℕ) (l : List A) → drop n (map f l) ≡ map f (drop n l)
drop-map f zero l = refl
drop-map f (suc n) [] = refl
drop-map f (suc n) (x ∷ l) = drop-map f n l

some_kept : (s : ℕ) (es : List Edge) → some_edge s (map kept_edge es) ≡ some_edge s es
unfolding some_edge
some_kept s [] = refl
some_kept s (e ∷ es) = ap (λ (b : Bool). stands_on s e || b) (some_kept s es)

edges_kept : (es : List Edge) (x : Automaton) → edges_of (map kept_edge es) (kept_automaton x) ≡ map kept_edge (edges_of es x)
edges_kept es x = ap (take x.count) (drop-map kept_edge x.first es) ∙ take-map kept_edge x.count (drop x.first es)

states_kept : (es : List Edge) (x : Automaton) → each_state (edges_of (map kept_edge es) (kept_automaton x)) x.states ≡ each_state (edges_of es x) x.states
states_kept es x =
    ap (λ (l : List Edge). each_state l x.states) (edges_kept es x)
    ∙ each_cong (λ s. some_edge s (map kept_edge (edges_of es x))) (λ s. some_edge s (edges_of es x)) x.states (λ s. some_kept s (edges_of es x))

whole_kept : (es : List Edge) (xs : List Automaton) → whole (map kept_edge es) (map kept_automaton xs) ≡ whole es xs
unfolding whole
whole_kept es [] = refl
whole_kept es (x ∷ xs) = ap₂ (λ (b : Bool) (n : ℕ). cond b (suc n) 0) (states_kept es x) (whole_kept es xs)

-- as many automata as before have each state on an edge
pub whole_profile : (t : Table) → whole_of (profile_of t) ≡ whole_of t
unfolding profile_of
whole_profile t =
    ap (whole (map kept_edge t.edges)) (take-map kept_automaton t.used.automata t.automata) ∙ whole_kept t.edges (take t.used.automata t.automata)

-- Profiles worked by hand come out by the definitions alone: W, X, nots on nots, a not on an and.
use Prim.Native.Nat.{ℕ}
use mathlib.Core.Path.{◌≡◌, refl}
use mathlib.Core.Bool.{true}
use mathlib.Core.List.{List, [], ◌∷◌}
use lib.ListN.{take}
use Rattle.aldlf.specs.Constants.{letter_t, letter_f, letter_p, letter_n, letter_a, letter_o, letter_d, letter_b}
use Rattle.aldlf.specs.Jobs.{W, X, Z}
use Rattle.aldlf.specs.declared.NodeLine.{NodeLine}
use Rattle.sheet.specs.Questions.{each}
use Rattle.profile.specs.Profile.{line, exchanged, kept_line, opposite_line, kept_in, opposite_in, doubled, profile_lines, profile_of, line_in_profile, in_profile}

-- the first n lines of a list of old lines' profile
abbrev made : List NodeLine → ℕ → ℕ → List NodeLine
made old count n = take n (profile_lines old count)

w_made : take 7 (profile_of W).nodes ≡ line letter_t 0 0 ∷ line letter_f 0 0 ∷ line letter_p 1 0 ∷ line letter_n 2 0 ∷ line letter_d 0 2 ∷ line letter_b 0 3 ∷ line letter_d 0 2 ∷ []
unfolding profile_of profile_lines doubled kept_in opposite_in kept_line opposite_line exchanged
w_made = refl

x_made : take 7 (profile_of X).nodes ≡ line letter_t 0 0 ∷ line letter_f 0 0 ∷ line letter_f 0 0 ∷ line letter_t 0 0 ∷ line letter_b 0 2 ∷ line letter_d 0 3 ∷ line letter_b 0 2 ∷ []
unfolding profile_of profile_lines doubled kept_in opposite_in kept_line opposite_line exchanged
x_made = refl

-- `P,0` `N,0` `N,1` `N,2`
nots_made : made (line letter_p 0 0 ∷ line letter_n 0 0 ∷ line letter_n 1 0 ∷ line letter_n 2 0 ∷ []) 4 9
    ≡ line letter_p 0 0 ∷ line letter_n 0 0 ∷ line letter_n 0 0 ∷ line letter_p 0 0 ∷ line letter_p 0 0 ∷ line letter_n 0 0 ∷ line letter_n 0 0 ∷ line letter_p 0 0 ∷ line letter_n 0 0 ∷ []
unfolding profile_lines doubled kept_in opposite_in kept_line opposite_line exchanged
nots_made = refl

-- `P,0` `P,1` `A,0,1` `N,2`
and_made : made (line letter_p 0 0 ∷ line letter_p 1 0 ∷ line letter_a 0 1 ∷ line letter_n 2 0 ∷ []) 4 9
    ≡ line letter_p 0 0 ∷ line letter_n 0 0 ∷ line letter_p 1 0 ∷ line letter_n 2 0 ∷ line letter_a 0 2 ∷ line letter_o 1 3 ∷ line letter_o 1 3 ∷ line letter_a 0 2 ∷ line letter_o 1 3 ∷ []
unfolding profile_lines doubled kept_in opposite_in kept_line opposite_line exchanged
and_made = refl

-- Z's nots stand on facts; its profile's too
z_in : (in_profile Z ≡ true) × (in_profile (profile_of Z) ≡ true)
unfolding in_profile line_in_profile each profile_of profile_lines doubled kept_in opposite_in kept_line opposite_line exchanged
z_in = (refl, refl)

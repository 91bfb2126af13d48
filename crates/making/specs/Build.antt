-- What a formula and a path make, step by step and within the limits.
use Rattle.aldlf.specs.Constants.{letter_t, letter_p, letter_n, letter_a, letter_o, letter_d, letter_b}
use Rattle.formula.specs.Formula.{Formula, always, fact, neg, both, either, some, every, Path, step, seq, alt, many}
use Rattle.formula.specs.Numbering.{dir_number}
use Rattle.making.specs.Work.{Made, grown, newest_of, automaton_of, under, part_of, frame_of, begun, step_drawn, seq_drawn, alt_drawn, star_drawn, emitted}

unfoldable mutual
  -- What is made, with a formula more.
  pub build : Formula → Made → Made
  build always w = grown letter_t 0 0 w
  build (fact f) w = grown letter_p f 0 w
  build (neg a) w = under letter_n 0 (build a w)
  build (both a b) w = let u = build a w in let v = build b u in grown letter_a (newest_of u) (newest_of v) v
  build (either a b) w = let u = build a w in let v = build b u in grown letter_o (newest_of u) (newest_of v) v
  build (some p a) w = let u = emitted (frame_of w) (build_in p (begun w)) in under letter_d (automaton_of u) (build a u)
  build (every p a) w = let u = emitted (frame_of w) (build_in p (begun w)) in under letter_b (automaton_of u) (build a u)

  -- What is made, with a path more.
  pub build_in : Path → Made → Made
  build_in (step d a) w = step_drawn (dir_number d) (build a w)
  build_in (seq p q) w = let u = build_in p w in seq_drawn (part_of u) (build_in q u)
  build_in (alt p q) w = let u = build_in p w in alt_drawn (part_of u) (build_in q u)
  build_in (many p) w = star_drawn (build_in p w)

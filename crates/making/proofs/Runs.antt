-- Running the instructions of a formula makes what the formula makes, and leaves what is kept as it was. By induction over the formula, instruction by instruction.
use Prim.Native.Nat.{ℕ, ◌<◌}
use mathlib.Core.Path.{◌≡◌, refl, ap, sym, ◌∙◌}
use mathlib.Core.Bool.{Bool, true, false, cond}
use mathlib.Core.List.{List, [], ◌∷◌, ◌++◌, append_assoc}
use lib.Dec.{eqb}
use borrow.Author.Tests.{lt-ltb}
use Rattle.aldlf.specs.Constants.{fact_limit, letter_t, letter_p, letter_n, letter_a, letter_o, letter_d, letter_b}
use Rattle.aldlf.specs.Sheet.{Dir, ahead, back, stay}
use Rattle.formula.specs.Formula.{Formula, always, fact, neg, both, either, some, every, Path, step, seq, alt, many}
use Rattle.formula.specs.Numbering.{dir_number}
use Rattle.formula.specs.Code.{code_true, code_keep, code_and, code_or, code_not, code_apply, code_begin, code_some, code_every, code_step, code_keep_part, code_seq, code_alt, code_many, code, code_in}
use Rattle.formula.proofs.Growing.{FactsIn, FactsOf}
use Rattle.making.specs.declared.stack.Kept.{Kept}
use Rattle.making.specs.Work.{Made, over, live, grown, newest_of, automaton_of, under, node_kept, mark_kept, part_of, frame_of, begun, step_drawn, seq_drawn, alt_drawn, star_drawn, emitted}
use Rattle.making.specs.Run.{bench, node_on, kept_by, drawn_on, emitted_on, exec_on, exec, run}
use Rattle.making.specs.Build.{build, build_in}

pub grown-over : (l x y : ℕ) → grown l x y over ≡ over
unfolding grown
grown-over l x y = refl

pub under-over : (l k : ℕ) → under l k over ≡ over
unfolding under
under-over l k = go (eqb l letter_n)
  where
    go : (b : Bool) → cond b (grown l (newest_of over) 0 over) (grown l k (newest_of over) over) ≡ over
    go true = grown-over l (newest_of over) 0
    go false = grown-over l k (newest_of over)

-- EACH INSTRUCTION, whether a limit is passed or not
exec_true : (w : Made) (s : List Kept) → exec code_true (bench w s) ≡ bench (grown letter_t 0 0 w) s
unfolding exec exec_on node_on grown
exec_true over s = refl
exec_true (live t o) s = refl

exec_fact : (x : ℕ) → x < fact_limit → (w : Made) (s : List Kept) → exec x (bench w s) ≡ bench (grown letter_p x 0 w) s
unfolding exec exec_on node_on grown
exec_fact x h over s = refl
exec_fact x h (live t o) s = rw (lt-ltb x fact_limit h)

exec_not : (w : Made) (s : List Kept) → exec code_not (bench w s) ≡ bench w (mark_kept letter_n 0 ∷ s)
unfolding exec exec_on kept_by
exec_not over s = refl
exec_not (live t o) s = refl

exec_apply : (k : Kept) (w : Made) (s : List Kept) → exec code_apply (bench w (k ∷ s)) ≡ bench (under k.a k.b w) s
unfolding exec exec_on node_on
exec_apply k over s = ap (λ (z : Made). bench z s) (sym (under-over k.a k.b))
exec_apply k (live t o) s = refl

exec_keep : (w : Made) (s : List Kept) → exec code_keep (bench w s) ≡ bench w (node_kept (newest_of w) ∷ s)
unfolding exec exec_on kept_by
exec_keep over s = refl
exec_keep (live t o) s = refl

exec_and : (k : Kept) (w : Made) (s : List Kept) → exec code_and (bench w (k ∷ s)) ≡ bench (grown letter_a k.a (newest_of w) w) s
unfolding exec exec_on node_on grown
exec_and k over s = refl
exec_and k (live t o) s = refl

exec_or : (k : Kept) (w : Made) (s : List Kept) → exec code_or (bench w (k ∷ s)) ≡ bench (grown letter_o k.a (newest_of w) w) s
unfolding exec exec_on node_on grown
exec_or k over s = refl
exec_or k (live t o) s = refl

exec_begin : (w : Made) (s : List Kept) → exec code_begin (bench w s) ≡ bench (begun w) (frame_of w ∷ s)
unfolding exec exec_on begun
exec_begin over s = refl
exec_begin (live t o) s = refl

exec_some : (k : Kept) (w : Made) (s : List Kept) → exec code_some (bench w (k ∷ s)) ≡ bench (emitted k w) (mark_kept letter_d (automaton_of (emitted k w)) ∷ s)
unfolding exec exec_on emitted_on emitted
exec_some k over s = refl
exec_some k (live t o) s = refl

exec_every : (k : Kept) (w : Made) (s : List Kept) → exec code_every (bench w (k ∷ s)) ≡ bench (emitted k w) (mark_kept letter_b (automaton_of (emitted k w)) ∷ s)
unfolding exec exec_on emitted_on emitted
exec_every k over s = refl
exec_every k (live t o) s = refl

exec_step : (d : Dir) (w : Made) (s : List Kept) → exec (code_step d) (bench w s) ≡ bench (step_drawn (dir_number d) w) s
unfolding exec exec_on drawn_on step_drawn
exec_step ahead over s = refl
exec_step back over s = refl
exec_step stay over s = refl
exec_step ahead (live t o) s = refl
exec_step back (live t o) s = refl
exec_step stay (live t o) s = refl

exec_part : (w : Made) (s : List Kept) → exec code_keep_part (bench w s) ≡ bench w (part_of w ∷ s)
unfolding exec exec_on kept_by
exec_part over s = refl
exec_part (live t o) s = refl

exec_seq : (k : Kept) (w : Made) (s : List Kept) → exec code_seq (bench w (k ∷ s)) ≡ bench (seq_drawn k w) s
unfolding exec exec_on drawn_on seq_drawn
exec_seq k over s = refl
exec_seq k (live t o) s = refl

exec_alt : (k : Kept) (w : Made) (s : List Kept) → exec code_alt (bench w (k ∷ s)) ≡ bench (alt_drawn k w) s
unfolding exec exec_on drawn_on alt_drawn
exec_alt k over s = refl
exec_alt k (live t o) s = refl

exec_many : (w : Made) (s : List Kept) → exec code_many (bench w s) ≡ bench (star_drawn w) s
unfolding exec exec_on drawn_on star_drawn
exec_many over s = refl
exec_many (live t o) s = refl

-- the instructions of a part, and those behind it
one_part : (x r : List ℕ) (k : ℕ) → (x ++ (k ∷ [])) ++ r ≡ x ++ (k ∷ r)
one_part x r k = append_assoc x (k ∷ []) r

two_parts : (x y r : List ℕ) (k j : ℕ) → (x ++ (k ∷ (y ++ (j ∷ [])))) ++ r ≡ x ++ (k ∷ (y ++ (j ∷ r)))
two_parts x y r k j = append_assoc x (k ∷ (y ++ (j ∷ []))) r ∙ ap (λ (z : List ℕ). x ++ (k ∷ z)) (append_assoc y (j ∷ []) r)

mutual
  unfolding run build

  -- THE RUN OF A FORMULA'S INSTRUCTIONS
  pub run-code : (a : Formula) → FactsIn a → (r : List ℕ) (w : Made) (s : List Kept) → run (code a ++ r) (bench w s) ≡ run r (bench (build a w) s)
  run-code always f r w s = ap (run r) (exec_true w s)
  run-code (fact x) f r w s = ap (run r) (exec_fact x f w s)
  run-code (neg a) f r w s =
      let k = mark_kept letter_n 0 in
      ap (run ((code a ++ (code_apply ∷ [])) ++ r)) (exec_not w s)
      ∙ ap (λ (l : List ℕ). run l (bench w (k ∷ s))) (one_part (code a) r code_apply)
      ∙ run-code a f (code_apply ∷ r) w (k ∷ s)
      ∙ ap (run r) (exec_apply k (build a w) s)
  run-code (both a b) f r w s =
      let u = build a w in
      let k = node_kept (newest_of u) in
      ap (λ (l : List ℕ). run l (bench w s)) (two_parts (code a) (code b) r code_keep code_and)
      ∙ run-code a f.0 (code_keep ∷ (code b ++ (code_and ∷ r))) w s
      ∙ ap (run (code b ++ (code_and ∷ r))) (exec_keep u s)
      ∙ run-code b f.1 (code_and ∷ r) u (k ∷ s)
      ∙ ap (run r) (exec_and k (build b u) s)
  run-code (either a b) f r w s =
      let u = build a w in
      let k = node_kept (newest_of u) in
      ap (λ (l : List ℕ). run l (bench w s)) (two_parts (code a) (code b) r code_keep code_or)
      ∙ run-code a f.0 (code_keep ∷ (code b ++ (code_or ∷ r))) w s
      ∙ ap (run (code b ++ (code_or ∷ r))) (exec_keep u s)
      ∙ run-code b f.1 (code_or ∷ r) u (k ∷ s)
      ∙ ap (run r) (exec_or k (build b u) s)
  run-code (some p a) f r w s =
      let u = emitted (frame_of w) (build_in p (begun w)) in
      let k = mark_kept letter_d (automaton_of u) in
      ap (run ((code_in p ++ (code_some ∷ (code a ++ (code_apply ∷ [])))) ++ r)) (exec_begin w s)
      ∙ ap (λ (l : List ℕ). run l (bench (begun w) (frame_of w ∷ s))) (two_parts (code_in p) (code a) r code_some code_apply)
      ∙ run_in p f.0 (code_some ∷ (code a ++ (code_apply ∷ r))) (begun w) (frame_of w ∷ s)
      ∙ ap (run (code a ++ (code_apply ∷ r))) (exec_some (frame_of w) (build_in p (begun w)) s)
      ∙ run-code a f.1 (code_apply ∷ r) u (k ∷ s)
      ∙ ap (run r) (exec_apply k (build a u) s)
  run-code (every p a) f r w s =
      let u = emitted (frame_of w) (build_in p (begun w)) in
      let k = mark_kept letter_b (automaton_of u) in
      ap (run ((code_in p ++ (code_every ∷ (code a ++ (code_apply ∷ [])))) ++ r)) (exec_begin w s)
      ∙ ap (λ (l : List ℕ). run l (bench (begun w) (frame_of w ∷ s))) (two_parts (code_in p) (code a) r code_every code_apply)
      ∙ run_in p f.0 (code_every ∷ (code a ++ (code_apply ∷ r))) (begun w) (frame_of w ∷ s)
      ∙ ap (run (code a ++ (code_apply ∷ r))) (exec_every (frame_of w) (build_in p (begun w)) s)
      ∙ run-code a f.1 (code_apply ∷ r) u (k ∷ s)
      ∙ ap (run r) (exec_apply k (build a u) s)

  -- of a path's
  run_in : (p : Path) → FactsOf p → (r : List ℕ) (w : Made) (s : List Kept) → run (code_in p ++ r) (bench w s) ≡ run r (bench (build_in p w) s)
  run_in (step d a) f r w s =
      ap (λ (l : List ℕ). run l (bench w s)) (one_part (code a) r (code_step d))
      ∙ run-code a f (code_step d ∷ r) w s
      ∙ ap (run r) (exec_step d (build a w) s)
  run_in (seq p q) f r w s =
      let u = build_in p w in
      ap (λ (l : List ℕ). run l (bench w s)) (two_parts (code_in p) (code_in q) r code_keep_part code_seq)
      ∙ run_in p f.0 (code_keep_part ∷ (code_in q ++ (code_seq ∷ r))) w s
      ∙ ap (run (code_in q ++ (code_seq ∷ r))) (exec_part u s)
      ∙ run_in q f.1 (code_seq ∷ r) u (part_of u ∷ s)
      ∙ ap (run r) (exec_seq (part_of u) (build_in q u) s)
  run_in (alt p q) f r w s =
      let u = build_in p w in
      ap (λ (l : List ℕ). run l (bench w s)) (two_parts (code_in p) (code_in q) r code_keep_part code_alt)
      ∙ run_in p f.0 (code_keep_part ∷ (code_in q ++ (code_alt ∷ r))) w s
      ∙ ap (run (code_in q ++ (code_alt ∷ r))) (exec_part u s)
      ∙ run_in q f.1 (code_alt ∷ r) u (part_of u ∷ s)
      ∙ ap (run r) (exec_alt (part_of u) (build_in q u) s)
  run_in (many p) f r w s =
      ap (λ (l : List ℕ). run l (bench w s)) (one_part (code_in p) r code_many)
      ∙ run_in p f (code_many ∷ r) w s
      ∙ ap (run r) (exec_many (build_in p w) s)

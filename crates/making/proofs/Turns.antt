-- One turn of the loop over the instructions: what is left of them, run from where it stands, always comes to what all of them come to.
use Prim.Native.Nat.{ℕ, ◌+◌, ◌≤◌, ◌<◌}
use mathlib.Core.Path.{◌≡◌, refl, ap, sym, ◌∙◌}
use mathlib.Core.Bool.{Bool, true, false}
use mathlib.Core.List.{List, [], ◌∷◌}
use native.Mathlib.Omega.{arith}
use native.Mathlib.Numerals.{add-one}
use lib.ListN.{length, get_or, drop, set, replicate, length-replicate, length-map, drop_of_length-le}
use lib.Seq.{drop-cons}
use borrow.Author.Tests.{ne_eqb}
use Rattle.std.specs.Prelude.{Option, Some, None, IfSome}
use Rattle.aldlf.specs.Constants.{node_limit, automaton_limit, edge_limit, letter_t}
use Rattle.aldlf.specs.Sheet.{no_automaton}
use Rattle.aldlf.specs.declared.Edge.{Edge}
use Rattle.aldlf.specs.declared.Automaton.{Automaton}
use Rattle.aldlf.specs.declared.Table.{Table}
use Rattle.packing.specs.Numbers.{edge_in}
use Rattle.making.specs.declared.stack.Kept.{Kept}
use Rattle.making.specs.declared.counts.Counts.{Counts}
use Rattle.making.specs.declared.ending.Ended.{Ended}
use Rattle.making.specs.Work.{Outline, Made, over, live, grown}
use Rattle.making.specs.Run.{Bench, bench, makes_node, node_on, keeps, kept_on, begun_on, draws, drawn_on, ends_path, emitted_on, exec_on, exec, run, first_bench, Making, making_of}
use Rattle.making.specs.Numbers.{kept_of, lines_in, edges_in, table_in, outline_in, work_in, bench_in, bench_by, bench_ended, no_counts, Sized, Lined, NodeMade, KeptMore, PathDrawn, PathEnded}
use Rattle.making.proofs.Lines.{bench_same, some_as}

-- AN INSTRUCTION BY ITS GROUP
module _ (t : Table) (o : Outline) (s : List Kept) (k : ℕ) where
  is_node : makes_node k ≡ true → node_on k (live t o) s ≡ exec k (bench (live t o) s)
  unfolding exec exec_on
  is_node e = rw e

  is_kept : makes_node k ≡ false → keeps k ≡ true → kept_on k (live t o) s ≡ exec k (bench (live t o) s)
  unfolding exec exec_on
  is_kept d e = rw (d, e)

  is_begun : makes_node k ≡ false → keeps k ≡ false → k ≡ 123 → begun_on (live t o) s ≡ exec k (bench (live t o) s)
  unfolding exec exec_on
  is_begun d e h = rw h

  is_drawn : makes_node k ≡ false → keeps k ≡ false → ¬ (k ≡ 123) → draws k ≡ true → drawn_on k (live t o) s ≡ exec k (bench (live t o) s)
  unfolding exec exec_on
  is_drawn d e h g = rw (d, e, ne_eqb k 123 h, g)

  is_ended : makes_node k ≡ false → keeps k ≡ false → ¬ (k ≡ 123) → draws k ≡ false → ends_path k ≡ true → emitted_on k (live t o) s ≡ exec k (bench (live t o) s)
  unfolding exec exec_on
  is_ended d e h g i = rw (d, e, ne_eqb k 123 h, g, i)

  is_none : makes_node k ≡ false → keeps k ≡ false → ¬ (k ≡ 123) → draws k ≡ false → ends_path k ≡ false → bench (live t o) s ≡ exec k (bench (live t o) s)
  unfolding exec exec_on
  is_none d e h g i = rw (d, e, ne_eqb k 123 h, g, i)

-- ONCE A LIMIT IS PASSED, it stays so
run-over : (ks : List ℕ) → run ks (bench over []) ≡ bench over []
unfolding run exec
run-over [] = refl
run-over (k ∷ ks) = run-over ks

run_one : (code : List ℕ) (i : ℕ) (b : Bench) → i < length code → run (drop i code) b ≡ run (drop (i + 1) code) (exec (get_or code i 0) b)
unfolding run
run_one code i b h = ap (λ (ks : List ℕ). run ks b) (drop-cons code i 0 h) ∙ ap (λ (j : ℕ). run (drop j code) (exec (get_or code i 0) b)) (sym (add-one i))

-- where the loop stands at instruction i, on a stack of n places
pub record Stands (code : List ℕ) (n : ℕ) (st ls ks es : List ℕ) (ms : List Automaton) (c : Counts) (i : ℕ) : Type 0 where
  pub within : i ≤ length code
  pub top : c.top ≤ i
  pub sized : Sized c
  pub stack_long : length st ≡ n
  pub lines_long : length ls ≡ node_limit
  pub links_long : length ks ≡ edge_limit
  pub edges_long : length es ≡ edge_limit
  pub going : run (drop i code) (bench_in c (lines_in ls) ms (edges_in es) (edges_in ks) st) ≡ run code first_bench

-- where it stands after an answer; none ends the run
abbrev pub Turned : (code : List ℕ) (n : ℕ) (st ls ks es : List ℕ) (ms : List Automaton) → Option Counts → ℕ → Type 0
Turned code n st ls ks es ms None i = making_of over ≡ making_of (run code first_bench).made
Turned code n st ls ks es ms (Some c) i = Stands code n st ls ks es ms c i

abbrev pub TurnedEnd : (code : List ℕ) (n : ℕ) (st ls ks es : List ℕ) (ms : List Automaton) → ℕ → Option Ended → ℕ → Type 0
TurnedEnd code n st ls ks es ms k None i = making_of over ≡ making_of (run code first_bench).made
TurnedEnd code n st ls ks es ms k (Some e) i = Stands code n st ls ks es (set ms k e.automaton) e.counts i

module _ {code : List ℕ} {n : ℕ} {st ls ks es : List ℕ} {ms : List Automaton} {c : Counts} {i : ℕ} (S : Stands code n st ls ks es ms c i) where
  made-of : (w : Made) (s : List Kept) → w ≡ (bench w s).made
  made-of over s = refl
  made-of (live t o) s = refl

  -- no instruction is left
  pub turn_last : length code ≤ i → making_of (work_in c (lines_in ls) ms (edges_in es) (edges_in ks)) ≡ making_of (run code first_bench).made
  unfolding run
  turn_last h =
      let w = work_in c (lines_in ls) ms (edges_in es) (edges_in ks) in
      let b = bench_in c (lines_in ls) ms (edges_in es) (edges_in ks) st in
      ap making_of (made-of w (kept_of st c.top))
      ∙ ap (λ (z : Bench). making_of z.made) (ap (λ (l : List ℕ). run l b) (sym (drop_of_length-le code h)) ∙ S.going)

  module _ (less : i < length code) where
    turned_on : (r : Counts) (su ls' ks' es' : List ℕ) (ms' : List Automaton) → r.top ≤ c.top + 1 → Sized r → length su ≡ n → length ls' ≡ node_limit → length ks' ≡ edge_limit → length es' ≡ edge_limit
        → bench_in r (lines_in ls') ms' (edges_in es') (edges_in ks') su ≡ exec (get_or code i 0) (bench_in c (lines_in ls) ms (edges_in es) (edges_in ks) st) → Stands code n su ls' ks' es' ms' r (i + 1)
    turned_on r su ls' ks' es' ms' t z a b d e g =
        let u = S.top in
        record {
          within = omega arith;
          top = omega arith;
          sized = z;
          stack_long = a;
          lines_long = b;
          links_long = d;
          edges_long = e;
          going = ap (run (drop (i + 1) code)) g ∙ sym (run_one code i (bench_in c (lines_in ls) ms (edges_in es) (edges_in ks) st) less) ∙ S.going;
        }

    stopped : bench over [] ≡ exec (get_or code i 0) (bench_in c (lines_in ls) ms (edges_in es) (edges_in ks) st) → making_of over ≡ making_of (run code first_bench).made
    stopped g =
        ap (λ (z : Bench). making_of z.made)
        (sym (run-over (drop (i + 1) code)) ∙ ap (run (drop (i + 1) code)) g ∙ sym (run_one code i (bench_in c (lines_in ls) ms (edges_in es) (edges_in ks) st) less) ∙ S.going)

    turned : (r : Option Counts) (su ls' ks' es' : List ℕ) → IfSome r (λ x. x.top ≤ c.top + 1) → IfSome r (λ x. Sized x) → length su ≡ n → length ls' ≡ node_limit → length ks' ≡ edge_limit → length es' ≡ edge_limit
        → bench_by r (lines_in ls') ms (edges_in es') (edges_in ks') su ≡ exec (get_or code i 0) (bench_in c (lines_in ls) ms (edges_in es) (edges_in ks) st) → Turned code n su ls' ks' es' ms r (i + 1)
    turned None su ls' ks' es' t z a b d e g = stopped g
    turned (Some x) su ls' ks' es' t z a b d e g = turned_on x su ls' ks' es' ms t z a b d e g

    turned-end : (r : Option Ended) (su es' : List ℕ) → IfSome r (λ x. x.counts.top ≤ c.top + 1) → IfSome r (λ x. Sized x.counts) → length su ≡ n → length es' ≡ edge_limit
        → bench_ended r c.automata (lines_in ls) ms (edges_in es') (edges_in ks) su ≡ exec (get_or code i 0) (bench_in c (lines_in ls) ms (edges_in es) (edges_in ks) st) → TurnedEnd code n su ls ks es' ms c.automata r (i + 1)
    turned-end None su es' t z a e g = stopped g
    turned-end (Some x) su es' t z a e g = turned_on x.counts su ls ks es' (set ms c.automata x.automaton) t z a S.lines_long S.links_long e g

    abbrev T : Table
    T = table_in c (lines_in ls) ms (edges_in es)

    abbrev O : Outline
    O = outline_in c (edges_in ks)

    abbrev op : ℕ
    op = get_or code i 0

    pub turn_node : {r : Option Counts} {ls' : List ℕ} (y : Bool) → y ≡ makes_node (get_or code i 0) → y ≡ true → NodeMade (node_on (get_or code i 0)) c r st ls ls' → Turned code n st ls' ks es ms r (i + 1)
    turn_node {r} {ls'} y e h d =
        turned r st ls' ks es (some_as r d.top (λ x h. omega arith)) (some_as r d.sized (λ x h. h S.sized)) S.stack_long (d.long ∙ S.lines_long) S.links_long S.edges_long
        (d.work ms (edges_in es) (edges_in ks) ∙ is_node T O (kept_of st c.top) op (sym e ∙ h))

    module _ (y : Bool) (e : y ≡ makes_node (get_or code i 0)) (h : y ≡ false) where
      pub turn_kept : {r : Option Counts} {su : List ℕ} (y₂ : Bool) → y₂ ≡ keeps (get_or code i 0) → y₂ ≡ true → length su ≡ length st → KeptMore (kept_on (get_or code i 0)) c r st su → Turned code n su ls ks es ms r (i + 1)
      turn_kept {r} {su} y₂ e₂ h₂ l d =
          turned r su ls ks es d.top d.sized (l ∙ S.stack_long) S.lines_long S.links_long S.edges_long
          (d.work (lines_in ls) ms (edges_in es) (edges_in ks) (length-map ks edge_in ∙ S.links_long) ∙ is_kept T O (kept_of st c.top) op (sym e ∙ h) (sym e₂ ∙ h₂))

      module _ (y₂ : Bool) (e₂ : y₂ ≡ keeps (get_or code i 0)) (h₂ : y₂ ≡ false) where
        pub turn_begun : {r : Option Counts} {su : List ℕ} → get_or code i 0 ≡ 123 → length su ≡ length st → KeptMore begun_on c r st su → Turned code n su ls ks es ms r (i + 1)
        turn_begun {r} {su} g l d =
            turned r su ls ks es d.top d.sized (l ∙ S.stack_long) S.lines_long S.links_long S.edges_long
            (d.work (lines_in ls) ms (edges_in es) (edges_in ks) (length-map ks edge_in ∙ S.links_long) ∙ is_begun T O (kept_of st c.top) op (sym e ∙ h) (sym e₂ ∙ h₂) g)

        module _ (g : ¬ (get_or code i 0 ≡ 123)) (y₃ : Bool) (e₃ : y₃ ≡ draws (get_or code i 0)) where
          pub turn_drawn : {r : Option Counts} {ks' : List ℕ} → y₃ ≡ true → PathDrawn (drawn_on (get_or code i 0)) c r st ks ks' → Turned code n st ls ks' es ms r (i + 1)
          turn_drawn {r} {ks'} h₃ d =
              turned r st ls ks' es (some_as r d.top (λ x h. omega arith)) d.sized S.stack_long S.lines_long d.long S.edges_long
              (d.work (lines_in ls) ms (edges_in es) ∙ is_drawn T O (kept_of st c.top) op (sym e ∙ h) (sym e₂ ∙ h₂) g (sym e₃ ∙ h₃))

          module _ (h₃ : y₃ ≡ false) (y₄ : Bool) (e₄ : y₄ ≡ ends_path (get_or code i 0)) where
            pub turn_ended : {r : Option Ended} {su es' : List ℕ} → y₄ ≡ true → length su ≡ length st → PathEnded (emitted_on (get_or code i 0)) c r ks st su es es'
                → TurnedEnd code n su ls ks es' ms c.automata r (i + 1)
            turn_ended {r} {su} {es'} h₄ l d =
                turned-end r su es' d.top d.sized (l ∙ S.stack_long) (d.long ∙ S.edges_long)
                (d.work (lines_in ls) ms ∙ is_ended T O (kept_of st c.top) op (sym e ∙ h) (sym e₂ ∙ h₂) g (sym e₃ ∙ h₃) (sym e₄ ∙ h₄))

            pub turn_none : y₄ ≡ false → Stands code n st ls ks es ms c (i + 1)
            turn_none h₄ =
                turned_on c st ls ks es ms (omega arith) S.sized S.stack_long S.lines_long S.links_long S.edges_long
                (is_none T O (kept_of st c.top) op (sym e ∙ h) (sym e₂ ∙ h₂) g (sym e₃ ∙ h₃) (sym e₄ ∙ h₄))

lives : Made → ℕ
lives over = 0
lives (live t o) = 1

-- BEFORE THE FIRST INSTRUCTION: node 0 is there, and nothing is kept
first_work : (ms : List Automaton) → ms ≡ replicate automaton_limit no_automaton
    → grown letter_t 0 0 (work_in no_counts (lines_in (replicate node_limit 0)) ms (edges_in (replicate edge_limit 0)) (edges_in (replicate edge_limit 0))) ≡ first_bench.made
unfolding grown
first_work ms e = rw e

first-bench : (w : Made) (s : List Kept) → w ≡ first_bench.made → s ≡ [] → bench w s ≡ first_bench
first-bench w s e g = bench_same e g

pub first_stands : (code st ls : List ℕ) (ms : List Automaton) (c : Counts) → ms ≡ replicate automaton_limit no_automaton → Lined (grown letter_t 0 0) no_counts (Some c) (replicate node_limit 0) ls
    → Stands code (length st) st ls (replicate edge_limit 0) (replicate edge_limit 0) ms c 0
unfolding kept_of
first_stands code st ls ms c e d =
    let z = d.top in
    record {
      within = omega arith;
      top = omega arith;
      sized = d.sized (omega arith);
      stack_long = refl;
      lines_long = d.long ∙ length-replicate {A = ℕ} node_limit 0;
      links_long = length-replicate {A = ℕ} edge_limit 0;
      edges_long = length-replicate {A = ℕ} edge_limit 0;
      going =
          ap (run code)
          (first-bench (work_in c (lines_in ls) ms (edges_in (replicate edge_limit 0)) (edges_in (replicate edge_limit 0))) (kept_of st c.top)
          (d.work ms (edges_in (replicate edge_limit 0)) (edges_in (replicate edge_limit 0)) ∙ first_work ms e)
          (ap (kept_of st) z));
    }

-- there is room for node 0
pub first_none : {A : Type 0} {ls : List ℕ} → Lined (grown letter_t 0 0) no_counts None (replicate node_limit 0) ls → A
unfolding lives
first_none d =
    let ms : List Automaton = replicate automaton_limit no_automaton in
    let es : List Edge = edges_in (replicate edge_limit 0) in
    let e : over ≡ first_bench.made = d.work ms es es ∙ first_work ms refl in
    let z : ◌≡◌ {A = ℕ} 0 1 = ap lives e in
    absurd (omega arith)

-- the table put together
pub finish_live : (t u : Table) (o : Outline) → t ≡ u → ◌≡◌ {A = Making} (record { fits = true; table = t }) (making_of (live u o))
unfolding making_of
finish_live t u o e = rw e

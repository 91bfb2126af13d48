-- `judge_each` meets its contract: the first k logs are judged, each at its place. Assumes nothing.
use Prim.Native.Nat.{◌-◌, ◌+◌}
use native.Mathlib.Omega.{arith}
use mathlib.Core.Path.{◌≡◌}
use lib.ListN.{length, get_or, take, drop}
use Rattle.aldlf.specs.Sheet.{sheet_of}
use Rattle.aldlf.proofs.Outcomes.{held_le}
use Rattle.batch.proofs.Places.{start, Turn, turn, same_verdicts, same_held, log_long, room_long, next, all_words, all_counts}
use borrow.Author.Rules.{rules}
use Rattle.batch.proofs.logs.judge_each.Goals as goal
use Rattle.batch.proofs.logs.judge_each.Goals.{At-loop-k, In-loop-k}

-- what is known of log k at the loop's test
known : (c : In-loop-k) → let a = c.args in let l = c.loop-k in Turn a.words.now a.lengths.now a.verdicts.now a.held.now l.at l.k
known c =
    let a = c.args in
    let w = c.requires.prepared in
    let l = c.loop-k in
    turn (sheet_of w.0) a.words.now a.lengths.now a.verdicts.now a.held.now l.verdicts l.held l.at l.k (l.invariant w.0 w.1) c.loop-k-test.true

-- log k, cut out of the words, has as many as its length says
cut : (c : In-loop-k) → let a = c.args in let l = c.loop-k in let n = get_or a.lengths.now l.k 0 in length (take (l.at + n - l.at) (drop l.at a.words.now)) ≡ n
cut c =
    let a = c.args in
    let w = c.requires.prepared in
    let l = c.loop-k in
    log_long (sheet_of w.0) a.words.now a.lengths.now a.verdicts.now a.held.now l.verdicts l.held l.at l.k (l.invariant w.0 w.1) c.loop-k-test.true

long : (c : At-loop-k) → length c.loop-k.verdicts ≡ length c.args.verdicts.now
long c =
    let a = c.args in
    let w = c.requires.prepared in
    let l = c.loop-k in
    same_verdicts (sheet_of w.0) a.words.now a.lengths.now a.verdicts.now a.held.now l.verdicts l.held l.at l.k (l.invariant w.0 w.1)

long_held : (c : At-loop-k) → length c.loop-k.held ≡ length c.args.held.now
long_held c =
    let a = c.args in
    let w = c.requires.prepared in
    let l = c.loop-k in
    same_held (sheet_of w.0) a.words.now a.lengths.now a.verdicts.now a.held.now l.verdicts l.held l.at l.k (l.invariant w.0 w.1)

pub loop-k-init : goal.loop-k-init
loop-k-init c =
    λ t P. start (sheet_of t) c.args.words.now c.args.lengths.now c.args.verdicts.now c.args.held.now c.requires.lengths_value c.requires.lengths_value_2

pub overflow_add-end : goal.overflow_add-end
overflow_add-end c = omega (arith, (known (goal.at.overflow_add-end c).In-loop-k).log.there)

pub offset_bounds-words-at : goal.offset_bounds-words-at
offset_bounds-words-at c = let there = (known (goal.at.offset_bounds-words-at c).In-loop-k).log.there in search rules

pub overflow_mul-at : goal.overflow_mul-at
overflow_mul-at c = let t = (known (goal.at.overflow_mul-at c).In-loop-k).verdicts_room in let e = long (goal.at.overflow_mul-at c).At-loop-k in search rules

pub overflow_mul-end : goal.overflow_mul-end
overflow_mul-end c = let t = (known (goal.at.overflow_mul-end c).In-loop-k).verdicts_room in let e = long (goal.at.overflow_mul-end c).At-loop-k in search rules

pub offset_bounds-verdicts-at : goal.offset_bounds-verdicts-at
offset_bounds-verdicts-at c = let t = (known (goal.at.offset_bounds-verdicts-at c).In-loop-k).verdicts_room in let e = long (goal.at.offset_bounds-verdicts-at c).At-loop-k in search rules

pub slice_bounds-judge_one-end : goal.slice_bounds-judge_one-end
slice_bounds-judge_one-end c = omega (arith, (known (goal.at.slice_bounds-judge_one-end c).In-loop-k).log.there)

pub slice_bounds-judge_one-end-in-loop-k : goal.slice_bounds-judge_one-end-in-loop-k
slice_bounds-judge_one-end-in-loop-k c =
    omega (arith, (known (goal.at.slice_bounds-judge_one-end-in-loop-k c).In-loop-k).verdicts_room, long (goal.at.slice_bounds-judge_one-end-in-loop-k c).At-loop-k)

pub judge_one-n-requires : goal.judge_one-n-requires
judge_one-n-requires c =
    let a = c.args in
    let l = c.loop-k in
    let t = known (goal.at.judge_one-n-requires c).In-loop-k in
    let n = cut (goal.at.judge_one-n-requires c).In-loop-k in
    let w = c.requires.prepared in
    let v = room_long (sheet_of w.0) a.words.now a.lengths.now a.verdicts.now a.held.now l.verdicts l.held l.at l.k (l.invariant w.0 w.1) c.loop-k-test.true in
    record { prepared = c.requires.prepared; log_len_bound = rw c.from.ensures (omega (arith, t.log.few, n), v) }

pub overflow_cast-held : goal.overflow_cast-held
overflow_cast-held c =
    let a = c.args in
    let w = c.requires.prepared in
    let l = c.loop-k in
    let n = get_or a.lengths.now l.k 0 in
    omega (arith, rw c.from.ensures at (c.judge_one-n.ensures.value w.0 w.1), held_le (sheet_of w.0) (take (l.at + n - l.at) (drop l.at a.words.now)), cut (goal.at.overflow_cast-held c).In-loop-k, (known (goal.at.overflow_cast-held c).In-loop-k).log.few)

pub offset_bounds-held-k : goal.offset_bounds-held-k
offset_bounds-held-k c = let t = (known (goal.at.offset_bounds-held-k c).In-loop-k).held_room in let e = long_held (goal.at.offset_bounds-held-k c).At-loop-k in omega arith

pub bounds-held-k : goal.bounds-held-k
bounds-held-k c = let t = (known (goal.at.bounds-held-k c).In-loop-k).held_room in let e = long_held (goal.at.bounds-held-k c).At-loop-k in omega arith

pub loop-k-preserved : goal.loop-k-preserved
loop-k-preserved c =
    let a = c.args in
    let w = c.requires.prepared in
    let l = c.loop-k in
    let j = c.judge_one-n in
    λ t P. rw c.from.ensures (next (sheet_of t) a.words.now a.lengths.now a.verdicts.now a.held.now l.verdicts l.held l.at l.k (l.invariant t P) c.loop-k-test.true
    j.new.verdicts j.result (rw c.from.ensures at (j.ensures.verdicts_after t P)) (rw c.from.ensures at (j.ensures.value t P)))

pub returns : goal.returns
returns c =
    let a = c.args in
    let l = c.loop-k in record { verdicts_after = λ t P. all_words (sheet_of t) a.words.now a.lengths.now a.verdicts.now a.held.now l.verdicts l.held l.at l.k (l.invariant t P) c.requires.lengths_value c.loop-k-test.false; held_after = λ t P. all_counts (sheet_of t) a.words.now a.lengths.now a.verdicts.now a.held.now l.verdicts l.held l.at l.k (l.invariant t P) c.requires.lengths_value c.loop-k-test.false }

-- The parser's cycle of six functions meets its contracts: the depth that is left falls at each mark, three times over for the calls between; each loop goes on by the text that is left. Assumes nothing.
use Prim.Native.Nat.{ℕ, ◌+◌, ◌-◌, ◌≤◌, ◌<◌}
use mathlib.Core.Path.{◌≡◌, refl, sym, subst, ap, ◌∙◌}
use native.Mathlib.Omega.{arith}
use lib.ListN.{length}
use Rattle.formula.specs.Formula.{Formula, Path}
use Rattle.formula.specs.Parse.{Inner, byte, map_got, is_prefix, operand_at, inner}
use Rattle.parsing.specs.Work.{work_of}
use Rattle.std.specs.Prelude.{Ok, Err, Option}
use Rattle.std.specs.Option.{unwrap_or}
use Rattle.std.proofs.lemmas.Result.{err_from_is_err_and}
use Rattle.parsing.specs.Build.{build, build_in, seen_of, got_of, end_of}
use Rattle.parsing.proofs.Laws.{lost, is_there, not_there}
use Rattle.formula.proofs.Bytes.{byte_there}
use Rattle.parsing.proofs.Chain.{inner_none, atom_bracket, atom_simple, piece_bracket, piece_none, piece_step, prefix_bang, prefix_path}
use Rattle.parsing.proofs.Ahead.{prefix_stands}
use Rattle.parsing.proofs.Wrap.{Waits, waits_start, waits_end, waits_fail}
use Rattle.parsing.proofs.Turns.{InFormula, formula_starts, formula_fails, formula_stop, formula_more, InPath, path_starts, path_fails, path_stop, path_more, operand_more}
use Rattle.parsing.specs.declared.parse.Next.TheVariants.{Goes, Stops}
use Rattle.parsing.proofs.parse.+parser.Goals as goal
use Rattle.parsing.proofs.parse.+parser.Goals.{formula-In-Goes, operand-In_ok-p, path-In-Goes}

pub atom-overflow_add-at : goal.atom-overflow_add-at
atom-overflow_add-at t c = let h = byte_there c.args.text.now c.args.at 40 (is_there c.byte_at.result _ 40 c.byte_at.ensures c.eq.ensures c.if-eq.true) (omega arith) in omega arith

pub atom-returns-then-eq : goal.atom-returns-then-eq
unfolding got_of
atom-returns-then-eq t c =
    let a = c.args in
    let L = c.formula-p.new.out in
    atom_bracket a.text.now (inner a.text.now a.depth) a.at (work_of a.w a.out.now) (is_there c.byte_at.result _ 40 c.byte_at.ensures c.eq.ensures c.if-eq.true)
    (seen_of c.formula-p.result L) (seen_of c.close.result L) c.formula-p.ensures (c.close.ensures L)

pub atom-returns : goal.atom-returns
unfolding got_of
atom-returns t c =
    let a = c.args in
    atom_simple a.text.now (inner a.text.now a.depth) a.at (work_of a.w a.out.now) (not_there c.byte_at.result _ 40 (omega arith) c.byte_at.ensures c.eq.ensures c.if-eq.false) _ c.simple.ensures

pub formula-returns-then-depth-eq0 : goal.formula-returns-then-depth-eq0
unfolding got_of
formula-returns-then-depth-eq0 t c =
    let a = c.args in
    ap (λ (z : Inner). map_got (λ (x : Formula). build x (work_of a.w0 a.out.now)) (z.formula a.start)) (sym (inner_none a.text.now a.depth c.if-depth-eq0.true))

pub formula-loop-p-init : goal.formula-loop-p-init
formula-loop-p-init t c =
    let a = c.args in
    let l : 1 ≤ a.depth = omega arith in
    (l, formula_starts a.text.now (a.depth - 1) a.depth a.start (work_of a.w0 a.out.now) l refl)

pub formula-returns-in_err-p : goal.formula-returns-in_err-p
formula-returns-in_err-p t c =
    let p = err_from_is_err_and c.from_residual.result c.from_residual.ensures.1 in
    let e = c.in_err-p.field-0.0 in
    rw (p.1, p.2) (formula_fails c.args.text.now (c.args.depth - 1) c.loop-p.invariant.1 (seen_of (Err e) c.operand.new.out) c.in_err-p.ensures (lost e c.operand.new.out))

pub formula-returns-in-Stops : goal.formula-returns-in-Stops
unfolding got_of
formula-returns-in-Stops t c =
    formula_stop c.args.text.now (c.args.depth - 1) c.loop-p.invariant.1 (seen_of (Ok c.in_ok-p.p) c.operand.new.out) c.in_ok-p.ensures refl
    (Stops c.in-Stops.writing) c.follow.new.out (unwrap_or c.byte_at-b.result 256) c.byte_at-b.ensures c.in-Stops.ensures refl

-- a turn of the formula's loop: the text goes on, and the chain stands behind the operator
formula_on : (t : ℕ) (c : formula-In-Goes t) → let d = c.args.depth in let w = work_of c.args.w0 c.args.out.now in let to = c.in_ok-p.p.at in let n = c.in-Goes in
    (c.loop-p.at < to) × (to < length c.args.text.now) × InFormula c.args.text.now (d - 1) ((inner c.args.text.now d).formula c.args.start) w (to + 1) (work_of n.writing c.follow.new.out) n.waiting.second n.waiting.first
formula_on t c =
    formula_more c.args.text.now (c.args.depth - 1) c.loop-p.invariant.1 (seen_of (Ok c.in_ok-p.p) c.operand.new.out) c.in_ok-p.ensures refl
    (Goes c.in-Goes.waiting c.in-Goes.writing) c.follow.new.out (unwrap_or c.byte_at-b.result 256) c.byte_at-b.ensures c.in-Goes.ensures refl

pub formula-overflow_add-at : goal.formula-overflow_add-at
formula-overflow_add-at t c = let h = (formula_on t (goal.at.formula-overflow_add-at t c).In-Goes).1 in omega arith

pub formula-loop-p-smaller : goal.formula-loop-p-smaller
formula-loop-p-smaller t c = let h = formula_on t (goal.at.formula-loop-p-smaller t c).In-Goes in omega (arith, h.0, h.1)

pub formula-loop-p-preserved : goal.formula-loop-p-preserved
formula-loop-p-preserved t c = (c.loop-p.invariant.0, (formula_on t (goal.at.formula-loop-p-preserved t c).In-Goes).2)

pub operand-loop-out-init : goal.operand-loop-out-init
operand-loop-out-init t c = waits_start c.args.text.now (inner c.args.text.now c.args.depth) (work_of c.args.w0 c.args.out.now) c.args.start

pub operand-returns-then-not-is_prefix : goal.operand-returns-then-not-is_prefix
unfolding got_of
operand-returns-then-not-is_prefix t c =
    let a = c.args in
    let e = ap (λ (z : ℕ). is_prefix z) (sym c.byte_at-b.ensures) ∙ sym c.is_prefix.ensures ∙ c.if-not-is_prefix.true in
    waits_end a.text.now (inner a.text.now a.depth) c.loop-out.invariant e (seen_of c.atom-q.result c.atom-q.new.out) (seen_of c.applied_to.result c.applied_to.new.out) c.atom-q.ensures c.applied_to.ensures

pub operand-returns-in_err-p : goal.operand-returns-in_err-p
operand-returns-in_err-p t c =
    let a = c.args in
    let b = ap (λ (z : ℕ). is_prefix z) (sym c.byte_at-b.ensures) ∙ sym c.is_prefix.ensures ∙ c.if-not-is_prefix.false in
    let p = err_from_is_err_and c.from_residual.result c.from_residual.ensures.1 in
    let e = c.in_err-p.field-0.0 in
    rw (p.1, p.2) (waits_fail a.text.now (inner a.text.now a.depth) c.loop-out.invariant b (seen_of (Err e) c.prefix.new.out) c.in_err-p.ensures (lost e c.prefix.new.out))

-- a turn of the operand's loop: the text goes on, and one prefix more was read
operand_on : (t : ℕ) (c : operand-In_ok-p t) → let I = inner c.args.text.now c.args.depth in let w = work_of c.args.w0 c.args.out.now in let p = seen_of (Ok c.in_ok-p.p) c.prefix.new.out in
    (c.loop-out.at < p.at) × (c.loop-out.at < length c.args.text.now) × Waits c.args.text.now I (operand_at c.args.text.now I c.args.start) w p.at (c.loop-out.count + 1) p.work
operand_on t c =
    let e = ap (λ (z : ℕ). is_prefix z) (sym c.byte_at-b.ensures) ∙ sym c.is_prefix.ensures ∙ c.if-not-is_prefix.false in
    operand_more c.args.text.now c.args.depth c.loop-out.invariant e (seen_of (Ok c.in_ok-p.p) c.prefix.new.out) c.in_ok-p.ensures refl

pub operand-overflow_add-count : goal.operand-overflow_add-count
operand-overflow_add-count t c =
    let h = (operand_on t (goal.at.operand-overflow_add-count t c).In_ok-p).1 in
    omega (arith, c.loop-out.invariant.few)

pub operand-loop-out-smaller : goal.operand-loop-out-smaller
operand-loop-out-smaller t c = let h = operand_on t (goal.at.operand-loop-out-smaller t c).In_ok-p in omega (arith, h.0, h.1)

pub operand-loop-out-preserved : goal.operand-loop-out-preserved
operand-loop-out-preserved t c = (operand_on t (goal.at.operand-loop-out-preserved t c).In_ok-p).2

pub path-returns-then-depth-eq0 : goal.path-returns-then-depth-eq0
unfolding got_of
path-returns-then-depth-eq0 t c =
    let a = c.args in
    ap (λ (z : Inner). map_got (λ (x : Path). build_in x (work_of a.w0 a.out.now)) (z.path a.start)) (sym (inner_none a.text.now a.depth c.if-depth-eq0.true))

pub path-loop-p-init : goal.path-loop-p-init
path-loop-p-init t c =
    let a = c.args in
    let l : 1 ≤ a.depth = omega arith in
    (l, path_starts a.text.now (a.depth - 1) a.depth a.start (work_of a.w0 a.out.now) l refl)

pub path-returns-in_err-p : goal.path-returns-in_err-p
path-returns-in_err-p t c =
    let p = err_from_is_err_and c.from_residual.result c.from_residual.ensures.1 in
    let e = c.in_err-p.field-0.0 in
    rw (p.1, p.2) (path_fails c.args.text.now (c.args.depth - 1) c.loop-p.invariant.1 (seen_of c.piece-q.result c.piece-q.new.out) (seen_of (Err e) c.stars.new.out) c.piece-q.ensures c.in_err-p.ensures (lost e c.stars.new.out))

pub path-returns-in-Stops : goal.path-returns-in-Stops
unfolding got_of
path-returns-in-Stops t c =
    path_stop c.args.text.now (c.args.depth - 1) c.loop-p.invariant.1 (seen_of c.piece-q.result c.piece-q.new.out) (seen_of (Ok c.in_ok-p.p) c.stars.new.out) c.piece-q.ensures c.in_ok-p.ensures refl
    (Stops c.in-Stops.writing) c.follow.new.out (unwrap_or c.byte_at-b.result 256) c.byte_at-b.ensures c.in-Stops.ensures refl

-- a turn of the path's loop, likewise
path_on : (t : ℕ) (c : path-In-Goes t) → let d = c.args.depth in let w = work_of c.args.w0 c.args.out.now in let to = c.in_ok-p.p.at in let n = c.in-Goes in
    (c.loop-p.at < to) × (to < length c.args.text.now) × InPath c.args.text.now (d - 1) ((inner c.args.text.now d).path c.args.start) w (to + 1) (work_of n.writing c.follow.new.out) n.waiting.second n.waiting.first
path_on t c =
    path_more c.args.text.now (c.args.depth - 1) c.loop-p.invariant.1 (seen_of c.piece-q.result c.piece-q.new.out) (seen_of (Ok c.in_ok-p.p) c.stars.new.out) c.piece-q.ensures c.in_ok-p.ensures refl
    (Goes c.in-Goes.waiting c.in-Goes.writing) c.follow.new.out (unwrap_or c.byte_at-b.result 256) c.byte_at-b.ensures c.in-Goes.ensures refl

pub path-overflow_add-at : goal.path-overflow_add-at
path-overflow_add-at t c = let h = (path_on t (goal.at.path-overflow_add-at t c).In-Goes).1 in omega arith

pub path-loop-p-smaller : goal.path-loop-p-smaller
path-loop-p-smaller t c = let h = path_on t (goal.at.path-loop-p-smaller t c).In-Goes in omega (arith, h.0, h.1)

pub path-loop-p-preserved : goal.path-loop-p-preserved
path-loop-p-preserved t c = (c.loop-p.invariant.0, (path_on t (goal.at.path-loop-p-preserved t c).In-Goes).2)

pub piece-overflow_add-at : goal.piece-overflow_add-at
piece-overflow_add-at t c = let h = byte_there c.args.text.now c.args.at 123 (omega (arith, c.in-Some-eq123.ensures, c.in-Some-eq123.field-0-is)) (omega arith) in omega arith

pub piece-returns-in-Some-eq123 : goal.piece-returns-in-Some-eq123
unfolding got_of
piece-returns-in-Some-eq123 t c =
    let a = c.args in
    let L = c.formula-p.new.out in
    piece_step a.text.now (inner a.text.now a.depth) a.at (work_of a.w a.out.now) (omega (arith, c.in-Some-eq123.ensures, c.in-Some-eq123.field-0-is)) _
    (seen_of c.formula-p.result L) (seen_of c.close-q.result L) (seen_of c.step_of.result c.step_of.new.out)
    (c.masked_at-f.ensures a.out.now) c.formula-p.ensures (c.close-q.ensures L) c.step_of.ensures

pub piece-overflow_add-at-in-Some-eq40 : goal.piece-overflow_add-at-in-Some-eq40
piece-overflow_add-at-in-Some-eq40 t c = let h = byte_there c.args.text.now c.args.at 40 (omega (arith, c.in-Some-eq40.ensures, c.in-Some-eq40.field-0-is)) (omega arith) in omega arith

pub piece-returns-in-Some-eq40 : goal.piece-returns-in-Some-eq40
unfolding got_of
piece-returns-in-Some-eq40 t c =
    let a = c.args in
    let L = c.path-p.new.out in
    piece_bracket a.text.now (inner a.text.now a.depth) a.at (work_of a.w a.out.now) (omega (arith, c.in-Some-eq40.ensures, c.in-Some-eq40.field-0-is))
    (seen_of c.path-p.result L) (seen_of c.close.result L) c.path-p.ensures (c.close.ensures L)

pub piece-returns-in_default : goal.piece-returns-in_default
unfolding got_of
piece-returns-in_default t c =
    let a = c.args in
    piece_none a.text.now (inner a.text.now a.depth) a.at (work_of a.w a.out.now) (omega (arith, c.in_default.ensures)) (omega (arith, c.in_default.ensures))

pub piece-returns-in_default-2 : goal.piece-returns-in_default-2
unfolding got_of
piece-returns-in_default-2 t c =
    let a = c.args in
    let e = subst (λ (o : Option ℕ). unwrap_or o 256 ≡ byte a.text.now a.at) c.in_default.is c.byte_at.ensures in
    piece_none a.text.now (inner a.text.now a.depth) a.at (work_of a.w a.out.now) (omega (arith, e)) (omega (arith, e))

pub prefix-overflow_add-result : goal.prefix-overflow_add-result
prefix-overflow_add-result t c = let h = byte_there c.args.text.now c.args.at 33 (is_there c.byte_at-b.result _ 33 c.byte_at-b.ensures c.eq.ensures c.if-eq.true) (omega arith) in omega arith

pub prefix-returns-then-eq : goal.prefix-returns-then-eq
unfolding got_of
prefix-returns-then-eq t c =
    let a = c.args in
    prefix_bang a.text.now (inner a.text.now a.depth) a.at (work_of a.w a.out.now) (is_there c.byte_at-b.result _ 33 c.byte_at-b.ensures c.eq.ensures c.if-eq.true) _ c.write-writing.ensures

pub prefix-overflow_add-at : goal.prefix-overflow_add-at
prefix-overflow_add-at t c = let h = prefix_stands c.args.text.now c.args.at c.requires in omega arith

pub prefix-returns : goal.prefix-returns
unfolding got_of
prefix-returns t c =
    let a = c.args in
    let L = c.path-p.new.out in
    prefix_path a.text.now (inner a.text.now a.depth) a.at (work_of a.w a.out.now) (not_there c.byte_at-b.result _ 33 (omega arith) c.byte_at-b.ensures c.eq.ensures c.if-eq.false) _
    (seen_of c.path-p.result L) (seen_of c.close-q.result L) (seen_of c.ended_path.result c.ended_path.new.out) c.end_of-end.result
    c.write-begun.ensures c.path-p.ensures (c.end_of-end.ensures ∙ ap (λ (z : ℕ). end_of z) c.byte_at-b.ensures) (c.close-q.ensures L) c.ended_path.ensures

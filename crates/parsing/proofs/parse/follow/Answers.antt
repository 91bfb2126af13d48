-- `follow` meets its contract: each way out is one case of the definition. Assumes nothing.
use mathlib.Core.Path.{refl}
use native.Mathlib.Omega.{arith}
use Rattle.std.specs.Option.{unwrap_or}
use Rattle.parsing.specs.Work.{work_of}
use Rattle.parsing.specs.Build.{next_of}
use Rattle.parsing.proofs.Laws.{is_there, not_there, goes_b, goes_c, stops_here}
use Rattle.parsing.proofs.parse.follow.Goals as goal

pub returns-then-eq : goal.returns-then-eq
unfolding next_of
returns-then-eq c = goes_b c.args.by.first c.args.by.second c.args.by.keep (unwrap_or c.args.b 256) c.args.h.second c.args.h.first (work_of c.args.w c.args.out.now) _ (work_of c.args.w c.args.out.now) _ (is_there c.args.b _ c.args.by.first refl c.eq.ensures c.if-eq.true) c.write_if-u.ensures c.write-kept.ensures

pub returns-then-eq-2 : goal.returns-then-eq-2
unfolding next_of
returns-then-eq-2 c = goes_c c.args.by.first c.args.by.second c.args.by.keep (unwrap_or c.args.b 256) c.args.h.second c.args.h.first (work_of c.args.w c.args.out.now) _ _ _ (not_there c.args.b _ c.args.by.first (omega arith) refl c.eq.ensures c.if-eq.false) (is_there c.args.b _ c.args.by.second refl c.eq-2.ensures c.if-eq-2.true) c.write_if-u.ensures c.write_if-v.ensures c.write-kept-then-eq-2.ensures

pub returns : goal.returns
unfolding next_of
returns c = stops_here c.args.by.first c.args.by.second c.args.by.keep (unwrap_or c.args.b 256) c.args.h.second c.args.h.first (work_of c.args.w c.args.out.now) _ _ (work_of c.args.w c.args.out.now) (not_there c.args.b _ c.args.by.first (omega arith) refl c.eq.ensures c.if-eq.false) (not_there c.args.b _ c.args.by.second (omega arith) refl c.eq-2.ensures c.if-eq-2.false) c.write_if-u.ensures c.write_if-v.ensures

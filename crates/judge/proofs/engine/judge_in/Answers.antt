-- `judge_in` meets its contract: the scratch's first places, as long as the log, and the words that they end with are put in place. Assumes nothing.
use Rattle.std.specs.Prelude.{◌≡◌, ℕ, ◌*◌, List, ◌++◌, length, drop}
use Rattle.judge.proofs.Adds.{lent_back, take_zeros}
use lib.Seq.{length-take-le}
use mathlib.Core.Path.{◌∙◌, ap}
use Rattle.judge.proofs.engine.judge_in.Goals as goal
use Rattle.judge.proofs.engine.judge_in.Goals.{After-judge_nodes-a}

-- the words came back twice as long as the log
long : (c : After-judge_nodes-a) → length c.judge_nodes-a.new.words ≡ 2 * length c.args.log.now
long c = c.judge_nodes-a.auto.words ∙ length-take-le (2 * length c.args.log.now) _ c.requires.log_in_bounds_2.0

pub judge_nodes-a-requires : goal.judge_nodes-a-requires
judge_nodes-a-requires c =
    let fit = c.requires.log_in_bounds_2 in
    let n = length c.args.log.now in record { lent = c.requires.lent; words_len = (length-take-le (2 * n) _ fit.0, length-take-le (49 * n) _ fit.1, length-take-le n _ fit.2, c.requires.log_in_bounds.1); by_index = take_zeros (2 * n) c.args.words.now c.requires.by_index }

pub returns : goal.returns
returns c =
    let r = c.judge_nodes-a in
    λ t L. record {
      words = r.new.words;
      done = r.ensures t L;
      put = ap (λ (l : List ℕ). l ++ drop (2 * length c.args.log.now) c.args.verdicts.now) (c.copy_from_slice.ensures.after ∙ lent_back _ r.new.words c.args.words.now (long (goal.at.returns c).After-judge_nodes-a));
    }

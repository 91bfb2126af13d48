-- `judge_log` meets its contract: the core at the plain row. Assumes nothing.
use Rattle.std.specs.Prelude.{ℕ, ◌*◌, List, ◌++◌, length, drop}
use Rattle.aldlf.specs.Sheet.{sheet_of}
use Rattle.aldlf.specs.declared.Table.{Table}
use Rattle.judge.specs.Prepared.{Prepared}
use Rattle.sheet.proofs.Sound.{sound}
use Rattle.judge.specs.Nodes.{AllPlain}
use Rattle.judge.proofs.GivenLaws.{plain_is_plain}
use Rattle.judge.proofs.OutcomeLaws.{plain_held, plain_words}
use mathlib.Core.Path.{◌∙◌, ap, subst, sym}
use Rattle.judge.proofs.lent.judge_log.Goals as goal

pub judge_core-a-requires : goal.judge_core-a-requires
judge_core-a-requires c = record { lent = (c.requires.prepared.0, c.requires.prepared.1.lent); log_in_bounds = c.requires.log_in_bounds }

pub returns : goal.returns
unfolding sheet_of
returns c =
    let row = c.args.plain in
    let log = c.args.log.now in
    let d = c.judge_core-a.ensures in
    let is_plain : (t : Table) → Prepared t row c.args.numbers.now → AllPlain (sheet_of t) row = λ t P. subst (AllPlain (sheet_of t)) (sym P.plain_is) (plain_is_plain t P.lent.facts) in record { value = λ t P. (d t P.lent).done.held_is ∙ plain_held (sheet_of t) (sound t P.lent.facts) row (is_plain t P) log _ (d t P.lent).done.words_are; verdicts_after = λ t P. (d t P.lent).put ∙ ap (λ (l : List ℕ). l ++ drop (2 * length log) c.args.verdicts.now) ((d t P.lent).done.words_are ∙ plain_words (sheet_of t) (sound t P.lent.facts) row (is_plain t P) log) }

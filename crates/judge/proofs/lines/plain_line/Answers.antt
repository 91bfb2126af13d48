-- `plain_line` meets its contract, letter by letter. Assumes nothing.
use Rattle.std.specs.Prelude.{◌≡◌, ℕ, ◌<◌, not}
use Rattle.aldlf.specs.Constants.{node_limit}
use Rattle.aldlf.specs.Outcomes.{verdict_at}
use Rattle.aldlf.specs.Sheet.{Line, bit}
use Rattle.judge.proofs.WordLaws.{line_false}
use Rattle.judge.specs.Nodes.{says_now}
use Rattle.reach.proofs.Paired.{pair_room, reads as read_is}
use Rattle.reach.specs.Marks.{at, paired}
use mathlib.Core.Logic.{inl, inr}
use mathlib.Core.Path.{◌∙◌, ap, sym}
use Rattle.judge.proofs.lines.plain_line.Goals as goal
use Rattle.judge.proofs.lines.plain_line.Goals.{Start}

-- a verdict read from the words is that of the entry's number
read : (S : Start) (k : ℕ) → k < node_limit → verdict_at S.args.words.now S.args.i k ≡ bit (at (paired S.args.words.now) S.args.i) k
read S k l = read_is S.args.words.now S.args.i k S.requires.i_in_bounds l

pub verdict-requires : goal.verdict-requires
verdict-requires c = (c.requires.plain_fits.one_node c.in-78.is, pair_room c.args.words.now c.args.i c.requires.i_in_bounds)

pub verdict-requires-in-65 : goal.verdict-requires-in-65
verdict-requires-in-65 c = ((c.requires.plain_fits.two_nodes (inl c.in-65.is)).0, pair_room c.args.words.now c.args.i c.requires.i_in_bounds)

pub verdict-requires-then-verdict : goal.verdict-requires-then-verdict
verdict-requires-then-verdict c = ((c.requires.plain_fits.two_nodes (inl c.in-65.is)).1, pair_room c.args.words.now c.args.i c.requires.i_in_bounds)

pub verdict-requires-in-79 : goal.verdict-requires-in-79
verdict-requires-in-79 c = ((c.requires.plain_fits.two_nodes (inr c.in-79.is)).0, pair_room c.args.words.now c.args.i c.requires.i_in_bounds)

pub verdict-requires-else-verdict-2 : goal.verdict-requires-else-verdict-2
verdict-requires-else-verdict-2 c = ((c.requires.plain_fits.two_nodes (inr c.in-79.is)).1, pair_room c.args.words.now c.args.i c.requires.i_in_bounds)

pub returns-in-78 : goal.returns-in-78
returns-in-78 c = rw c.in-78.is (ap not (c.verdict.ensures ∙ read (goal.at.returns-in-78 c).Start c.args.line.a (c.requires.plain_fits.one_node c.in-78.is)))

-- what the first node said decides, or else the second
module _ (S : Start) where
  first : (two : (S.args.line.a < node_limit) × (S.args.line.b < node_limit)) → bit (at (paired S.args.words.now) S.args.i) S.args.line.a ≡ verdict_at S.args.words.now S.args.i S.args.line.a
  first two = sym (read S S.args.line.a two.0)

  second : (two : (S.args.line.a < node_limit) × (S.args.line.b < node_limit)) → bit (at (paired S.args.words.now) S.args.i) S.args.line.b ≡ verdict_at S.args.words.now S.args.i S.args.line.b
  second two = sym (read S S.args.line.b two.1)

pub returns-then-verdict : goal.returns-then-verdict
returns-then-verdict c =
    let S = (goal.at.returns-then-verdict c).Start in
    let two = c.requires.plain_fits.two_nodes (inl c.in-65.is) in
    rw (c.in-65.is, first S two ∙ sym c.verdict-in-65.ensures ∙ c.if-verdict.true, second S two) c.verdict-then-verdict.ensures

pub returns-else-verdict : goal.returns-else-verdict
returns-else-verdict c =
    let S = (goal.at.returns-else-verdict c).Start in
    let two = c.requires.plain_fits.two_nodes (inl c.in-65.is) in
    rw (c.in-65.is, first S two ∙ sym c.verdict-in-65.ensures ∙ c.if-verdict.false) c.if-verdict.false

pub returns-then-verdict-2 : goal.returns-then-verdict-2
returns-then-verdict-2 c =
    let S = (goal.at.returns-then-verdict-2 c).Start in
    let two = c.requires.plain_fits.two_nodes (inr c.in-79.is) in
    rw (c.in-79.is, first S two ∙ sym c.verdict-in-79.ensures ∙ c.if-verdict-2.true) c.if-verdict-2.true

pub returns-else-verdict-2 : goal.returns-else-verdict-2
returns-else-verdict-2 c =
    let S = (goal.at.returns-else-verdict-2 c).Start in
    let two = c.requires.plain_fits.two_nodes (inr c.in-79.is) in
    rw (c.in-79.is, first S two ∙ sym c.verdict-in-79.ensures ∙ c.if-verdict-2.false, second S two) c.verdict-else-verdict-2.ensures

pub returns-in_default : goal.returns-in_default
returns-in_default c =
    let l = c.args.line in
    let r = c.in_default.in_default-own.rest in
    sym (ap (λ (x : Line). says_now x c.args.facts (at (paired c.args.words.now) c.args.i)) (line_false l.kind l.a l.b r.0.0.0.0.1 r.0.0.0.1 r.0.0.1 r.0.1 r.1 c.requires.plain_fits.plain))

-- `goals_in` meets its contract, by whether the node is as wanted. Assumes nothing.
use mathlib.Core.Path.{◌≡◌, refl, ap, sym, ◌∙◌}
use mathlib.Core.Bool.{Bool, true, false, beq}
use Rattle.aldlf.specs.Verdict.{facing}
use Rattle.aldlf.specs.Outcomes.{verdict_at}
use Rattle.reach.specs.Marks.{paired}
use Rattle.reach.proofs.Paired.{pair_room, reads}
use Rattle.graph.specs.Graph.{at}
use Rattle.graph.specs.Configurations.{pick_nat}
use Rattle.shortest.specs.Goals.{goals_in}
use Rattle.shortest.proofs.seeds.goals_in.Goals as goal
use Rattle.shortest.proofs.seeds.goals_in.Goals.{Start}

-- a verdict faces the wish where the two are equal
as_wanted : (want b : Bool) → beq b want ≡ facing want b
as_wanted true true = refl
as_wanted true false = refl
as_wanted false true = refl
as_wanted false false = refl

-- all or none, as the test comes out
goals : (S : Start) (found : Bool) → found ≡ verdict_at S.args.words.now S.args.entry S.args.goal.node.0 → (b : Bool) → beq found S.args.goal.want ≡ b
    → pick_nat b S.args.accepting 0 ≡ goals_in (at (paired S.args.words.now) S.args.entry) S.args.accepting S.args.goal
goals S found v b e =
    ap (λ (x : Bool). pick_nat x S.args.accepting 0)
    (sym e ∙ as_wanted S.args.goal.want found ∙ ap (facing S.args.goal.want) (v ∙ reads S.args.words.now S.args.entry S.args.goal.node.0 S.requires.1 S.requires.0))

pub verdict-found-requires : goal.verdict-found-requires
verdict-found-requires c = (c.requires.0, pair_room c.args.words.now c.args.entry c.requires.1)

pub returns-then-found-goal : goal.returns-then-found-goal
returns-then-found-goal c = goals (goal.at.returns-then-found-goal c).Start _ c.verdict-found.ensures _ c.if-found-goal.true

pub returns-else-found-goal : goal.returns-else-found-goal
returns-else-found-goal c = goals (goal.at.returns-else-found-goal c).Start _ c.verdict-found.ensures _ c.if-found-goal.false

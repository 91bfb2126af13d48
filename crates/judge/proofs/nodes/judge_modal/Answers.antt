-- `judge_modal` meets its contract: the masks of the configurations reached, read at the start and at the row's entry. Assumes nothing.
use Rattle.std.specs.Prelude.{ℕ, eqb}
use Rattle.aldlf.specs.Constants.{letter_d}
use Rattle.reach.specs.Marks.{paired, Reaching}
use mathlib.Core.Path.{subst}
use native.Mathlib.Omega.{arith}
use Rattle.judge.proofs.nodes.judge_modal.Goals as goal

pub returns : goal.returns
returns c =
    let j = c.args.job in
    let r = c.mark in
    let M = r.new.masks in
    λ E f F. record {
      masks = M;
      looks = c.args.looks;
      small = omega (arith, c.struct_known-1.given);
      reaching = subst (λ (x : ℕ). Reaching E (record { accepting = j.automaton.accepting; node = record { 0 = j.line.b }; want = eqb j.line.kind letter_d; exits = x; looks = c.args.looks }) (paired c.args.words.now) M)
          c.facing_mask.ensures (r.ensures E f F.told F.filled);
      added = c.write_modal-held.ensures;
      number = c.row_number-number.ensures;
    }

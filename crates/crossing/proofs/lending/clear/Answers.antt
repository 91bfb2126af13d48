-- `clear` meets its contract: zeros are the table all zeros. Assumes nothing.
use Rattle.crossing.proofs.Lent.{zeros_packed}
use Rattle.std.proofs.Common.{rules}
use Rattle.std.proofs.lemmas.List.{get_or_past}
use mathlib.Core.Path.{sym, ◌∙◌}
use native.Mathlib.Omega.{arith}
use Rattle.crossing.proofs.lending.clear.Goals as goal

pub returns : goal.returns
returns c =
    zeros_packed c.args.numbers.now _ c.requires (record {
      same = search rules;
      done = search rules;
      low = search rules;
      high = λ i h. get_or_past _ i 0 (omega (arith, h, c.fill.ensures.len, c.requires)) ∙ sym (get_or_past _ i 0 (omega (arith, h, c.requires)));
    })

-- `profile_lines` meets its contract: the rule's line is put once more. Assumes nothing.
use Prim.Native.Nat.{ℕ, ◌*◌, ◌-◌}
use native.Mathlib.Omega.{arith}
use mathlib.Core.Path.{◌≡◌, ap, ◌∙◌}
use lib.ListN.{set, get_or}
use Rattle.aldlf.specs.Sheet.{no_line}
use Rattle.aldlf.specs.declared.Table.{Table}
use Rattle.aldlf.specs.declared.Used.{Used}
use Rattle.sheet.proofs.Facts.{table_facts}
use Rattle.profile.specs.Room.{ProfileRoom}
use Rattle.profile.proofs.Laws.{last_put}
use Rattle.profile.proofs.lines.profile_lines.Goals as goal
use Rattle.profile.proofs.lines.profile_lines.Goals.{After-used_in-n}

-- so many old lines
count : (c : After-used_in-n) → (t : Table) → ProfileRoom t c.args.numbers.now → c.used_in-n.result.nodes ≡ t.used.nodes
count c t R = ap (λ (u : Used). u.nodes) (c.used_in-n.ensures ∙ R.packed.used_is)

pub overflow_sub-out : goal.overflow_sub-out
overflow_sub-out c = let R = c.requires in omega (arith, count (goal.at.overflow_sub-out c).After-used_in-n R.0 R.1, (table_facts R.0 R.1.given).some_node)

pub returns : goal.returns
returns c = λ t R.
    let o = c.doubled_lines-out in
    ap (λ (n : ℕ). set o.result (2 * n) (get_or o.result (2 * (n - 1)) no_line)) (count (goal.at.returns c).After-used_in-n t R) ∙ last_put t.nodes t.used.nodes o.result (o.ensures t R)

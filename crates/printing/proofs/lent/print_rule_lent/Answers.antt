-- `print_rule_lent` meets its contract: 31, then 55, then the text of the last node. Assumes nothing.
use native.Mathlib.Omega.{arith}
use mathlib.Core.Path.{◌≡◌, sym, ap, ◌∙◌}
use mathlib.Core.Bool.{true}
use Rattle.aldlf.specs.Sheet.{sheet_of}
use Rattle.aldlf.specs.declared.Table.{Table}
use Rattle.aldlf.specs.declared.Used.{Used}
use Rattle.packing.specs.Packed.{Packed}
use Rattle.sheet.specs.Given.{well_formed}
use Rattle.sheet.specs.Facts.{Lent}
use Rattle.sheet.proofs.Asked.{yes_is, no_is}
use Rattle.sheet.proofs.Facts.{table_facts}
use Rattle.sheet.proofs.InUse.{nodes_lent}
use Rattle.printing.proofs.Answers.{print_no, print_short, print_whole, rule_at}
use mathlib.Core.Bool.{not}
use Rattle.printing.proofs.lent.print_rule_lent.Goals as goal
use Rattle.printing.proofs.lent.print_rule_lent.Goals.{Else-not-is_given_packed}

given : (c : Else-not-is_given_packed) → (t : Table) → Packed t c.args.numbers.now → well_formed t ≡ true
given c t P = yes_is (c.is_given_packed.ensures t P) (ap not c.if-not-is_given_packed.false)

lent : (c : Else-not-is_given_packed) → (t : Table) → Packed t c.args.numbers.now → Lent t c.args.numbers.now
lent c t P = record { facts = table_facts t (given c t P); packed = P }

pub returns-then-not-is_given_packed : goal.returns-then-not-is_given_packed
returns-then-not-is_given_packed c = λ t P. sym (print_no (well_formed t) (sheet_of t) c.args.out.now (no_is (c.is_given_packed.ensures t P) (ap not c.if-not-is_given_packed.true)))

pub rule_fits-requires : goal.rule_fits-requires
rule_fits-requires c = let (t, P) = c.requires in (t, lent (goal.at.rule_fits-requires c).Else-not-is_given_packed t P)

pub returns-then-not-rule_fits : goal.returns-then-not-rule_fits
returns-then-not-rule_fits c = λ t P. print_short (well_formed t) (sheet_of t) c.args.out.now (given (goal.at.returns-then-not-rule_fits c).Else-not-is_given_packed t P) (no_is (c.rule_fits.ensures t (lent (goal.at.returns-then-not-rule_fits c).Else-not-is_given_packed t P)) (ap not c.if-not-rule_fits.true))

pub used_in-requires : goal.used_in-requires
used_in-requires c = c.requires.1.size

pub overflow_sub-rule : goal.overflow_sub-rule
overflow_sub-rule c =
    let (t, P) = c.requires in
    let L = lent (goal.at.overflow_sub-rule c).Else-not-is_given_packed t P in
    omega (arith, ap (λ (u : Used). u.nodes) c.used_in.ensures, nodes_lent t c.args.numbers.now L, L.facts.some_node)

pub put_node-requires : goal.put_node-requires
put_node-requires c =
    let (t, P) = c.requires in
    let L = lent (goal.at.put_node-requires c).Else-not-is_given_packed t P in
    record { lent = (t, L); node_bound = omega (arith, ap (λ (u : Used). u.nodes) c.used_in.ensures, nodes_lent t c.args.numbers.now L, L.facts.some_node) }

pub returns : goal.returns
returns c =
    λ t P.
    let L = lent (goal.at.returns c).Else-not-is_given_packed t P in
    let n = ap (λ (u : Used). u.nodes) c.used_in.ensures ∙ nodes_lent t c.args.numbers.now L in
    print_whole (well_formed t) (sheet_of t) c.args.out.now _ _ (given (goal.at.returns c).Else-not-is_given_packed t P) (yes_is (c.rule_fits.ensures t L) (ap not c.if-not-rule_fits.false)) (rule_at t _ n (c.put_node.ensures t L))

-- `mark_line` meets its contract, letter by letter. Assumes nothing.
use Prim.Native.Nat.{ℕ, ◌<◌}
use mathlib.Core.Logic.{◌⊎◌, inl, inr}
use native.Mathlib.Omega.{arith}
use Rattle.std.proofs.Common.{rules}
use mathlib.Core.Path.{◌≡◌, refl, sym, ap, subst, ◌∙◌}
use mathlib.Core.Bool.{Bool, true}
use mathlib.Core.List.{List}
use lib.ListN.{length-set}
use Rattle.aldlf.specs.Constants.{node_limit}
use Rattle.aldlf.specs.Sheet.{Line, line_of, sheet_of}
use Rattle.aldlf.specs.Stands.{mark_line}
use Rattle.aldlf.specs.declared.Table.{Table}
use Rattle.packing.specs.Numbers.{lent_used}
use Rattle.sheet.specs.Facts.{node_at, Lent}
use Rattle.stands.specs.Marking.{Marked, LineIn}
use Rattle.sheet.proofs.InUse.{node_few, line_lent}
use Rattle.stands.proofs.LentLaws.{line_named}
use Rattle.stands.proofs.MarkLaws.{line_marked, operand_taken, marks_not, marks_both, modal_marked, marks_none, line_read}
use Rattle.stands.proofs.marking.mark_line.Goals as goal
use Rattle.stands.proofs.marking.mark_line.Goals.{After-line_at-line, Start}

few : (S : Start) → S.args.node.0 < node_limit
few S = node_few S.requires.lent.0 S.args.numbers.now S.requires.lent.1 S.args.node.0 S.requires.flags_len.2

-- the line that was read is the node's
read : (c : After-line_at-line) → (t : Table) → Lent t c.args.numbers.now → c.line_at-line.result ≡ node_at t c.args.node.0
read c t L = c.line_at-line.ensures ∙ line_lent t c.args.numbers.now L c.args.node.0 c.requires.flags_len.2

-- and names what is within the limits
named : (c : After-line_at-line) → LineIn (lent_used c.args.numbers.now).automata c.line_at-line.result
named c =
    subst (LineIn (lent_used c.args.numbers.now).automata) (sym c.line_at-line.ensures) (line_named c.requires.lent.0 c.args.numbers.now c.requires.lent.1 c.args.node.0 c.requires.flags_len.2)

-- the marks of the line that was read are those of the sheet's
as_read : (c : After-line_at-line) → let x = c.line_at-line.result in (t : Table) → Lent t c.args.numbers.now → (q : List Bool) → q ≡ mark_line (sheet_of t) (line_of x.kind x.a x.b) c.args.flags.now → Marked (sheet_of t) (mark_line (sheet_of t) ((sheet_of t).line c.args.node.0) c.args.flags.now) q c.args.taken.now
as_read c t L q e =
    line_marked (sheet_of t) ((sheet_of t).line c.args.node.0) c.args.flags.now q c.args.taken.now (c.requires.taken t L)
    (e ∙ ap (λ (l : Line). mark_line (sheet_of t) l c.args.flags.now) (line_read t c.args.node.0 c.line_at-line.result (read c t L)))

-- a D or B, in either order
other_way : {k x y : ℕ} → (k ≡ x) ⊎ (k ≡ y) → (k ≡ y) ⊎ (k ≡ x)
other_way (inl e) = inr e
other_way (inr e) = inl e

pub line_at-line-requires : goal.line_at-line-requires
line_at-line-requires c = (c.requires.lent.1.packed.size, few (goal.at.line_at-line-requires c).Start)

pub bounds-flags-line : goal.bounds-flags-line
bounds-flags-line c = omega (arith, (named (goal.at.bounds-flags-line c).After-line_at-line).one_node c.in-78.is, c.requires.flags_len.0)

pub returns-in-78 : goal.returns-in-78
returns-in-78 c =
    let x = c.line_at-line.result in
    λ t L. as_read (goal.at.returns-in-78 c).After-line_at-line t L _ (marks_not (sheet_of t) x.kind x.a x.b c.args.flags.now c.in-78.is)

pub bounds-flags-line-in-65 : goal.bounds-flags-line-in-65
bounds-flags-line-in-65 c = omega (arith, ((named (goal.at.bounds-flags-line-in-65 c).After-line_at-line).two_nodes c.in-65.is).0, c.requires.flags_len.0)

pub bounds-flags-line-in-65-2 : goal.bounds-flags-line-in-65-2
bounds-flags-line-in-65-2 c = omega (arith, ((named (goal.at.bounds-flags-line-in-65-2 c).After-line_at-line).two_nodes c.in-65.is).1, c.requires.flags_len.0, length-set c.args.flags.now c.line_at-line.result.a true)

pub returns-in-65 : goal.returns-in-65
returns-in-65 c =
    let x = c.line_at-line.result in
    λ t L. as_read (goal.at.returns-in-65 c).After-line_at-line t L _ (marks_both (sheet_of t) x.kind x.a x.b c.args.flags.now c.in-65.is)

pub bounds-flags-line-in-68 : goal.bounds-flags-line-in-68
bounds-flags-line-in-68 c = omega (arith, ((named (goal.at.bounds-flags-line-in-68 c).After-line_at-line).modal (other_way c.in-68.is)).1, c.requires.flags_len.0)

pub mark_automaton-requires : goal.mark_automaton-requires
mark_automaton-requires c =
    let x = c.line_at-line.result in record {
      lent = c.requires.lent;
      flags_len = (length-set c.args.flags.now x.b true ∙ c.requires.flags_len.0, c.requires.flags_len.1, ((named (goal.at.mark_automaton-requires c).After-line_at-line).modal (other_way c.in-68.is)).0);
      taken = λ t L. operand_taken (sheet_of t) x.b c.args.flags.now _ c.args.taken.now (c.requires.taken t L) refl;
    }

pub returns-in-68 : goal.returns-in-68
returns-in-68 c =
    let x = c.line_at-line.result in
    λ t L.
    modal_marked (sheet_of t) x.kind x.a x.b c.args.flags.now (other_way c.in-68.is) ((sheet_of t).line c.args.node.0)
    (line_read t c.args.node.0 x (read (goal.at.returns-in-68 c).After-line_at-line t L)) _ _ _ refl (c.mark_automaton.ensures t L)

pub returns-in_default : goal.returns-in_default
returns-in_default c =
    let x = c.line_at-line.result in
    λ t L. as_read (goal.at.returns-in_default c).After-line_at-line t L _
    (marks_none (sheet_of t) x.kind x.a x.b c.args.flags.now (λ z. grind (arith, z)) (λ z. search rules) (λ z. search rules) (λ z. search rules) (λ z. search rules))

-- `with_line` meets its contract: an automaton that was asked already gives nothing new. Assumes nothing.
use Prim.Native.Nat.{◌+◌, ◌≤◌, ◌<◌}
use native.Mathlib.Omega.{arith}
use mathlib.Core.Path.{◌≡◌, refl, sym, ap, subst, ◌∙◌}
use mathlib.Core.Bool.{not}
use mathlib.Core.Logic.{◌⊎◌}
use Rattle.sheet.proofs.Asked.{yes_is, no_is}
use Rattle.aldlf.specs.Constants.{node_limit, automaton_limit, edge_limit, letter_d, letter_b}
use Rattle.aldlf.specs.Sheet.{line_of, sheet_of}
use Rattle.aldlf.specs.declared.Automaton.{Automaton}
use Rattle.aldlf.specs.declared.Table.{Table}
use Rattle.aldlf.proofs.Letters.{either_letter, neither_letter}
use Rattle.packing.specs.Numbers.{lent_used}
use Rattle.stands.specs.Marking.{LineIn}
use Rattle.sheet.specs.Facts.{node_at, Lent}
use Rattle.sheet.proofs.InUse.{node_few, line_lent, automaton_used, automaton_few}
use Rattle.stands.proofs.LentLaws.{line_named}
use Rattle.stands.proofs.MarkLaws.{line_read}
use Rattle.stands.proofs.LookLaws.{with_modal, with_none, edges_ways, asked_next}
use Rattle.stands.proofs.looking.with_line.Goals as goal
use Rattle.stands.proofs.looking.with_line.Goals.{After-line_at-line, Else-not-is_modal, Start}

few : (S : Start) → S.args.node.0 < node_limit
few S = node_few S.requires.lent.0 S.args.numbers.now S.requires.lent.1 S.args.node.0 S.requires.asked_len.1

-- the line that was read is the node's
read : (c : After-line_at-line) → (t : Table) → Lent t c.args.numbers.now → c.line_at-line.result ≡ node_at t c.args.node.0
read c t L = c.line_at-line.ensures ∙ line_lent t c.args.numbers.now L c.args.node.0 c.requires.asked_len.1

-- and so is the sheet's line
line_is : (c : After-line_at-line) → let x = c.line_at-line.result in (t : Table) → Lent t c.args.numbers.now → line_of x.kind x.a x.b ≡ (sheet_of t).line c.args.node.0
line_is c t L = line_read t c.args.node.0 c.line_at-line.result (read c t L)

-- the automaton of a D or B line is in use
modal : (c : Else-not-is_modal) → (c.line_at-line.result.kind ≡ letter_d) ⊎ (c.line_at-line.result.kind ≡ letter_b)
modal c = either_letter _ letter_d letter_b (yes_is c.is_modal.ensures (ap not c.if-not-is_modal.false))

there : (c : Else-not-is_modal) → c.line_at-line.result.a < (lent_used c.args.numbers.now).automata
there c =
    ((subst (LineIn (lent_used c.args.numbers.now).automata) (sym c.line_at-line.ensures) (line_named c.requires.lent.0 c.args.numbers.now c.requires.lent.1 c.args.node.0 c.requires.asked_len.1)).modal (modal c)).0

named : (c : Else-not-is_modal) → c.line_at-line.result.a < automaton_limit
named c = automaton_few c.requires.lent.0 c.args.numbers.now c.requires.lent.1 c.line_at-line.result.a (there c)

pub returns-then-not-is_modal : goal.returns-then-not-is_modal
returns-then-not-is_modal c =
    let x = c.line_at-line.result in
    let none = neither_letter x.kind letter_d letter_b (no_is c.is_modal.ensures (ap not c.if-not-is_modal.true)) in
    λ t L. (with_none (sheet_of t) x.kind x.a x.b ((sheet_of t).line c.args.node.0) (line_is (goal.at.returns-then-not-is_modal c).After-line_at-line t L) c.args.looks c.args.looks none.0 none.1 refl, c.requires.asked t L)

pub bounds-asked-m : goal.bounds-asked-m
bounds-asked-m c = omega (arith, named (goal.at.bounds-asked-m c).Else-not-is_modal, c.requires.asked_len.0)

pub returns-then-asked-m : goal.returns-then-asked-m
returns-then-asked-m c =
    let x = c.line_at-line.result in
    let at = goal.at.returns-then-asked-m c in
    λ t L. (
      with_modal (sheet_of t) x.kind x.a x.b ((sheet_of t).line c.args.node.0) (line_is at.After-line_at-line t L) c.args.looks c.args.looks (modal at.Else-not-is_modal) (c.requires.asked t L x.a c.if-asked-m.true),
      c.requires.asked t L,
    )

pub bounds-asked-m-2 : goal.bounds-asked-m-2
bounds-asked-m-2 c = omega (arith, named (goal.at.bounds-asked-m-2 c).Else-not-is_modal, c.requires.asked_len.0)

pub automaton_at-requires : goal.automaton_at-requires
automaton_at-requires c = (c.requires.lent.1.packed.size, named (goal.at.automaton_at-requires c).Else-not-is_modal)

pub with_edges-requires : goal.with_edges-requires
with_edges-requires c =
    let L = c.requires.lent.1 in
    let at = (goal.at.with_edges-requires c).Else-not-is_modal in
    let m = c.line_at-line.result.a in
    let a = L.facts.automaton m (automaton_used c.requires.lent.0 c.args.numbers.now L m (there at)) in
    (L.packed.size, subst (λ (x : Automaton). x.first + x.count ≤ edge_limit) (sym (c.automaton_at.ensures ∙ L.packed.automaton_is m (named at))) (omega (arith, a.edges≤, L.facts.edges≤)))

pub returns : goal.returns
returns c =
    let x = c.line_at-line.result in
    let at = goal.at.returns c in
    λ t L.
    let w = edges_ways t x.a c.automaton_at.result c.args.looks c.with_edges.result (c.automaton_at.ensures ∙ L.packed.automaton_is x.a (named at.Else-not-is_modal)) (c.with_edges.ensures t L.packed) in (
      with_modal (sheet_of t) x.kind x.a x.b ((sheet_of t).line c.args.node.0) (line_is at.After-line_at-line t L) c.args.looks c.with_edges.result (modal at.Else-not-is_modal) w,
      asked_next (sheet_of t) x.a c.args.looks c.with_edges.result c.args.asked.now (c.requires.asked t L) w,
    )

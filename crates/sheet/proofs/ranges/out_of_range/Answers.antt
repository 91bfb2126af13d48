-- `out_of_range` meets its contract, letter by letter: the fields are checked from the first to the last. Assumes nothing.
use mathlib.Core.Path.{◌≡◌, ◌∙◌}
use mathlib.Core.Bool.{cond}
use mathlib.Core.Logic.{◌⊎◌, inl, inr}
use native.Mathlib.Omega.{arith}
use borrow.Author.Tests.{ne_eqb}
use Rattle.std.proofs.lemmas.Result.{err_from_is_err_and}
use Rattle.aldlf.specs.Constants.{letter_p, letter_n, letter_a, letter_o, letter_d, letter_b, letter_m, letter_g, letter_e}
use Rattle.aldlf.specs.declared.Automaton.{Automaton}
use Rattle.aldlf.specs.declared.Used.{Used}
use Rattle.sheet.specs.declared.line.Line.{Line}
use Rattle.sheet.specs.Ranges.{a_node, an_automaton, is_node, is_automaton, kinds, is_of_kind, first_wrong, out_of_range, stop_at, going_on}
use Rattle.sheet.proofs.Stops.{stops, passes}
use Rattle.sheet.proofs.ranges.out_of_range.Goals as goal

-- the fields of a line by its letter, of two
module _ (u : Used) (x : Automaton) (l : Line) where
  two_nodes : (l.letter ≡ letter_a) ⊎ (l.letter ≡ letter_o) → cond (is_node u l.a) (cond (is_node u l.b) going_on (stop_at a_node 3)) (stop_at a_node 2) ≡ out_of_range u x l
  unfolding out_of_range kinds is_of_kind first_wrong
  two_nodes (inl e) = rw e
  two_nodes (inr e) = rw e

  walk_fields : (l.letter ≡ letter_b) ⊎ (l.letter ≡ letter_d) → cond (is_automaton u l.a) (cond (is_node u l.b) going_on (stop_at a_node 3)) (stop_at an_automaton 2) ≡ out_of_range u x l
  unfolding out_of_range kinds is_of_kind first_wrong
  walk_fields (inl e) = rw e
  walk_fields (inr e) = rw e

pub returns-in-80 : goal.returns-in-80
unfolding out_of_range kinds is_of_kind first_wrong
returns-in-80 c =
    c.check.ensures ∙ rw (c.is_fact.ensures, c.in-80.is)

pub returns-in-78 : goal.returns-in-78
unfolding out_of_range kinds is_of_kind first_wrong
returns-in-78 c =
    c.check-in-78.ensures ∙ rw (c.is_node.ensures, c.in-78.is)

pub returns-in-71 : goal.returns-in-71
unfolding out_of_range kinds is_of_kind first_wrong
returns-in-71 c =
    c.check-in-71.ensures ∙ rw (c.is_state-in-71.ensures, c.in-71.is)

pub returns-in_err-check-in-65 : goal.returns-in_err-check-in-65
returns-in_err-check-in-65 c =
    let p = err_from_is_err_and c.from_residual.result c.from_residual.ensures.1 in
    rw (p.1, p.2) (stops _ _ _ c.is_node-in-65.ensures c.in_err-check-in-65.ensures ∙ two_nodes c.args.u c.args.x c.args.l c.in-65.is)

pub returns-in_ok-check-in-65 : goal.returns-in_ok-check-in-65
returns-in_ok-check-in-65 c =
    rw (c.check-in-65-2.ensures, c.is_node-in-65-2.ensures) (passes _ _ _ (λ z. omega (arith, z)) c.is_node-in-65.ensures c.in_ok-check-in-65.ensures ∙ two_nodes c.args.u c.args.x c.args.l c.in-65.is)

pub returns-in_err-check-in-68 : goal.returns-in_err-check-in-68
returns-in_err-check-in-68 c =
    let p = err_from_is_err_and c.from_residual-in_err-check-in-68.result c.from_residual-in_err-check-in-68.ensures.1 in
    rw (p.1, p.2) (stops _ _ _ c.is_automaton.ensures c.in_err-check-in-68.ensures ∙ walk_fields c.args.u c.args.x c.args.l c.in-68.is)

pub returns-in_ok-check-in-68 : goal.returns-in_ok-check-in-68
returns-in_ok-check-in-68 c =
    rw (c.check-in-68-2.ensures, c.is_node-in-68.ensures) (passes _ _ _ (λ z. omega (arith, z)) c.is_automaton.ensures c.in_ok-check-in-68.ensures ∙ walk_fields c.args.u c.args.x c.args.l c.in-68.is)

pub returns-in_err-check-in-77 : goal.returns-in_err-check-in-77
unfolding out_of_range kinds is_of_kind first_wrong
returns-in_err-check-in-77 c =
    let p = err_from_is_err_and c.from_residual-in_err-check-in-77.result c.from_residual-in_err-check-in-77.ensures.1 in
    rw (p.1, p.2, c.in-77.is) (stops _ _ _ c.is_count.ensures c.in_err-check-in-77.ensures)

pub returns-in_ok-check-in-77 : goal.returns-in_ok-check-in-77
unfolding out_of_range kinds is_of_kind first_wrong
returns-in_ok-check-in-77 c =
    rw (c.check-in-77-2.ensures, c.is_state.ensures, c.in-77.is) (passes _ _ _ (λ z. omega (arith, z)) c.is_count.ensures c.in_ok-check-in-77.ensures)

pub returns-in_err-check-in-69 : goal.returns-in_err-check-in-69
unfolding out_of_range kinds is_of_kind first_wrong
returns-in_err-check-in-69 c =
    let p = err_from_is_err_and c.from_residual-in_err-check-in-69.result c.from_residual-in_err-check-in-69.ensures.1 in
    rw (p.1, p.2, c.in-69.is) (stops _ _ _ c.is_state-in-69.ensures c.in_err-check-in-69.ensures)

pub returns-in_ok-check-in-69 : goal.returns-in_ok-check-in-69
unfolding out_of_range kinds is_of_kind first_wrong
returns-in_ok-check-in-69 c =
    rw (c.after_state.ensures, c.in-69.is) (passes _ _ _ (λ z. omega (arith, z)) c.is_state-in-69.ensures c.in_ok-check-in-69.ensures)

pub returns-in_default : goal.returns-in_default
unfolding out_of_range kinds is_of_kind first_wrong
returns-in_default c =
    let x = c.args.l.letter in
    let f = c.in_default.in_default-own.rest in
    simp (
      ne_eqb x letter_p f.0.0.0.0.0.0.1,
      ne_eqb x letter_n f.0.0.0.0.0.1,
      ne_eqb x letter_a (λ e. f.0.0.0.0.1 (inl e)),
      ne_eqb x letter_o (λ e. f.0.0.0.0.1 (inr e)),
      ne_eqb x letter_b (λ e. f.0.0.0.1 (inl e)),
      ne_eqb x letter_d (λ e. f.0.0.0.1 (inr e)),
      ne_eqb x letter_m f.0.0.1,
      ne_eqb x letter_g f.0.1,
      ne_eqb x letter_e f.1,
    )

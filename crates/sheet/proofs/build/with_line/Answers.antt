-- `with_line` meets its contract, letter by letter. Assumes nothing.
use Rattle.sheet.proofs.Added.{line_M, line_G, line_E, line_node}
use mathlib.Core.Path.{◌∙◌}
use Rattle.sheet.proofs.build.with_line.Goals as goal

pub with_automaton-requires : goal.with_automaton-requires
with_automaton-requires c = c.requires.automaton c.in-77.is

pub with_accepting-requires : goal.with_accepting-requires
with_accepting-requires c = c.requires.accepting c.in-71.is

pub with_edge-requires : goal.with_edge-requires
with_edge-requires c = c.requires.edge c.in-69.is

pub with_node-requires : goal.with_node-requires
with_node-requires c = c.requires.node c.in_default.in_default-own.rest.0.0.1 c.in_default.in_default-own.rest.0.1 c.in_default.in_default-own.rest.1

pub returns-in-77 : goal.returns-in-77
returns-in-77 c = c.with_automaton.ensures ∙ line_M c.args.t c.args.l c.in-77.is

pub returns-in-71 : goal.returns-in-71
returns-in-71 c = c.with_accepting.ensures ∙ line_G c.args.t c.args.l c.in-71.is

pub returns-in-69 : goal.returns-in-69
returns-in-69 c = c.with_edge.ensures ∙ line_E c.args.t c.args.l c.in-69.is

pub returns-in_default : goal.returns-in_default
returns-in_default c =
    let k = c.in_default in
    c.with_node.ensures ∙ line_node c.args.t c.args.l k.in_default-own.rest.0.0.1 k.in_default-own.rest.0.1 k.in_default-own.rest.1

-- Pages worked by hand, by computation: the page is defined for the bytes of a sheet and a log, and printed as document 01 says.
use mathlib.Core.Path.{refl}
use Rattle.text.specs.Text.{pieces, lines, number, number_in, all_digits, value_of}
use Rattle.aldlf.specs.Sheet.{sheet_of}
use Rattle.aldlf.specs.Verdict.{judge}
use Rattle.aldlf.specs.Outcomes.{part_verdicts, held_in, whole_number, whole_outcome}
use Rattle.aldlf.specs.Walks.{walk_in, walk_of, walk_number, walk_outcome}
use Rattle.sheet.specs.Ranges as ranges
use Rattle.sheet.specs.Questions as sheet
use Rattle.sheet.specs.Given.{node_fits, edge_fits, head_fits, edges_fit, used_fits, nodes_fit, automata_fit, nodes_end, automata_end, edges_end, well_formed}
use Rattle.joblog.specs.Log as log
use Rattle.appending.specs.Appending.{digits_of, decimal}
use Rattle.lines.specs.Lines.{refused_at, refusal_line, sheet_refusal_line, entry_line, entries_below, rule_line, verdict_lines, edges_below, walk_line, no_walk_line}
use Rattle.report.specs.Page.{refused_walk, shown_line, walk_page, judged_page, table_page, rule_page, sheet_page, page_of, page_outcome}
use Rattle.appending.specs.Placed.{placed}
use Rattle.report.specs.Examples.{AllPrint, examples, AllAnswer, lendings}

pub all_print : AllPrint examples
unfolding pieces lines number number_in all_digits value_of sheet_of judge part_verdicts held_in whole_number whole_outcome walk_in walk_of walk_number walk_outcome sheet.parsed sheet.known_line sheet.all_numbers sheet.room_left sheet.belongs ranges.out_of_range ranges.kinds ranges.is_of_kind ranges.first_wrong sheet.newly_accepting sheet.plain_from sheet.plain_step sheet.question sheet.with_node sheet.with_automaton sheet.with_accepting sheet.with_edge sheet.with_line sheet.added sheet.some_edge sheet.each sheet.whole sheet.finish sheet.read_lines sheet.read_sheet node_fits edge_fits head_fits edges_fit used_fits nodes_fit automata_fit nodes_end automata_end edges_end well_formed log.all_below log.rising log.word_of log.facts_of log.read_lines log.read_log digits_of decimal refused_at refusal_line sheet_refusal_line entry_line entries_below rule_line verdict_lines edges_below walk_line no_walk_line refused_walk shown_line walk_page judged_page table_page rule_page sheet_page page_of
all_print = (refl, (refl, (refl, (refl, (refl, (refl, tt))))))

pub all_answer : AllAnswer lendings
unfolding pieces lines number number_in all_digits value_of sheet.parsed sheet.known_line sheet.all_numbers sheet.room_left sheet.belongs ranges.out_of_range ranges.kinds ranges.is_of_kind ranges.first_wrong sheet.newly_accepting sheet.plain_from sheet.plain_step sheet.question sheet.with_node sheet.with_automaton sheet.with_accepting sheet.with_edge sheet.with_line sheet.added sheet.some_edge sheet.each sheet.whole sheet.finish sheet.read_lines sheet.read_sheet digits_of decimal refused_at refusal_line sheet_refusal_line rule_page sheet_page page_of placed page_outcome
all_answer = (refl, (refl, (refl, tt)))

-- THE STARRED JOBS of document 01, as one statement over one list: each by the outcomes that the calls' contracts cite, computed; and the sheets
-- that they are about are read to the tables that they name.
use mathlib.Core.Path.{refl}
use Rattle.aldlf.specs.Sheet.{sheet_of}
use Rattle.aldlf.specs.Stands.{stands_of, stands_on_dir, rule_sheet}
use Rattle.aldlf.specs.Verdict.{judge, row_of}
use Rattle.aldlf.specs.Outcomes.{part_verdicts, whole_number, whole_outcome, part_number, part_outcome}
use Rattle.aldlf.specs.Walks.{walk_in, walk_of, walk_number, walk_outcome}
use Rattle.aldlf.specs.Jobs.{AllRight, jobs}
use Rattle.text.specs.Text.{pieces, lines, number, number_in, all_digits, value_of}
use Rattle.sheet.specs.Ranges as ranges
use Rattle.sheet.specs.Questions as sheet
use Rattle.sheet.specs.Questions.{plain_from, some_edge, each, whole}
use Rattle.sheet.specs.Given.{node_fits, edge_fits, head_fits, edges_fit, used_fits, nodes_fit, automata_fit, nodes_end, automata_end, edges_end, well_formed}
use Rattle.worked.specs.Sheets.{AllRead, texts}

pub starred : AllRight well_formed jobs
unfolding sheet_of stands_of stands_on_dir rule_sheet judge row_of part_verdicts whole_number whole_outcome part_number part_outcome walk_in walk_of walk_number walk_outcome well_formed used_fits nodes_fit node_fits automata_fit head_fits edges_fit edge_fits nodes_end automata_end edges_end whole each some_edge plain_from
starred =
    ((refl, refl), ((refl, refl), ((refl, refl), ((refl, refl), ((refl, refl), ((refl, refl), ((refl, refl), ((refl, refl), ((refl, refl), ((refl, refl), ((refl, refl), (refl, (refl, (refl, (refl, ((refl, refl, refl), ((refl, refl, refl), ((refl, refl, refl), ((refl, refl, refl), tt)))))))))))))))))))

pub sheets_read : AllRead texts
unfolding pieces lines number number_in all_digits value_of sheet.parsed sheet.known_line sheet.all_numbers sheet.room_left sheet.belongs ranges.out_of_range ranges.kinds ranges.is_of_kind ranges.first_wrong sheet.newly_accepting sheet.plain_from sheet.plain_step sheet.question sheet.with_node sheet.with_automaton sheet.with_accepting sheet.with_edge sheet.with_line sheet.added sheet.some_edge sheet.each sheet.whole sheet.finish sheet.read_lines sheet.read_sheet
sheets_read = (refl, (refl, (refl, (refl, (refl, (refl, tt))))))

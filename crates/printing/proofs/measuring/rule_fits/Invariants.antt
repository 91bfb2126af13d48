use Rattle.aldlf.specs.Sheet.{sheet_of}
use Rattle.aldlf.specs.declared.Table.{Table}
use Rattle.sheet.specs.Facts.{Lent}
use Rattle.printing.specs.Measure.{Measured}
use Rattle.printing.proofs.measuring.rule_fits.Given as goal

abbrev pub invariant-loop-k : goal.invariant-loop-k
invariant-loop-k l = (t : Table) → Lent t l.numbers → Measured (sheet_of t) l.room l.k l.lasts

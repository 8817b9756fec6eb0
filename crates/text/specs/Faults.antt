-- The number, the layer and the place of each fault. Cited by src/faults.rt. Assumes nothing.
use Rattle.std.specs.Prelude.{ℕ, List, ◌++◌, codes, decimal}
use Rattle.text.specs.declared.faults.WordFault.TheVariants.{Number, Reversed}
use Rattle.text.specs.declared.faults.LineFault.TheVariants.{Letter, Word, Words, Decision}
use Rattle.text.specs.declared.faults.ReadFault.{ReadFault}
use Rattle.text.specs.declared.faults.ReadFault.TheVariants.{Line, Full, Long}
use Rattle.text.specs.declared.faults.Report.{Report}

-- a report of these numbers
abbrev pub told : ℕ → ℕ → ℕ → ℕ → Report
told number layer line column = record { number = number; layer = layer; line = line; column = column }

-- layer 1 letters, 2 words, 3 line, 4 book; line and column from 1
abbrev pub report_of : ReadFault → Report
report_of Long = told 6 4 0 0
report_of (Line line (Letter fault)) = told 7 1 line fault.column
report_of (Line line (Words column)) = told 8 3 line column
report_of (Line line Decision) = told 9 3 line 1
report_of (Line line (Word (Number column))) = told 10 2 line column
report_of (Line line (Word (Reversed column))) = told 3 2 line column
report_of (Full line) = told 1 4 line 1

-- the line that tells a report, without its line feed
abbrev pub report_text : Report → List ℕ
report_text r = codes "refused " ++ (decimal r.number ++ (codes " layer " ++ (decimal r.layer ++ (codes " line " ++ (decimal r.line ++ (codes " column " ++ decimal r.column))))))

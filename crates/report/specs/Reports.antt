-- What the main job answers to a text. Cited by src/rows.rt. Assumes nothing.
use Rattle.std.specs.Prelude.{ℕ, cond, List, length, Result, Ok, Err, nat_lt}
use Rattle.packet.specs.Packets.{tops}
use Rattle.decision.specs.Kinds.{read_word}
use Rattle.book.specs.Deciding.{meant}
use Rattle.text.specs.declared.faults.Report.{Report}
use Rattle.text.specs.Faults.{report_of}
use Rattle.text.specs.Readings.{Reading, read_of}
use Rattle.theory.specs.Tables.{Row, table}
use Rattle.table.specs.Rows.{most_rows}
use Rattle.report.specs.Outputs.{rows_text, too_large}

-- a table is told unless it has too many rows: then refusal 5
abbrev pub tell_table : (ℕ → List ℕ) → List Row → Result (List ℕ) Report
tell_table spelling rows = cond (nat_lt most_rows (length rows)) (Err too_large) (Ok (rows_text spelling rows))

-- a reading is told by its fault, or by the table of what its rules decide
abbrev pub tell_reading : ℕ → ℕ → (ℕ → List ℕ) → Reading → Result (List ℕ) Report
tell_reading count silent spelling reading = elim reading.answer [
  | Ok _ ↦ tell_table spelling (table tops (meant count silent reading.rules))
  | Err fault ↦ Err (report_of fault)
]

abbrev pub report_of_rows : ℕ → ℕ → (ℕ → List ℕ) → List ℕ → Result (List ℕ) Report
report_of_rows count silent spelling text = tell_reading count silent spelling (read_of (read_word count silent spelling) text)

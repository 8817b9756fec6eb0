use Rattle.std.proofs.Common.{◌≡◌, ◌++◌, drop, string_bytes}
use Rattle.table.specs.Rows.{view}
use Rattle.report.specs.Outputs.{lines_text, rows_text}
use Rattle.report.proofs.rows.rows_lines.Given as goal

-- with the lines of the rows that are left, the text is whole
abbrev pub invariant-loop-row : goal.invariant-loop-row
invariant-loop-row g l = string_bytes l.text ++ lines_text g.K.Kind.word (view (drop l.row-index l.rows)) ≡ rows_text g.K.Kind.word (view l.rows)

-- What is printed, as bytes. Cited by src/unanswered.rt and src/rows.rt. Assumes nothing.
use Rattle.std.specs.Prelude.{ℕ, List, [], ◌∷◌, ◌++◌, ◌≡◌, ⊤, length, Result, Ok, Err, codes, decimal, String, string_bytes}
use Rattle.std.specs.declared.alloc.Global.{Global}
use Rattle.theory.specs.Tables.{Row}
use Rattle.table.specs.declared.refusal.PackRefusal.{PackRefusal}
use Rattle.table.specs.declared.refusal.PackRefusal.TheVariants as pack
use Rattle.text.specs.declared.faults.Report.{Report}
use Rattle.text.specs.Faults.{told, report_text}
use Rattle.text.specs.Printing.{line_text}
use Rattle.report.specs.declared.unanswered.Unanswered.{Unanswered}
use Rattle.report.specs.declared.unanswered.Unanswered.TheVariants.{Refused, Memory}

-- refusal 5 has no layer, line or column
abbrev pub too_large : Report
too_large = told 5 0 0 0

-- what a refused source says
abbrev pub refusal : PackRefusal → Unanswered
refusal pack.TooLarge = Refused too_large
refusal pack.Memory = Memory

-- what is printed where there is no answer, without the line feed
abbrev pub unanswered_text : Unanswered → List ℕ
unanswered_text (Refused report) = report_text report
unanswered_text Memory = codes "memory allocation failed"

-- the line of a refusal
abbrev pub refusal_text : Report → List ℕ
refusal_text r = report_text r ++ codes "\n"

-- the answer is this text, or this refusal, unless memory ran out
abbrev pub Answers : Result (List ℕ) Report → Result (String Global) Unanswered → Type 0
Answers answer (Ok text) = answer ≡ Ok (string_bytes text)
Answers answer (Err (Refused report)) = answer ≡ Err report
Answers answer (Err Memory) = ⊤

-- what is printed of an answer: its text, or the line of its refusal
abbrev pub printed_as : Result (List ℕ) Report → Result (List ℕ) (List ℕ)
printed_as (Ok text) = Ok text
printed_as (Err report) = Err (refusal_text report)

-- this is printed of the answer, unless memory ran out
abbrev pub Prints : Result (List ℕ) Report → Result (Result (String Global) (String Global)) Unanswered → Type 0
Prints answer (Ok (Ok text)) = printed_as answer ≡ Ok (string_bytes text)
Prints answer (Ok (Err line)) = printed_as answer ≡ Err (string_bytes line)
Prints answer (Err e) = e ≡ Memory

-- a line for each row, in the form of a rule line
abbrev pub lines_text : (ℕ → List ℕ) → List Row → List ℕ
lines_text spelling [] = []
lines_text spelling (row ∷ rows) = line_text spelling row.decision row.ranges ++ (codes "\n" ++ lines_text spelling rows)

-- the count of rows, and then the rows
abbrev pub rows_text : (ℕ → List ℕ) → List Row → List ℕ
rows_text spelling rows = codes "rows " ++ (decimal (length rows) ++ (codes "\n" ++ lines_text spelling rows))

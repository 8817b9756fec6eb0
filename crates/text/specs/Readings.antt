-- What reading a text gives. Cited by src/reading.rt. Assumes nothing.
use Rattle.std.specs.Prelude.{ℕ, ◌+◌, cond, List, [], ◌∷◌, ◌++◌, length, Some, None, Ok, Err, Option, Result, nat_le, nat_lt}
use Rattle.book.specs.declared.rule.Rule.{Rule}
use Rattle.text.specs.declared.faults.LineFault.{LineFault}
use Rattle.text.specs.declared.faults.ReadFault.{ReadFault}
use Rattle.text.specs.declared.faults.ReadFault.TheVariants.{Line, Full, Long}
use Rattle.text.specs.Pieces.{pieces}
use Rattle.text.specs.Lines.{line_of}

-- what reading gives: its answer, and the rules that the book then holds
pub record Reading : Type 0 where
  pub answer : Result (Unit {0}) ReadFault
  pub rules : List Rule

-- reading that ends with this answer and leaves these rules
abbrev pub ended : Result (Unit {0}) ReadFault → List Rule → Reading
ended answer rules = record { answer = answer; rules = rules }

-- what a line of this number says, added to the rules of the lines before it, which are at most 64
abbrev pub added : ℕ → List Rule → Result (Option Rule) LineFault → Reading
added number rules (Err fault) = ended (Err (Line number fault)) rules
added number rules (Ok None) = ended (Ok tt) rules
added number rules (Ok (Some rule)) = cond (nat_le 64 (length rules)) (ended (Err (Full number)) rules) (ended (Ok tt) (rules ++ (rule ∷ [])))

-- a line, added to the rules of the lines before it
abbrev pub add_line : (List ℕ → Option ℕ) → ℕ → List ℕ → List Rule → Reading
add_line read number line rules = added number rules (line_of read line)

-- reading goes on with the rules so far, unless a fault has ended it
abbrev pub go_on : Result (Unit {0}) ReadFault → List Rule → (List Rule → Reading) → Reading
go_on (Ok _) rules next = next rules
go_on (Err fault) rules next = ended (Err fault) rules

-- the lines from this number on, added one by one
unfoldable pub lines_from : (List ℕ → Option ℕ) → ℕ → List (List ℕ) → List Rule → Reading
lines_from read number [] rules = ended (Ok tt) rules
lines_from read number (l ∷ ls) rules = go_on (add_line read number l rules).answer (add_line read number l rules).rules (lines_from read (number + 1) ls)

-- a text of at most 16,384 bytes is read line by line, each ended by a line feed
abbrev pub read_of : (List ℕ → Option ℕ) → List ℕ → Reading
read_of read text = cond (nat_lt 16384 (length text)) (ended (Err Long) []) (lines_from read 1 (pieces 10 text) [])

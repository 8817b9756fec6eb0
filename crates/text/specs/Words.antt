-- The words of a line. Cited by src/words.rt. Assumes nothing.
use Rattle.std.specs.Prelude.{ℕ, zero, suc, ◌+◌, cond, List, [], ◌∷◌, length, Ok, Err, Result, ◌==◌}
use Rattle.text.specs.declared.faults.LineFault.{LineFault}
use Rattle.text.specs.declared.faults.LineFault.TheVariants.{Words}
use Rattle.text.specs.Pieces.{pieces}

-- where the words from this column on are not as many as are due, or one is empty; if they are too few, one past the line
unfoldable pub words_from : ℕ → ℕ → ℕ → List (List ℕ) → Result (Unit {0}) LineFault
words_from past zero column [] = Ok tt
words_from past zero column (w ∷ ws) = Err (Words column)
words_from past (suc due) column [] = Err (Words past)
words_from past (suc due) column (w ∷ ws) = cond (length w == 0) (Err (Words column)) (words_from past due (column + length w + 1) ws)

-- a line has six words, none of them empty
abbrev pub words_of : List ℕ → Result (Unit {0}) LineFault
words_of line = words_from (length line + 1) 6 1 (pieces 32 line)

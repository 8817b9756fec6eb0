-- The letters of a line. Cited by src/letters.rt. Assumes nothing.
use Rattle.std.specs.Prelude.{ℕ, ◌+◌, Bool, cond, ◌&&◌, List, [], ◌∷◌, Ok, Err, Result, nat_le}
use Rattle.text.specs.declared.faults.LetterFault.{LetterFault}

-- is the byte a letter that a line may hold?
abbrev pub is_letter : ℕ → Bool
is_letter b = nat_le 32 b && nat_le b 126

-- the first of the bytes from this column on that is no letter is a fault
unfoldable pub letters_from : ℕ → List ℕ → Result (Unit {0}) LetterFault
letters_from column [] = Ok tt
letters_from column (b ∷ bs) = cond (is_letter b) (letters_from (column + 1) bs) (Err (record { byte = b; column = column }))

-- the letters of a line, whose first column is 1
abbrev pub letters_of : List ℕ → Result (Unit {0}) LetterFault
letters_of line = letters_from 1 line

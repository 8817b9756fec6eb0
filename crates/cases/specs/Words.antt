-- What the words of a case write. Cited by src/words.rt. Assumes nothing.
use Rattle.std.specs.Prelude.{ℕ, ◌+◌, ◌*◌, ◌^◌, ◌-◌, Bool, ◌&&◌, List, [], ◌∷◌, length, nat_lt, nat_le, min, if◌then◌else◌}
use Rattle.std.specs.Borrow.{Bor}
use Rattle.std.specs.List.{list_all}
use Rattle.std.specs.Char.{digit_value}
use Rattle.std.specs.Str.Parse.{digits_value, without_leading_plus}

-- the value of a hexadecimal digit in lower case; any other byte counts as 0
abbrev pub digit_of : ℕ → ℕ
digit_of byte =
    if nat_le 48 byte && nat_le byte 57 then byte - 48
    else if nat_le 97 byte && nat_le byte 102 then byte - 87
    else 0

-- the bytes of pairs of hexadecimal digits; a last digit with no partner is left out
abbrev pub bytes_of : List ℕ → List ℕ
bytes_of [] = []
bytes_of (last ∷ []) = []
bytes_of (high ∷ low ∷ rest) = (digit_of high * 16 + digit_of low) ∷ bytes_of rest

-- are these decimal digits, one or more, of a number below 2 ^ 32?
abbrev pub is_number : List ℕ → Bool
is_number digits = nat_lt 0 (length digits) && list_all (λ c. nat_lt (digit_value c) 10) digits && nat_lt (digits_value 10 digits) (2 ^ 32)

-- the number that a word writes, 0 where it writes none
abbrev pub number_of : List ℕ → ℕ
number_of word = if is_number (without_leading_plus word) then digits_value 10 (without_leading_plus word) else 0

-- a number for each top, brought down to it; 0 where there is no word
abbrev pub numbers : List ℕ → List (Bor (List ℕ)) → List ℕ
numbers [] words = []
numbers (top ∷ tops) [] = 0 ∷ numbers tops []
numbers (top ∷ tops) (word ∷ words) = (min (number_of word.now) top) ∷ numbers tops words

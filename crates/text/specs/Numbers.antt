-- Numbers and addresses as words. Cited by src/numbers.rt. Assumes nothing.
use Rattle.std.specs.Prelude.{ℕ, zero, suc, ◌+◌, ◌-◌, ◌*◌, Bool, true, false, cond, not, ◌&&◌, List, [], ◌∷◌, Some, None, Option, ◌==◌, nat_le}
use Rattle.text.specs.Pieces.{pieces}

-- is the word not empty, with a 0 in front only if it stands alone?
abbrev pub plain : List ℕ → Bool
plain [] = false
plain (b ∷ []) = true
plain (b ∷ c ∷ bs) = not (b == 48)

-- the value of a decimal digit
abbrev pub digit_of : ℕ → Option ℕ
digit_of b = cond (nat_le 48 b && nat_le b 57) (Some (b - 48)) None

-- the value of decimal digits behind those that write n; none if a byte is no digit
unfoldable pub value_from : ℕ → List ℕ → Option ℕ
value_from n [] = Some n
value_from n (b ∷ bs) = elim (digit_of b) [ None ↦ None | Some d ↦ value_from (n * 10 + d) bs ]

-- a number, if it is not above the top
abbrev pub at_most : ℕ → Option ℕ → Option ℕ
at_most top None = None
at_most top (Some n) = cond (nat_le n top) (Some n) None

-- the number up to top that a word writes
unfoldable pub number_of : ℕ → List ℕ → Option ℕ
number_of top word = cond (plain word) (at_most top (value_from 0 word)) None

-- the number that so many words of one byte each write behind n, the first as the most significant
unfoldable pub bytes_from : ℕ → ℕ → List (List ℕ) → Option ℕ
bytes_from zero n [] = Some n
bytes_from zero n (w ∷ ws) = None
bytes_from (suc more) n [] = None
bytes_from (suc more) n (w ∷ ws) = elim (number_of 255 w) [ None ↦ None | Some b ↦ bytes_from more (n * 256 + b) ws ]

-- the address that a word writes
unfoldable pub address_of : List ℕ → Option ℕ
address_of word = bytes_from 4 0 (pieces 46 word)

-- What damage packed bytes have: the first of all, in order. Cited by src/inspection.rt, src/framing.rt, src/nesting.rt and
-- src/alike.rt. Assumes nothing.
use Rattle.std.specs.Prelude.{ℕ, zero, suc, ◌+◌, ◌*◌, ◌%◌, Bool, true, cond, not, ◌&&◌, ◌||◌, List, [], ◌∷◌, length, take, Some, None, Option, ◌==◌, nat_le, nat_lt}
use Rattle.packet.specs.Packets.{tops}
use Rattle.theory.specs.Tables.{Row}
use Rattle.theory.specs.Steps.{begins, passes}
use Rattle.theory.specs.Neighbours.{starts_alike}
use Rattle.blocks.specs.Writing.{check_sum}
use Rattle.blocks.specs.Reading.{row_of, kind_of, block_at, count_in, number_in, check_in, unused_in, row_slice, blocks_in, rows_in}
use Rattle.damage.specs.declared.damage.Damage.{Damage}
use Rattle.damage.specs.declared.damage.Damage.TheVariants.{Length, Check, Frame, Foreign, NotNested, NotReduced}

-- the damage, if the test finds it
abbrev pub found : Bool → Damage → Option Damage
found test damage = cond test (Some damage) None

-- the first damage, or else the second
abbrev pub or_else : Option Damage → Option Damage → Option Damage
or_else (Some damage) second = Some damage
or_else None second = second

-- the first damage that is found at a place below n
unfoldable pub first : ℕ → (ℕ → Option Damage) → Option Damage
first zero at = None
first (suc n) at = or_else (first n at) (at n)

-- is the length 0, no multiple of 512, or above 32,768?
abbrev pub wrong_length : List ℕ → Bool
wrong_length bytes = length bytes == 0 || not (length bytes % 512 == 0) || nat_lt 32768 (length bytes)

-- is the block's check another than the sum of its first 508 bytes, each times its place?
abbrev pub wrong_check : List ℕ → ℕ → Bool
wrong_check bytes k = not (check_in (block_at bytes k) == check_sum (take 508 (block_at bytes k)))

-- may a block have so many rows? 18, or, if it is the last, 1 to 18
abbrev pub is_count : Bool → ℕ → Bool
is_count last n = cond last (nat_le 1 n && nat_le n 18) (n == 18)

-- are all bytes 0?
abbrev pub all_zero : List ℕ → Bool
all_zero [] = true
all_zero (b ∷ bytes) = b == 0 && all_zero bytes

-- are a block's count and number right, and its unused bytes 0?
abbrev pub framed_block : Bool → ℕ → List ℕ → Bool
framed_block last k block = is_count last (count_in block) && number_in block == k && all_zero (unused_in block)

-- are those of the block with a number?
abbrev pub framed : List ℕ → ℕ → Bool
framed bytes k = framed_block (nat_le (blocks_in bytes) (suc k)) k (block_at bytes k)

-- has the row another kind's number, or a decision that is none of the kind's?
abbrev pub foreign_row : ℕ → ℕ → List ℕ → Bool
foreign_row label size row = not (kind_of row == label) || not (nat_lt (row_of row).decision size)

-- has the row at a place?
abbrev pub foreign : ℕ → ℕ → List ℕ → ℕ → Bool
foreign label size bytes i = foreign_row label size (row_slice bytes i)

-- the first damage of a block
unfoldable pub block_damage : ℕ → ℕ → List ℕ → ℕ → Option Damage
block_damage label size bytes k = or_else (found (wrong_check bytes k) (Check k))
    (or_else (found (not (framed bytes k)) (Frame k))
    (first (count_in (block_at bytes k)) (λ j. found (foreign label size bytes (18 * k + j)) (Foreign (18 * k + j)))))

-- the first row at which the rows so far begin no nested list, or the count of rows if the list ends short
unfoldable pub nesting_damage : List Row → Option Damage
nesting_damage rows = or_else (first (length rows) (λ i. found (not (begins tops (take (suc i) rows))) (NotNested i)))
    (found (not (passes tops rows)) (NotNested (length rows)))

-- the first row that starts a range alike its left neighbour
unfoldable pub neighbour_damage : List Row → Option Damage
neighbour_damage rows = first (length rows) (λ i. found (starts_alike tops rows i) (NotReduced i))

-- the first damage of packed bytes, for a kind's number and its count of decisions
unfoldable pub damage_of : ℕ → ℕ → List ℕ → Option Damage
damage_of label size bytes = or_else (found (wrong_length bytes) Length)
    (or_else (first (blocks_in bytes) (block_damage label size bytes))
    (or_else (nesting_damage (rows_in bytes)) (neighbour_damage (rows_in bytes))))

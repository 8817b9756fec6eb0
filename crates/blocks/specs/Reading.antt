-- The rows that packed bytes hold. Cited by crate opening's src. Assumes nothing.
use Rattle.std.specs.Prelude.{◌≡◌, ℕ, zero, suc, ◌+◌, ◌-◌, ◌*◌, ◌/◌, ◌%◌, ◌<◌, ◌≤◌, List, [], ◌∷◌, map, length, take, drop, slice_index}
use Rattle.std.specs.List.{range_with_len}
use Rattle.packet.specs.declared.range.Range.{Range}
use Rattle.theory.specs.Tables.{Row}
use Rattle.blocks.specs.Numbers.{number_of}
use Rattle.blocks.specs.Writing.{widths, check_sum}

-- the ranges at the front of bytes, given the width of each field
abbrev pub ranges_of : List ℕ → List ℕ → List (Range ℕ)
ranges_of [] bytes = []
ranges_of (w ∷ ws) bytes = record { low = number_of (take w bytes); high = number_of (take w (drop w bytes)) } ∷ ranges_of ws (drop (w + w) bytes)

-- where a field's two values begin: after those of the fields before it
abbrev pub field_start : List ℕ → ℕ → ℕ
field_start ws zero = 0
field_start [] (suc f) = 0
field_start (w ∷ ws) (suc f) = w + w + field_start ws f

-- a row from its 28 bytes, and the number of its kind
abbrev pub row_of : List ℕ → Row
row_of bytes = record { ranges = ranges_of widths bytes; decision = slice_index bytes 26 }

abbrev pub kind_of : List ℕ → ℕ
kind_of bytes = slice_index bytes 27

-- the block with a number
abbrev pub block_at : List ℕ → ℕ → List ℕ
block_at bytes k = take 512 (drop (512 * k) bytes)

-- what a block says of itself: its count of rows, its number, its check
abbrev pub count_in : List ℕ → ℕ
count_in block = number_of (take 2 block)

abbrev pub number_in : List ℕ → ℕ
number_in block = number_of (take 2 (drop 2 block))

abbrev pub check_in : List ℕ → ℕ
check_in block = number_of (take 4 (drop 508 block))

-- the bytes of a block that its rows leave unused
abbrev pub unused_in : List ℕ → List ℕ
unused_in block = take (504 - 28 * count_in block) (drop (4 + 28 * count_in block) block)

-- the 28 bytes of the row at a place in the table
abbrev pub row_slice : List ℕ → ℕ → List ℕ
row_slice bytes i = take 28 (drop (512 * (i / 18) + (4 + 28 * (i % 18))) bytes)

-- how many blocks there are, and how many rows: 18 in each block but the last
abbrev pub blocks_in : List ℕ → ℕ
blocks_in bytes = length bytes / 512

abbrev pub row_count : List ℕ → ℕ
row_count bytes = 18 * (blocks_in bytes - 1) + count_in (block_at bytes (blocks_in bytes - 1))

-- the rows
unfoldable pub rows_in : List ℕ → List Row
rows_in bytes = map (λ i. row_of (row_slice bytes i)) (range_with_len 0 (row_count bytes))

-- well-formed bytes: one or more whole blocks, each with its number and its check; 18 rows in each block but the last, which has 1
-- to 18; each unused byte 0; and each row of the kind. proofs/Formed.antt: such bytes are the packed form of the rows that they hold,
-- and the packed form of up to 1152 rows that fit is well-formed
pub record Formed (kind : ℕ) (bytes : List ℕ) : Type 0 where
  pub whole : length bytes ≡ 512 * blocks_in bytes
  pub some : 1 ≤ blocks_in bytes
  pub checks : (k : ℕ) → k < blocks_in bytes → check_in (block_at bytes k) ≡ check_sum (take 508 (block_at bytes k))
  pub full : (k : ℕ) → suc k < blocks_in bytes → count_in (block_at bytes k) ≡ 18
  pub last_some : 1 ≤ count_in (block_at bytes (blocks_in bytes - 1))
  pub last_most : count_in (block_at bytes (blocks_in bytes - 1)) ≤ 18
  pub numbers : (k : ℕ) → k < blocks_in bytes → number_in (block_at bytes k) ≡ k
  pub unused : (k j : ℕ) → k < blocks_in bytes → j < length (unused_in (block_at bytes k)) → slice_index (unused_in (block_at bytes k)) j ≡ 0
  pub kinds : (i : ℕ) → i < row_count bytes → kind_of (row_slice bytes i) ≡ kind

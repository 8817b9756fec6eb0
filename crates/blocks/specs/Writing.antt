-- The packed form of a list of rows. Cited by crate pack's src. Assumes nothing.
use Rattle.std.specs.Prelude.{ℕ, zero, suc, ◌+◌, ◌-◌, ◌*◌, ◌/◌, List, [], ◌∷◌, ◌++◌, length, take, drop, replicate}
use Rattle.std.specs.List.{flat_map}
use Rattle.packet.specs.declared.range.Range.{Range}
use Rattle.theory.specs.Tables.{Row}
use Rattle.blocks.specs.Numbers.{big_endian}

-- the bytes that a value of each field takes
abbrev pub widths : List ℕ
widths = 4 ∷ 2 ∷ 4 ∷ 2 ∷ 1 ∷ []

-- ranges: low and high end of each field in the field's width
abbrev pub range_bytes : List ℕ → List (Range ℕ) → List ℕ
range_bytes [] rs = []
range_bytes (w ∷ ws) [] = []
range_bytes (w ∷ ws) (r ∷ rs) = big_endian w r.low ++ big_endian w r.high ++ range_bytes ws rs

-- a row: its ranges, its decision, the number of its kind
abbrev pub row_bytes : ℕ → Row → List ℕ
row_bytes kind row = range_bytes widths row.ranges ++ row.decision ∷ kind ∷ []

-- the sum of the bytes, each times its place, of which the first is n
abbrev pub sum_from : ℕ → List ℕ → ℕ
sum_from n [] = 0
sum_from n (b ∷ bs) = b * n + sum_from (suc n) bs

-- the check of a block's first bytes: each times its place counted from 1
abbrev pub check_sum : List ℕ → ℕ
check_sum bytes = sum_from 1 bytes

-- a block before its check: count of rows, number of the block, the rows, and 0 for each unused byte
abbrev pub block_body : ℕ → ℕ → List Row → List ℕ
block_body kind number rows = big_endian 2 (length rows) ++ big_endian 2 number ++ flat_map (row_bytes kind) rows ++ replicate (504 - 28 * length rows) 0

-- a block
abbrev pub block : ℕ → ℕ → List Row → List ℕ
block kind number rows = block_body kind number rows ++ big_endian 4 (check_sum (block_body kind number rows))

-- the rows of the block with a number: 18, or what is left
abbrev pub rows_of_block : List Row → ℕ → List Row
rows_of_block rows number = take 18 (drop (18 * number) rows)

-- the first blocks of a table
unfoldable pub first_blocks : ℕ → List Row → ℕ → List ℕ
first_blocks kind rows zero = []
first_blocks kind rows (suc n) = first_blocks kind rows n ++ block kind n (rows_of_block rows n)

-- how many blocks so many rows take
abbrev pub block_count : ℕ → ℕ
block_count n = (n + 17) / 18

-- the packed form of a table
abbrev pub packed : ℕ → List Row → List ℕ
packed kind rows = first_blocks kind rows (block_count (length rows))

-- What packing answers, and what it leaves in the bytes. Cited by src/packing.rt. Assumes nothing.
use Rattle.std.specs.Prelude.{◌≡◌, ℕ, Bool, true, false, ◌&&◌, List, ◌++◌, length, drop, Ok, Err, Result, nat_le}
use Rattle.table.specs.declared.refusal.PackRefusal.{PackRefusal}
use Rattle.table.specs.declared.refusal.PackRefusal.TheVariants.{TooLarge, Memory}
use Rattle.table.specs.Rows.{most_rows}
use Rattle.blocks.specs.Writing.{block_count}

-- do so many rows fit: at most 1,152, in at most so many blocks?
abbrev pub fits_in : ℕ → ℕ → Bool
fits_in room n = nat_le n most_rows && nat_le (block_count n) room

-- the answer for a table of n rows and room for so many blocks: the count of rows if they fit, refusal 5 if they do not. Want of
-- memory says nothing
abbrev pub Packs : ℕ → ℕ → Result ℕ PackRefusal → Type 0
Packs room n (Ok count) = (count ≡ n) × (fits_in room n ≡ true)
Packs room n (Err TooLarge) = fits_in room n ≡ false
Packs room n (Err Memory) = Unit {0}

-- what the bytes then hold: the packed form in front, and the bytes behind it as they were; after a refusal all as they were
abbrev pub left_by : Result ℕ PackRefusal → List ℕ → List ℕ → List ℕ
left_by (Ok count) packed bytes = packed ++ drop (length packed) bytes
left_by (Err refusal) packed bytes = bytes

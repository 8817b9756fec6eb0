-- The rows of packed bytes, by their places. Assumes nothing.
use Rattle.std.proofs.Common.{◌≡◌, ℕ, ◌<◌, true, List, [], length, sym, ap, ◌∙◌}
use Rattle.packet.specs.Packets.{tops, Within}
use Rattle.theory.specs.Tables.{Row}
use Rattle.theory.specs.Steps.{passes}
use Rattle.theory.specs.Neighbours.{ranges_at}
use Rattle.theory.proofs.Steps.{passes_nested}
use Rattle.theory.proofs.Holding as holding
use Rattle.blocks.specs.Writing.{widths}
use Rattle.blocks.specs.Reading.{ranges_of, row_slice, row_count, rows_in}
use Rattle.blocks.proofs.Formed.{row_at, length-rows}

-- the ranges of the row at a place
pub ranges_are : (bytes : List ℕ) (i : ℕ) → i < row_count bytes → ranges_at (rows_in bytes) i ≡ ranges_of widths (row_slice bytes i)
ranges_are bytes i h = ap (λ (r : Row). r.ranges) (row_at bytes i (record { ranges = []; decision = 0 }) h)

-- the row that holds a packet
pub found : (bytes : List ℕ) → passes tops (rows_in bytes) ≡ true → (p : List ℕ) → Within tops p → holding.Found (rows_in bytes) p
found bytes h p w = holding.found tops (rows_in bytes) (passes_nested tops (rows_in bytes) h) p w

-- as many rows as are counted
pub long : (bytes : List ℕ) (count : ℕ) → count ≡ row_count bytes → length (rows_in bytes) ≡ count
long bytes count h = length-rows bytes ∙ sym h

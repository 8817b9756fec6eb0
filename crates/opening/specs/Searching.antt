-- What a search in packed bytes rests on; the ghost fields of Rows, Nested and Table say the same. Assumes nothing.
use Rattle.std.specs.Prelude.{◌≡◌, ℕ, ◌*◌, ◌/◌, ◌≤◌, true, List, length}
use Rattle.packet.specs.Packets.{tops}
use Rattle.theory.specs.Steps.{passes}
use Rattle.blocks.specs.Reading.{row_count, rows_in}

-- the bytes hold so many rows, and these are nested
pub record HoldsNested (bytes : List ℕ) (rows : ℕ) : Type 0 where
  pub count : rows ≡ row_count bytes
  pub room : rows ≤ 18 * (length bytes / 512)
  pub nested : passes tops (rows_in bytes) ≡ true

-- The ranges of a line's words, field by field. Cited by src/regions.rt and src/print.rt. Assumes nothing.
use Rattle.std.specs.Prelude.{ℕ, ◌+◌, List, [], ◌∷◌, length, Ok, Err, Result}
use Rattle.packet.specs.declared.field.Field.{Field}
pub use Rattle.packet.specs.Packets.{fields}
use Rattle.packet.specs.declared.range.Range.{Range}
use Rattle.packet.specs.declared.region.Region.{Region}
use Rattle.packet.specs.Regions.{range_at}
use Rattle.text.specs.declared.faults.LineFault.{LineFault}
use Rattle.text.specs.declared.faults.LineFault.TheVariants.{Word, Words}
use Rattle.text.specs.Steps.{then, carried}
use Rattle.text.specs.Ranges.{range_of}

-- the ranges that the words from this column on write, one for each field, or the first fault; a line lacks no word, since its
-- words are counted first
unfoldable pub ranges_from : List Field → ℕ → List (List ℕ) → Result (List (Range ℕ)) LineFault
ranges_from [] column words = Ok []
ranges_from (field ∷ more) column [] = Err (Words column)
ranges_from (field ∷ more) column (w ∷ ws) =
    then (carried Word (range_of field column w)) (λ range. then (ranges_from more (column + length w + 1) ws) (λ ranges. Ok (range ∷ ranges)))

-- the region of these ranges
abbrev pub region_of : List (Range ℕ) → Region
region_of rs = record { source = range_at rs 0; source_port = range_at rs 1; destination = range_at rs 2; destination_port = range_at rs 3; protocol = range_at rs 4 }

-- the region that the words from this column on write
abbrev pub region_from : ℕ → List (List ℕ) → Result Region LineFault
region_from column words = then (ranges_from fields column words) (λ ranges. Ok (region_of ranges))

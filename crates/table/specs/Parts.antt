-- Parts of a table while it is built, field by field. Cited by the private functions of src/rows.rt. Assumes nothing.
use Rattle.std.specs.Prelude.{◌≡◌, ℕ, ◌-◌, List, ◌++◌, length, map, take, drop, slice_index, slice_set}
use Rattle.std.specs.List.{between}
use Rattle.packet.specs.declared.field.Field.{Field}
use Rattle.packet.specs.declared.range.Range.{Range}
use Rattle.packet.specs.Packets.{tops, fields as all_fields}
use Rattle.packet.specs.Regions.{clamped}
use Rattle.theory.specs.Tables.{Row, table}

-- how many fields come before the last ones
abbrev pub before : List Field → ℕ
before fields = length all_fields - length fields

-- these are the last fields
abbrev pub AreLast : List Field → Type 0
AreLast fields = fields ≡ drop (before fields) all_fields

-- the table of what m decides of the fields from f on, once the fields before have the values of p
abbrev pub table_from : (List ℕ → ℕ) → ℕ → List ℕ → List Row
table_from m f p = table (drop f tops) (λ q. m (take f p ++ q))

-- the whole range of each field
abbrev pub whole : List (Range ℕ)
whole = map (λ top. record { low = 0; high = top }) tops

-- a row of the fields from f on, with the whole range on each field before
abbrev pub uncut_row : ℕ → Row → Row
uncut_row f r = record { ranges = take f whole ++ r.ranges; decision = r.decision }

-- such rows
abbrev pub uncut : ℕ → List Row → List Row
uncut f rows = map (uncut_row f) rows

-- a row with another range on field f; an end above the field's largest value counts as the largest
abbrev pub cut : ℕ → Range ℕ → Row → Row
cut f range r = record { ranges = slice_set r.ranges f (clamped (slice_index tops f) range); decision = r.decision }

-- rows of which those from start to end are cut
abbrev pub cut_between : ℕ → ℕ → ℕ → Range ℕ → List Row → List Row
cut_between start end f range rows = take start rows ++ map (cut f range) (between start end rows) ++ drop end rows

-- Range words. Cited by src/ranges.rt. Assumes nothing.
use Rattle.std.specs.Prelude.{ℕ, cond, List, [], ◌∷◌, Some, None, Ok, Err, codes, Option, Result, slice_index}
use Rattle.std.specs.Str.{bytes_eq}
use Rattle.packet.specs.declared.field.Field.{Field}
use Rattle.packet.specs.declared.field.Field.TheVariants.{Source, SourcePort, Destination, DestinationPort, Protocol}
use Rattle.packet.specs.declared.range.Range.{Range}
use Rattle.packet.specs.Packets.{tops, place}
use Rattle.packet.specs.Regions.{reversed}
use Rattle.text.specs.declared.faults.WordFault.{WordFault}
use Rattle.text.specs.declared.faults.WordFault.TheVariants.{Number, Reversed}
use Rattle.text.specs.Pieces.{pieces}
use Rattle.text.specs.Numbers.{number_of, address_of}

-- the value of a field that a word writes: an address, or a number up to the field's largest
abbrev pub value_of : Field → List ℕ → Option ℕ
value_of Source word = address_of word
value_of SourcePort word = number_of (slice_index tops (place SourcePort)) word
value_of Destination word = address_of word
value_of DestinationPort word = number_of (slice_index tops (place DestinationPort)) word
value_of Protocol word = number_of (slice_index tops (place Protocol)) word

-- one value is both ends; two are the low end and the high end
abbrev pub ends_of : (List ℕ → Option ℕ) → List (List ℕ) → Option (Range ℕ)
ends_of value [] = None
ends_of value (v ∷ []) = elim (value v) [ None ↦ None | Some n ↦ Some (record { low = n; high = n }) ]
ends_of value (v ∷ w ∷ []) = elim (value v) [
  | None ↦ None
  | Some n ↦ elim (value w) [ None ↦ None | Some m ↦ Some (record { low = n; high = m }) ]
]
ends_of value (v ∷ w ∷ u ∷ us) = None

-- the range that ends make, or the fault of their word, which begins in this column
abbrev pub judged : ℕ → Option (Range ℕ) → Result (Range ℕ) WordFault
judged column None = Err (Number column)
judged column (Some range) = cond (reversed range) (Err (Reversed column)) (Ok range)

-- the range of a word other than `*`
abbrev pub written_range : Field → ℕ → List ℕ → Result (Range ℕ) WordFault
written_range field column word = judged column (ends_of (value_of field) (pieces 45 word))

-- the range of a range word: for `*` every value of the field
unfoldable pub range_of : Field → ℕ → List ℕ → Result (Range ℕ) WordFault
range_of field column word = cond (bytes_eq word (codes "*")) (Ok (record { low = 0; high = slice_index tops (place field) })) (written_range field column word)

-- Rules as lines. Cited by src/print.rt. Assumes nothing.
use Rattle.std.specs.Prelude.{◌≡◌, ℕ, zero, suc, ◌/◌, ◌%◌, Bool, cond, ◌&&◌, List, [], ◌∷◌, ◌++◌, Ok, Err, codes, decimal, Result, ◌==◌, slice_index}
use Rattle.packet.specs.declared.field.Field.{Field}
use Rattle.packet.specs.declared.field.Field.TheVariants.{Source, SourcePort, Destination, DestinationPort, Protocol}
use Rattle.packet.specs.declared.range.Range.{Range}
use Rattle.packet.specs.Packets.{tops, place}
use Rattle.text.specs.Fields.{fields}

-- the lowest bytes of a number, `more` and one, with full stops between them
unfoldable pub bytes_text : ℕ → ℕ → List ℕ
bytes_text zero n = decimal (n % 256)
bytes_text (suc more) n = bytes_text more (n / 256) ++ (codes "." ++ decimal (n % 256))

-- a value of a field: an address as its four bytes
abbrev pub value_text : Field → ℕ → List ℕ
value_text Source n = bytes_text 3 n
value_text SourcePort n = decimal n
value_text Destination n = bytes_text 3 n
value_text DestinationPort n = decimal n
value_text Protocol n = decimal n

-- does the range go from 0 to the field's largest value?
abbrev pub whole : Field → Range ℕ → Bool
whole field r = r.low == 0 && r.high == slice_index tops (place field)

-- a range of a field: `*` if it is whole, one value if the ends are equal
unfoldable pub range_text : Field → Range ℕ → List ℕ
range_text field r =
    cond (whole field r) (codes "*")
    (cond (r.low == r.high) (value_text field r.low)
    (value_text field r.low ++ (codes "-" ++ value_text field r.high)))

-- the ranges of these fields, with a space before each
unfoldable pub ranges_text : List Field → List (Range ℕ) → List ℕ
ranges_text [] rs = []
ranges_text (field ∷ more) [] = []
ranges_text (field ∷ more) (r ∷ rs) = codes " " ++ (range_text field r ++ ranges_text more rs)

-- the line of a rule: the word of its decision, then its ranges
abbrev pub line_text : (ℕ → List ℕ) → ℕ → List (Range ℕ) → List ℕ
line_text spelling decision rs = spelling decision ++ ranges_text fields rs

-- what a text is once something is written to it; where memory ran out, it still begins as it did
abbrev pub Appended : {T E : Type 0} → Result T E → List ℕ → List ℕ → List ℕ → Type 0
Appended (Ok _) before written after = after ≡ before ++ written
Appended (Err _) before written after = (rest : List ℕ) × (after ≡ before ++ rest)

-- Packets as lists of values, one for each field. Cited by src/field.rt and src/packet.rt. Assumes nothing.
use Rattle.std.specs.Prelude.{ℕ, ◌≤◌, Bool, false, ◌&&◌, ◌||◌, List, [], ◌∷◌, ◌==◌, nat_lt}
use Rattle.packet.specs.declared.packet.Packet.{Packet}
use Rattle.packet.specs.declared.field.Field.{Field}
use Rattle.packet.specs.declared.field.Field.TheVariants.{Source, SourcePort, Destination, DestinationPort, Protocol}

-- the values of a packet, field by field
abbrev pub values : Packet → List ℕ
values p = p.source ∷ p.source_port ∷ p.destination ∷ p.destination_port ∷ p.protocol ∷ []

-- the largest value of each field
abbrev pub tops : List ℕ
tops = 4294967295 ∷ 65535 ∷ 4294967295 ∷ 65535 ∷ 255 ∷ []

-- where a field stands in these lists
abbrev pub place : Field → ℕ
place Source = 0
place SourcePort = 1
place Destination = 2
place DestinationPort = 3
place Protocol = 4

-- the fields of a packet, in their order
abbrev pub fields : List Field
fields = Source ∷ SourcePort ∷ Destination ∷ DestinationPort ∷ Protocol ∷ []

-- p is a packet: one value for each field, and none above the field's largest. "Every packet" is every p with Within tops p
abbrev pub Within : List ℕ → List ℕ → Type 0
Within [] [] = Unit {0}
Within [] (v ∷ p) = ⊥
Within (top ∷ rest) [] = ⊥
Within (top ∷ rest) (v ∷ p) = (v ≤ top) × Within rest p

-- does p come before q? The first field in which they differ decides
abbrev pub earlier : List ℕ → List ℕ → Bool
earlier [] q = false
earlier (v ∷ p) [] = false
earlier (v ∷ p) (w ∷ q) = nat_lt v w || (v == w && earlier p q)

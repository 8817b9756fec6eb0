-- What holds of the values of every packet. Assumes nothing.
use Rattle.std.proofs.Common.{◌≡◌, ℕ, zero, suc, ◌<◌, ◌≤◌, List, [], ◌∷◌, length, get_or, refl, ap, arith}
use Rattle.packet.specs.declared.field.Field.{Field}
use Rattle.packet.specs.declared.field.Field.TheVariants.{Source, SourcePort, Destination, DestinationPort, Protocol}
use Rattle.packet.specs.Packets.{Within, tops, place}

-- a packet has a value for each field
pub long : (ts p : List ℕ) → Within ts p → length p ≡ length ts
long [] [] w = refl
long [] (v ∷ p) w = absurd w
long (t ∷ ts) [] w = absurd w
long (t ∷ ts) (v ∷ p) w = ap suc (long ts p w.1)

-- and no value is above the field's largest
pub at_most : (ts p : List ℕ) (f : ℕ) → Within ts p → get_or p f 0 ≤ get_or ts f 0
at_most [] [] f w = omega arith
at_most [] (v ∷ p) f w = absurd w
at_most (t ∷ ts) [] f w = absurd w
at_most (t ∷ ts) (v ∷ p) zero w = w.0
at_most (t ∷ ts) (v ∷ p) (suc f) w = at_most ts p f w.1

-- every field has its place among the values
pub place_few : (field : Field) → place field < length tops
place_few Source = omega arith
place_few SourcePort = omega arith
place_few Destination = omega arith
place_few DestinationPort = omega arith
place_few Protocol = omega arith

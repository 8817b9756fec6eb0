-- When regions cover each other or share a packet, by packets and by their ranges. Cited by src/overlap.rt. Assumes nothing.
use Rattle.std.specs.Prelude.{◌≡◌, ℕ, min, max, Bool, true, false, ◌&&◌, ◌||◌, List, [], ◌∷◌, nat_le}
use Rattle.packet.specs.declared.range.Range.{Range}
use Rattle.packet.specs.Packets.{Within, tops}
use Rattle.packet.specs.Regions.{holds, any_reversed}

-- a holds every packet that b holds
unfoldable pub Covers : List (Range ℕ) → List (Range ℕ) → Type 0
Covers a b = (p : List ℕ) → Within tops p → holds b p ≡ true → holds a p ≡ true

-- some packet is held by both
unfoldable pub Shares : List (Range ℕ) → List (Range ℕ) → Type 0
Shares a b = (p : List ℕ) × Within tops p × (holds a p ≡ true) × (holds b p ≡ true)

-- does each range of a reach over the range of b, at both ends?
unfoldable pub reaches_over : List (Range ℕ) → List (Range ℕ) → Bool
reaches_over [] [] = true
reaches_over [] (s ∷ b) = false
reaches_over (r ∷ a) [] = false
reaches_over (r ∷ a) (s ∷ b) = nat_le r.low s.low && nat_le s.high r.high && reaches_over a b

-- the test for Covers: b holds nothing, or a reaches over it
abbrev pub covers_ranges : List (Range ℕ) → List (Range ℕ) → Bool
covers_ranges a b = any_reversed b || reaches_over a b

-- the test for Shares: on each field the later start is not after the earlier end
unfoldable pub shares_ranges : List (Range ℕ) → List (Range ℕ) → Bool
shares_ranges [] [] = true
shares_ranges [] (s ∷ b) = false
shares_ranges (r ∷ a) [] = false
shares_ranges (r ∷ a) (s ∷ b) = nat_le (max r.low s.low) (min r.high s.high) && shares_ranges a b

-- Ranges, and regions as lists of ranges, one for each field. Cited by src/range.rt and src/region.rt. Assumes nothing.
use Rattle.std.specs.Prelude.{ℕ, ◌-◌, ◌≤◌, min, Bool, true, false, cond, ◌&&◌, ◌||◌, List, [], ◌∷◌, nat_le, nat_lt, slice_index_or}
use Rattle.packet.specs.declared.range.Range.{Range}
use Rattle.packet.specs.declared.region.Region.{Region}

-- does the value lie in the range? Both ends are inside
abbrev pub inside : Range ℕ → ℕ → Bool
inside r v = nat_le r.low v && nat_le v r.high

-- is the low end above the high end?
abbrev pub reversed : Range ℕ → Bool
reversed r = nat_lt r.high r.low

-- the lowest value, from v up to top, that ends the range or lies just below its start; top if there is none
abbrev pub run_end : ℕ → Range ℕ → ℕ → ℕ
run_end top r v = cond (nat_lt v r.low) (min top (r.low - 1)) (cond (nat_le v r.high) (min top r.high) top)

-- a range with both ends brought down to a largest value
abbrev pub clamped : ℕ → Range ℕ → Range ℕ
clamped top r = record { low = min r.low top; high = min r.high top }

-- the ranges of a region, field by field
abbrev pub ranges : Region → List (Range ℕ)
ranges g = g.source ∷ g.source_port ∷ g.destination ∷ g.destination_port ∷ g.protocol ∷ []

-- the range at a field's place
abbrev pub range_at : List (Range ℕ) → ℕ → Range ℕ
range_at rs f = slice_index_or rs f (record { low = 0; high = 0 })

-- one range for each field, and no end above the field's largest value
abbrev pub Fit : List ℕ → List (Range ℕ) → Type 0
Fit [] [] = Unit {0}
Fit [] (r ∷ rs) = ⊥
Fit (top ∷ rest) [] = ⊥
Fit (top ∷ rest) (r ∷ rs) = (r.low ≤ top) × (r.high ≤ top) × Fit rest rs

-- does the packet lie in the ranges, field by field?
abbrev pub holds : List (Range ℕ) → List ℕ → Bool
holds [] [] = true
holds [] (v ∷ p) = false
holds (r ∷ rs) [] = false
holds (r ∷ rs) (v ∷ p) = inside r v && holds rs p

-- is one of the ranges reversed?
abbrev pub any_reversed : List (Range ℕ) → Bool
any_reversed [] = false
any_reversed (r ∷ rs) = reversed r || any_reversed rs

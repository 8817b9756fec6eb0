-- Which row holds a packet, and which packets come before a row. Cited by crate opening's specs. Assumes nothing.
use Rattle.std.specs.Prelude.{ℕ, Bool, false, cond, ◌&&◌, ◌||◌, List, [], ◌∷◌, nat_le, nat_lt}
use Rattle.packet.specs.declared.range.Range.{Range}
use Rattle.packet.specs.Regions.{holds}
use Rattle.theory.specs.Tables.{Row}

-- the ranges of the first row that holds the packet; no range if no row does
abbrev pub held : List Row → List ℕ → List (Range ℕ)
held [] p = []
held (row ∷ rows) p = cond (holds row.ranges p) row.ranges (held rows p)

-- does the packet come before the ranges? On the first field whose range does not hold its value, the value is below the range
abbrev pub before : List (Range ℕ) → List ℕ → Bool
before [] p = false
before (r ∷ rs) [] = false
before (r ∷ rs) (v ∷ p) = nat_lt v r.low || (nat_le v r.high && before rs p)

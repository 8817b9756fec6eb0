-- What layers decide, and where they may stop. Cited by src/combined.rt, src/over.rt and src/part.rt. Assumes nothing.
use Rattle.std.specs.Prelude.{◌≡◌, ℕ, min, cond, List, ◌==◌, slice_index}
use Rattle.packet.specs.declared.range.Range.{Range}
use Rattle.packet.specs.Packets.{tops}
use Rattle.packet.specs.Regions.{holds, range_at, run_end}

-- the first decision, unless it is silent; then the second
abbrev pub over : ℕ → ℕ → ℕ → ℕ
over silent a b = cond (a == silent) b a

-- the source's decision inside the region, silent outside
abbrev pub part : ℕ → List (Range ℕ) → (List ℕ → ℕ) → List ℕ → ℕ
part silent region m p = cond (holds region p) (m p) silent

-- the lower of what the two may answer
abbrev pub Lower : (ℕ → Type 0) → (ℕ → Type 0) → ℕ → Type 0
Lower P Q r = (a : ℕ) × (b : ℕ) × P a × Q b × (r ≡ min a b)

-- the lowest value of field f, from p's own up, that ends the region's range or lies just below its start; the largest if none does
abbrev pub own_end : List (Range ℕ) → ℕ → List ℕ → ℕ
own_end region f p = run_end (slice_index tops f) (range_at region f) (slice_index p f)

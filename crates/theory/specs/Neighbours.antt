-- Which rows start a range that is alike its left neighbour. Cited by crate opening's specs. Assumes nothing.
use Rattle.std.specs.Prelude.{ℕ, zero, suc, Bool, false, cond, ◌&&◌, List, [], ◌∷◌, ◌++◌, map, take, drop, ◌==◌, slice_index_or}
use Rattle.packet.specs.declared.range.Range.{Range}
use Rattle.theory.specs.Tables.{Row, lookup, same_rows, table}

-- do the two decide every packet alike? Exactly if they have one table
unfoldable pub alike : List ℕ → (List ℕ → ℕ) → (List ℕ → ℕ) → Bool
alike tops m m' = same_rows (table tops m) (table tops m')

-- the first field in which the ranges of two rows differ
abbrev pub first_difference : List (Range ℕ) → List (Range ℕ) → ℕ
first_difference [] b = 0
first_difference (x ∷ a) [] = 0
first_difference (x ∷ a) (y ∷ b) = cond (x.low == y.low && x.high == y.high) (suc (first_difference a b)) 0

-- what the rows decide of the later fields where the first ones have the low ends of these ranges
abbrev pub under : List Row → List (Range ℕ) → List ℕ → ℕ
under rows ranges q = lookup rows (map (λ (r : Range ℕ). r.low) ranges ++ q)

-- a row with the ranges b that follows one with the ranges a starts a range, on the first field in which the two differ; a's range
-- there is its left neighbour. Are the values of the two alike, that is, do all values of the later fields get equal decisions?
abbrev pub alike_neighbours : List ℕ → List Row → List (Range ℕ) → List (Range ℕ) → Bool
alike_neighbours tops rows a b = let f : ℕ = suc (first_difference a b) in alike (drop f tops) (under rows (take f a)) (under rows (take f b))

-- the ranges of a row, by its place
abbrev pub ranges_at : List Row → ℕ → List (Range ℕ)
ranges_at rows i = (slice_index_or rows i (record { ranges = []; decision = 0 })).ranges

-- does the row at a place start a range that is alike its left neighbour? The first row's ranges have no left neighbour
abbrev pub starts_alike : List ℕ → List Row → ℕ → Bool
starts_alike tops rows zero = false
starts_alike tops rows (suc i) = alike_neighbours tops rows (ranges_at rows i) (ranges_at rows (suc i))

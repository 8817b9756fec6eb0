-- What the answers to packed bytes say of their rows, in the subject's words. Cited by src/inspection.rt. Assumes nothing.
use Rattle.std.specs.Prelude.{◌≡◌, ℕ, zero, suc, ◌<◌, ◌≤◌, List, ◌++◌, length, take, drop, Some, None, Option}
use Rattle.packet.specs.Packets.{tops, Within}
use Rattle.theory.specs.Tables.{Row, Nested, Reduced}
use Rattle.theory.specs.Neighbours.{ranges_at, first_difference, under}
use Rattle.damage.specs.declared.damage.Damage.{Damage}
use Rattle.damage.specs.declared.damage.Damage.TheVariants.{Length, Check, Frame, Foreign, NotNested, NotReduced}

-- the rows begin a nested list: with some rows behind them they are one
abbrev pub Begins : List Row → Type 0
Begins rows = (more : List Row) × Nested tops (rows ++ more)

-- the row at a place starts a range, on the first field in which it differs from the row before, whose values are alike those of the
-- range on its left: all values of the later fields get equal decisions
abbrev pub StartsAlike : List Row → ℕ → Type 0
StartsAlike rows zero = ⊥
StartsAlike rows (suc i) = let f : ℕ = suc (first_difference (ranges_at rows i) (ranges_at rows (suc i))) in
    (q : List ℕ) → Within (drop f tops) q → under rows (take f (ranges_at rows i)) q ≡ under rows (take f (ranges_at rows (suc i))) q

-- what is said of the rows. No damage: they are nested, and no two neighbouring ranges are alike. 15 at row i: the rows before i begin a
-- nested list, and with row i they do not, or they are all the rows and the list ends short. 16 at row i: the rows are nested,
-- and i is the lowest row that starts a range alike its left neighbour. The other damage is of the bytes, and says nothing of rows
abbrev pub Says : Option Damage → List Row → Type 0
Says None rows = Nested tops rows × Reduced tops rows
Says (Some Length) rows = Unit {0}
Says (Some (Check block)) rows = Unit {0}
Says (Some (Frame block)) rows = Unit {0}
Says (Some (Foreign row)) rows = Unit {0}
Says (Some (NotNested i)) rows = Begins (take i rows) × (i ≤ length rows) × (i < length rows → ¬ (Begins (take (suc i) rows))) × (i ≡ length rows → ¬ (Nested tops rows))
Says (Some (NotReduced i)) rows = Nested tops rows × StartsAlike rows i × ((j : ℕ) → j < i → ¬ (StartsAlike rows j))

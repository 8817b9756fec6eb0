-- A test for nested rows that goes from each row to the next. Cited by crate opening's specs. Assumes nothing.
use Rattle.std.specs.Prelude.{ℕ, suc, Bool, true, false, cond, ◌&&◌, List, [], ◌∷◌, ◌==◌, nat_le}
use Rattle.std.proofs.Math.Option.{Option, none, some}
use Rattle.packet.specs.declared.range.Range.{Range}
use Rattle.theory.specs.Tables.{Row}

-- there is one range for each field, and each is low ≤ high ≤ top
abbrev pub fits : List ℕ → List (Range ℕ) → Bool
fits [] [] = true
fits [] (r ∷ rs) = false
fits (top ∷ rest) [] = false
fits (top ∷ rest) (r ∷ rs) = nat_le r.low r.high && nat_le r.high top && fits rest rs

-- each range begins at 0
abbrev pub at_start : List (Range ℕ) → Bool
at_start [] = true
at_start (r ∷ rs) = r.low == 0 && at_start rs

-- each range ends at its field's top
abbrev pub at_end : List ℕ → List (Range ℕ) → Bool
at_end [] [] = true
at_end [] (r ∷ rs) = false
at_end (top ∷ rest) [] = false
at_end (top ∷ rest) (r ∷ rs) = r.high == top && at_end rest rs

-- may ranges b stand right after ranges a? Where they first differ, b begins one past the end of a; in the fields after that,
-- a is at its end and b at its start
abbrev pub follows : List ℕ → List (Range ℕ) → List (Range ℕ) → Bool
follows [] a b = false
follows (top ∷ rest) [] b = false
follows (top ∷ rest) (x ∷ a) [] = false
follows (top ∷ rest) (x ∷ a) (y ∷ b) = cond (x.low == y.low && x.high == y.high)
    (follows rest a b)
    (y.low == suc x.high && at_end rest a && at_start b)

-- may ranges b come next, after the row before, or first if there is none?
abbrev pub may_come : List ℕ → Option (List (Range ℕ)) → List (Range ℕ) → Bool
may_come tops none b = at_start b
may_come tops (some a) b = follows tops a b

-- do these rows come one after another, after the row before?
abbrev pub walk : List ℕ → Option (List (Range ℕ)) → List Row → Bool
walk tops before [] = true
walk tops before (r ∷ rows) = fits tops r.ranges && may_come tops before r.ranges && walk tops (some r.ranges) rows

-- the ranges of the last row, or what was before if there is no row
abbrev pub last : Option (List (Range ℕ)) → List Row → Option (List (Range ℕ))
last before [] = before
last before (r ∷ rows) = last (some r.ranges) rows

-- is the last row at its end?
abbrev pub finished : List ℕ → Option (List (Range ℕ)) → Bool
finished tops none = false
finished tops (some a) = at_end tops a

-- the rows pass as the first rows of a nested list
abbrev pub begins : List ℕ → List Row → Bool
begins tops rows = walk tops none rows

-- the rows pass as a nested list
abbrev pub passes : List ℕ → List Row → Bool
passes tops rows = begins tops rows && finished tops (last none rows)

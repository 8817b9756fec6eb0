-- What rows mean: rows of a nested table. Cited by src/rows.rt. Assumes nothing.
use Rattle.std.specs.Prelude.{ℕ, List, map}
use Rattle.packet.specs.Regions.{ranges}
use Rattle.theory.specs.Tables as tables
use Rattle.table.specs.declared.row.Row.{Row}

-- a row as one range for each field, and the decision
abbrev pub plain : Row → tables.Row
plain r = record { ranges = ranges r.region; decision = r.decision }

-- the rows, in their order
abbrev pub view : List Row → List tables.Row
view rows = map plain rows

-- the most rows that are packed
abbrev pub most_rows : ℕ
most_rows = 1152

use Rattle.std.proofs.Common.{◌≡◌, ◌++◌, map, take, drop}
use Rattle.packet.specs.Packets.{place}
use Rattle.table.specs.Rows.{view}
use Rattle.table.specs.Parts.{cut}
use Rattle.table.proofs.rows.narrow.Given as goal

-- the rows so far have the range, and the others are as they were
abbrev pub invariant-loop-row : goal.invariant-loop-row
invariant-loop-row l = view l.row-items ≡ map (cut (place l.field) l.range) (take l.row-index (view l.initial.row-items)) ++ drop l.row-index (view l.initial.row-items)

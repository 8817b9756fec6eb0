use Rattle.std.proofs.Common.{◌≡◌, ◌++◌, take, vec_items}
use Rattle.std.specs.List.{flat_map}
use Rattle.table.specs.Rows.{view}
use Rattle.blocks.specs.Writing.{row_bytes}
use Rattle.pack.proofs.Blocks.{heading}
use Rattle.pack.proofs.writing.block_bytes.Given as goal

-- the count, the number, and the rows so far
abbrev pub invariant-loop-row : goal.invariant-loop-row
invariant-loop-row l = vec_items l.bytes ≡ heading l.kind l.number l.rows ++ flat_map (row_bytes l.kind) (view (take l.row-index l.rows))

use Rattle.std.proofs.Common.{◌≡◌, ◌-◌, true, take, None}
use Rattle.packet.specs.Packets.{tops}
use Rattle.theory.specs.Steps.{begins}
use Rattle.theory.specs.Neighbours.{ranges_at}
use Rattle.blocks.specs.Reading.{rows_in}
use Rattle.opening.specs.Damages.{first}
use Rattle.opening.proofs.Begun.{nesting_at}
use Rattle.opening.proofs.nesting.check_nesting.Given as goal

-- the rows so far begin a nested list
abbrev pub invariant-loop-row : goal.invariant-loop-row
invariant-loop-row l = record {
  whole : first l.row (nesting_at (rows_in l.rows.bytes.now)) ≡ None;
  begun : begins tops (take l.row (rows_in l.rows.bytes.now)) ≡ true;
  last : l.last ≡ ranges_at (rows_in l.rows.bytes.now) (l.row - 1);
}

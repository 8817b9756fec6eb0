use Rattle.std.proofs.Common.{◌-◌, ◌≤◌, length, get_or}
use Rattle.packet.specs.Packets.{values, tops}
use Rattle.blocks.specs.Reading.{rows_in}
use Rattle.opening.proofs.Walk.{Agrees}
use Rattle.opening.proofs.alike.+are_alike.Given as goal

abbrev pub decreases-are_alike : goal.decreases-are_alike
decreases-are_alike l = length tops - l.field

-- the values so far are decided alike
abbrev pub invariant-loop-left : goal.invariant-loop-left
invariant-loop-left l = record {
  below : l.value ≤ get_or tops l.field 0;
  agree : Agrees (rows_in l.nested.rows.bytes.now) l.field (values l.left) (values l.right) l.value;
}

abbrev pub decreases-loop-left : goal.decreases-loop-left
decreases-loop-left l = get_or tops l.field 0 - l.value

use Rattle.std.proofs.Common.{◌-◌, ◌<◌, ◌≤◌}
use Rattle.packet.specs.Packets.{values}
use Rattle.theory.proofs.Holding.{Found}
use Rattle.blocks.specs.Reading.{rows_in}
use Rattle.opening.proofs.search.Nested.holding.Given as goal

-- the row that holds the packet is among those that are left
abbrev pub invariant-loop-high : goal.invariant-loop-high
invariant-loop-high l = record {
  among : (f : Found (rows_in l.self.rows.bytes.now) (values l.packet)) → (l.low ≤ f.place) × (f.place < l.high);
  few : l.high ≤ l.self.rows.count;
  some : l.low < l.high;
}

abbrev pub decreases-loop-high : goal.decreases-loop-high
decreases-loop-high l = l.high - l.low

use Rattle.std.proofs.Common.{◌≡◌}
use Rattle.packet.specs.Packets.{values}
use Rattle.theory.specs.Holding.{before}
use Rattle.opening.proofs.search.is_before.Given as goal

abbrev pub invariant-loop-range : goal.invariant-loop-range
invariant-loop-range l = before l.range-iterator.a.rest.now l.range-iterator.b.rest.now ≡ before l.fn.ranges (values l.fn.packet)

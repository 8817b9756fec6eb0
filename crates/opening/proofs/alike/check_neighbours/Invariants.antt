use Rattle.std.proofs.Common.{◌≡◌, None}
use Rattle.packet.specs.Packets.{tops}
use Rattle.theory.specs.Neighbours.{starts_alike}
use Rattle.blocks.specs.Reading.{rows_in}
use Rattle.damage.specs.declared.damage.Damage.TheVariants.{NotReduced}
use Rattle.opening.specs.Damages.{found, first}
use Rattle.opening.proofs.alike.check_neighbours.Given as goal

abbrev pub invariant-loop-row : goal.invariant-loop-row
invariant-loop-row l = first l.row (λ i. found (starts_alike tops (rows_in l.nested.rows.bytes.now) i) (NotReduced i)) ≡ None

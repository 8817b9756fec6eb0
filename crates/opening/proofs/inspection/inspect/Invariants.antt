use Rattle.std.proofs.Common.{◌≡◌, None}
use Rattle.opening.specs.Damages.{first, block_damage}
use Rattle.opening.proofs.inspection.inspect.Given as goal

abbrev pub invariant-loop-number : goal.invariant-loop-number
invariant-loop-number g l = first l.number (block_damage g.K.Kind.NUMBER g.K.Kind.COUNT l.bytes) ≡ None

use Rattle.std.proofs.Common.{◌≡◌, take}
use Rattle.blocks.specs.Writing.{check_sum}
use Rattle.blocks.proofs.check.check_sum.Given as goal

abbrev pub invariant-loop-index : goal.invariant-loop-index
invariant-loop-index l = l.sum ≡ check_sum (take l.index l.body)

use Rattle.std.proofs.Common.{◌≡◌, ◌-◌, ◌^◌, ◌<◌}
use Rattle.text.specs.Pieces.{left}
use Rattle.text.specs.Numbers.{address_of, bytes_from}
use Rattle.text.proofs.numbers.address.Given as goal

abbrev pub invariant-loop : goal.invariant-loop
invariant-loop l = (l.value < 256 ^ l.counter) × (address_of l.word ≡ bytes_from (4 - l.counter) l.value (left l.parts))

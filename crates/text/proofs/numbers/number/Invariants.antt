use Rattle.std.proofs.Common.{◌≡◌, ◌≤◌, drop}
use Rattle.text.specs.Numbers.{number_of, at_most, value_from}
use Rattle.text.proofs.numbers.number.Given as goal

abbrev pub invariant-loop-byte : goal.invariant-loop-byte
invariant-loop-byte l = (l.value ≤ l.top) × (number_of l.top l.word ≡ at_most l.top (value_from l.value (drop l.byte-index l.word)))

use Rattle.std.proofs.Common.{◌≡◌, ◌++◌, length}
use Rattle.cases.specs.Words.{bytes_of}
use Rattle.cases.proofs.words.bytes.Given as goal

abbrev pub decreases-pairs : goal.decreases-pairs
decreases-pairs l = length l.rest

abbrev pub invariant-pairs : goal.invariant-pairs
invariant-pairs l = l.bytes.items ++ bytes_of l.rest ≡ bytes_of l.fn.word

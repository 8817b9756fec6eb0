use Rattle.std.proofs.Common.{◌≡◌}
use Rattle.text.specs.Reads.{reads}
use Rattle.book.specs.Books.{rules_of}
use Rattle.text.specs.Readings.{read_of}
use Rattle.text.proofs.Lined.{lines_left}
use Rattle.text.proofs.reading.read.Given as goal

abbrev pub invariant-loop-line : goal.invariant-loop-line
invariant-loop-line g l =
    let read = reads g.K.Kind in
    read_of read l.text ≡ lines_left read l.line-iterator (rules_of l.book)

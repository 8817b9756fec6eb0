use Rattle.std.proofs.Common.{◌≡◌, List, length}
use Rattle.text.specs.Reads.{reads}
use Rattle.book.specs.declared.rule.Rule.{Rule}
use Rattle.text.specs.Readings.{read_of}
use Rattle.text.proofs.Lined.{lines_left}
use Rattle.text.proofs.deciding.check.Given as goal

abbrev pub invariant-loop-line : goal.invariant-loop-line
invariant-loop-line g l =
    let read = reads g.K.Kind in
    (rules : List Rule) × (length rules ≡ l.count) × (read_of read l.text.bytes.now ≡ lines_left read l.line-iterator rules)

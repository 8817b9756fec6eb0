use Rattle.std.proofs.Common.{◌≡◌, ℕ}
use Rattle.packet.specs.Packets.{values}
use Rattle.text.specs.Reads.{reads}
use Rattle.text.specs.Pieces.{pieces, left, LiesAt}
use Rattle.text.specs.DecidingLines.{first_line}
use Rattle.text.proofs.Found.{Cut}
use Rattle.text.proofs.deciding.first_line.Given as goal

abbrev pub invariant-loop-line : goal.invariant-loop-line
invariant-loop-line g l =
    let found = first_line (reads g.K.Kind) (values l.packet) in
    let rest = l.line-iterator.pieces in
    (start : ℕ) × LiesAt l.text.bytes start rest.rest × Cut l.text.bytes.now start (left rest) × (found 0 (pieces 10 l.text.bytes.now) ≡ found start (left rest))

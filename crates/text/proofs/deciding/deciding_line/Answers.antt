use Rattle.std.proofs.Common.{◌≡◌, ℕ, List, Ok, subst, rules, Bor}
use Rattle.packet.specs.Packets.{values}
use Rattle.text.specs.Reads.{reads}
use Rattle.text.specs.Readings.{read_of}
use Rattle.text.specs.DecidingLines.{Decides}
use Rattle.text.proofs.Found.{line_decides}
use Rattle.text.proofs.deciding.deciding_line.Goals as goal

pub returns-clause-decision : goal.returns-clause-decision
returns-clause-decision g c =
    let read = reads g.K.Kind in
    let line = c.first_line.result in
    let same : c.in_ok-text.text.bytes ≡ c.args.text = search rules in
    subst (λ (t : Bor (List ℕ)). Decides g.K.Kind.COUNT g.K.Kind.SILENT read (values c.args.packet) (read_of read t.now).rules (Ok line)) same
    (line_decides g.K.Kind.COUNT g.K.Kind.SILENT g.K.Kind.word (values c.args.packet) c.in_ok-text.text.bytes c.in_ok-check.ensures line c.first_line.ensures)

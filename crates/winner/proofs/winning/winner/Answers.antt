use Rattle.std.proofs.Common.{◌≡◌, Some, None, Ok, subst, rules}
use Rattle.packet.specs.Packets.{values}
use Rattle.text.specs.Reads.{reads}
use Rattle.text.specs.Readings.{read_of}
use Rattle.text.specs.DecidingLines.{Decides}
use Rattle.winner.proofs.Won.{first_settles, second_settles}
use Rattle.winner.proofs.winning.winner.Goals as goal

pub returns-in-Some-default-clause-decision : goal.returns-in-Some-default-clause-decision
returns-in-Some-default-clause-decision g c =
    let read = reads g.K.Kind in
    let upper : c.deciding_line.result ≡ Ok (Some c.in-Some-default.line) = search rules in
    first_settles g.K.Kind.COUNT g.K.Kind.SILENT read (values c.args.packet) c.in-Some-default.line c.args.first c.args.second
    (subst (Decides g.K.Kind.COUNT g.K.Kind.SILENT read (values c.args.packet) (read_of read c.args.first.now).rules) upper c.deciding_line.ensures.decision)

pub returns-in-None-Some-clause-decision : goal.returns-in-None-Some-clause-decision
returns-in-None-Some-clause-decision g c =
    let read = reads g.K.Kind in
    let upper : c.deciding_line.result ≡ Ok None = search rules in
    let lower : c.deciding_line-2.result ≡ Ok (Some c.in-None-Some.line) = search rules in
    second_settles g.K.Kind.COUNT g.K.Kind.SILENT read (values c.args.packet) c.in-None-Some.line c.args.first c.args.second
    (subst (Decides g.K.Kind.COUNT g.K.Kind.SILENT read (values c.args.packet) (read_of read c.args.first.now).rules) upper c.deciding_line.ensures.decision)
    (subst (Decides g.K.Kind.COUNT g.K.Kind.SILENT read (values c.args.packet) (read_of read c.args.second.now).rules) lower c.deciding_line-2.ensures.decision)

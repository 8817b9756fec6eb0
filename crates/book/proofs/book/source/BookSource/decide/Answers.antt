use Rattle.packet.specs.Packets.{values}
use Rattle.book.specs.Books.{rules_of}
use Rattle.book.proofs.Scans.{first_found, known_first}
use Rattle.book.proofs.book.source.BookSource.decide.Goals as goal

pub returns : goal.returns
returns g c =
    let found = first_found g.K.Kind.SILENT (values c.args.packet.now) (rules_of c.args.self.now) in
    let known = known_first g.K.Kind.COUNT g.K.Kind.SILENT (rules_of c.args.self.now) (values c.args.packet.now) g.met.K.Kind.bounds.of_kind c.args.self.now.of_kind in
    cc

use Rattle.std.proofs.Common.{◌≡◌}
use Rattle.packet.specs.Packets.{tops, values}
use Rattle.cases.specs.Words.{numbers}
use Rattle.cases.proofs.Fields.{filled}
use Rattle.cases.proofs.words.packet.Given as goal

abbrev pub invariant-fields : goal.invariant-fields
invariant-fields l = filled (values l.packet) l.field-iterator.a.rest.now l.field-iterator.b.rest.now ≡ numbers tops l.words

use Rattle.std.proofs.Common.{◌≡◌}
use Rattle.decision.specs.Kinds.{read_word}
use Rattle.decision.proofs.kind.Kind.read.Given as goal

abbrev pub invariant-loop-decision : goal.invariant-loop-decision
invariant-loop-decision g l = read_word g.Self.Kind.COUNT g.Self.Kind.SILENT g.Self.Kind.word l.text ≡ read_word l.decision g.Self.Kind.SILENT g.Self.Kind.word l.text

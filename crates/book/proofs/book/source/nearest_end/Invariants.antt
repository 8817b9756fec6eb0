use Rattle.std.proofs.Common.{◌≡◌, ◌≤◌, min, get_or, drop}
use Rattle.packet.specs.Packets.{values, tops, place}
use Rattle.book.specs.Reach.{nearest, looked_at}
use Rattle.book.proofs.book.source.nearest_end.Given as goal

abbrev pub invariant-loop-rule : goal.invariant-loop-rule
invariant-loop-rule l = record {
  most : l.end ≤ get_or tops (place l.fn.field) 0;
  rest : nearest (place l.fn.field) (values l.fn.packet) (looked_at (place l.fn.field) (values l.fn.packet) l.rules)
      ≡ min l.end (nearest (place l.fn.field) (values l.fn.packet) (looked_at (place l.fn.field) (values l.fn.packet) (drop l.rule-index l.rules)));
}

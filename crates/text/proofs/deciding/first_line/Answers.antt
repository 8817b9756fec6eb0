use Rattle.std.proofs.Common.{◌+◌, length, ap, ◌∙◌, subst, refl}
use Rattle.packet.specs.Packets.{values}
use Rattle.text.specs.Reads.{reads}
use Rattle.text.specs.Pieces.{left}
use Rattle.text.specs.DecidingLines.{first_line}
use Rattle.text.proofs.Found.{Cut, cut_bytes, cut_within, cut_more, line_here, line_later, line_none}
use Rattle.text.proofs.deciding.first_line.Goals as goal

pub returns-then-line_holds : goal.returns-then-line_holds
returns-then-line_holds g c =
    let read = reads g.K.Kind in
    let text = c.args.text.bytes in
    let line = c.in-Some.line.bytes in
    let start = c.loop-line.invariant.0 in
    let taken = c.in-Some.ensures.steps.0 in
    let cut = subst (Cut text.now start) taken.first c.loop-line.invariant.2 in
    let bytes = cut_bytes text.now start line.now (left c.next.new.self.pieces) cut in
    let lies = (taken.lies text start c.loop-line.invariant.1).0 in (
      record { start = start; line = line.now },
      c.loop-line.invariant.3 ∙ ap (first_line read (values c.args.packet) start) taken.first
          ∙ line_here read (values c.args.packet) start line.now (left c.next.new.self.pieces) c.if-line_holds.ensures,
      record { block = lies.0; offset = lies.1; bytes = refl; of_text = bytes; within = cut_within text.now start line.now (left c.next.new.self.pieces) cut },
    )

pub loop-line-preserved : goal.loop-line-preserved
loop-line-preserved g c =
    let read = reads g.K.Kind in
    let text = c.args.text.bytes in
    let line = c.in-Some.line.bytes in
    let start = c.loop-line.invariant.0 in
    let taken = c.in-Some.ensures.steps.0 in
    let cut = subst (Cut text.now start) taken.first c.loop-line.invariant.2 in (
      start + length line.now + 1,
      (taken.lies text start c.loop-line.invariant.1).1,
      cut_more text.now start line.now (left c.next.new.self.pieces) cut,
      c.loop-line.invariant.3 ∙ ap (first_line read (values c.args.packet) start) taken.first
          ∙ line_later read (values c.args.packet) start line.now (left c.next.new.self.pieces) c.if-line_holds.ensures,
    )

pub returns : goal.returns
returns g c =
    let read = reads g.K.Kind in
    let start = c.loop-line.invariant.0 in
    c.loop-line.invariant.3 ∙ ap (first_line read (values c.args.packet) start) c.in-None.ensures.steps.0 ∙ line_none read (values c.args.packet) start

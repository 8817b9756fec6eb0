use Rattle.std.proofs.Common.{sym, refl, ap, ◌∙◌}
use Rattle.std.proofs.lemmas.Result.{err_from_is_err_and}
use Rattle.text.specs.Reads.{reads}
use Rattle.text.specs.Lines.{line_of}
use Rattle.text.specs.Readings.{Reading, add_line}
use Rattle.text.proofs.Lined.{left_more, left_stop, left_end}
use Rattle.text.proofs.Found.{counted_taken, counted_stop}
use Rattle.text.proofs.deciding.check.Goals as goal

pub loop-line-preserved : goal.loop-line-preserved
loop-line-preserved g c =
    let read = reads g.K.Kind in
    let rules = c.loop-line.invariant.0 in
    let told = counted_taken c.in-Some.line.number rules c.loop-line.count c.loop-line.invariant.1 (line_of read c.in-Some.line.bytes.now) c.in_ok-count.count c.in_ok-count.ensures in (
      (add_line read c.in-Some.line.number c.in-Some.line.bytes.now rules).rules,
      told.1,
      c.loop-line.invariant.2 ∙ left_more read c.loop-line.line-iterator c.next.new.self c.in-Some.line rules _ c.in-Some.ensures.steps told.0 refl,
    )

pub returns-in_err-count : goal.returns-in_err-count
returns-in_err-count g c =
    let read = reads g.K.Kind in
    let rules = c.loop-line.invariant.0 in
    let told = counted_stop c.in-Some.line.number rules c.loop-line.count c.loop-line.invariant.1 (line_of read c.in-Some.line.bytes.now) c.in_err-count.field-0.0 c.in_err-count.ensures in
    let p = err_from_is_err_and c.from_residual.result c.from_residual.ensures.1 in
    let is = c.loop-line.invariant.2 ∙ left_stop read c.loop-line.line-iterator c.next.new.self c.in-Some.line rules _ c.in-Some.ensures.steps c.in_err-count.field-0.0 told refl in
    rw (p.1, p.2) (sym (ap (λ (s : Reading). s.answer) is))

pub returns : goal.returns
returns g c =
    let read = reads g.K.Kind in
    let is = c.loop-line.invariant.2 ∙ left_end read c.loop-line.line-iterator c.loop-line.invariant.0 c.in-None.ensures.steps.0 in
    sym (ap (λ (s : Reading). s.answer) is)

use Rattle.std.proofs.Common.{sym, ap, ◌∙◌}
use Rattle.std.proofs.lemmas.Result.{err_from_is_err_and}
use Rattle.text.specs.Readings.{Reading}
use Rattle.text.proofs.Lined.{left_more, left_stop, left_end}
use Rattle.text.proofs.reading.read.Goals as goal

pub loop-line-preserved : goal.loop-line-preserved
loop-line-preserved g c =
    let told = c.in_ok-add_line.ensures in
    c.loop-line.invariant ∙ left_more _ c.loop-line.line-iterator c.next.new.self c.in-Some.line _ _ c.in-Some.ensures.steps told.answer told.rules

pub returns-in_err-add_line : goal.returns-in_err-add_line
returns-in_err-add_line g c =
    let told = c.in_err-add_line.ensures in
    let p = err_from_is_err_and c.from_residual-in_err-add_line.result c.from_residual-in_err-add_line.ensures.1 in
    let is = c.loop-line.invariant ∙ left_stop _ c.loop-line.line-iterator c.next.new.self c.in-Some.line _ _ c.in-Some.ensures.steps _ told.answer told.rules in
    record { answer = rw (p.1, p.2) (sym (ap (λ (s : Reading). s.answer) is)); rules = sym (ap (λ (s : Reading). s.rules) is) }

pub returns : goal.returns
returns g c =
    let is = c.loop-line.invariant ∙ left_end _ c.loop-line.line-iterator _ c.in-None.ensures.steps.0 in
    record { answer = sym (ap (λ (s : Reading). s.answer) is); rules = sym (ap (λ (s : Reading). s.rules) is) }

use Rattle.std.proofs.Common.{◌+◌, ◌-◌, ◌*◌, ◌^◌, ◌<◌, sym, ap, ◌∙◌, arith}
use Rattle.text.specs.Numbers.{bytes_from, address_of}
use Rattle.text.proofs.Values.{bytes_few, bytes_more, bytes_stop, bytes_end, bytes_many, number_top, room}
use Rattle.text.proofs.numbers.address.Goals as goal

pub loop-init : goal.loop-init
unfolding address_of
loop-init c = (omega arith, ap (bytes_from 4 0) (sym c.new-parts.ensures.pieces))

pub overflow_mul-value : goal.overflow_mul-value
overflow_mul-value c = omega (arith, (room c.loop.counter c.loop.value 0 c.loop-test.true c.loop.invariant.0 (omega arith)).1)

pub returns-in_err-next : goal.returns-in_err-next
returns-in_err-next c =
    rw c.from_residual.ensures
    (sym (c.loop.invariant.1 ∙ ap (bytes_from (4 - c.loop.counter) c.loop.value) c.in_err-next.ensures.steps.0 ∙ bytes_few _ _ c.loop-test.true))

pub returns-in_err-value : goal.returns-in_err-value
returns-in_err-value c =
    rw c.from_residual-in_err-value.ensures
    (sym (c.loop.invariant.1 ∙ ap (bytes_from (4 - c.loop.counter) c.loop.value) c.in_ok-next.ensures.steps.first
    ∙ bytes_stop _ _ c.loop-test.true _ _ c.in_err-value.ensures))

roomy : (c : goal.In_ok-value) → (c.loop.value * 256 + c.in_ok-value.field-0 < 256 ^ (c.loop.counter + 1)) × (c.loop.value * 256 + c.in_ok-value.field-0 < 2 ^ 32)
roomy c =
    room c.loop.counter c.loop.value c.in_ok-value.field-0 c.loop-test.true c.loop.invariant.0
    (number_top 255 c.in_ok-value.field-0 c.in_ok-next.field-0.now c.in_ok-value.ensures)

pub overflow_add-value : goal.overflow_add-value
overflow_add-value c = omega (arith, (roomy c).1)

pub loop-preserved : goal.loop-preserved
loop-preserved c = (
  (roomy c).0,
  c.loop.invariant.1 ∙ ap (bytes_from (4 - c.loop.counter) c.loop.value) c.in_ok-next.ensures.steps.first
      ∙ bytes_more _ _ c.loop-test.true _ _ _ c.in_ok-value.ensures,
)

pub returns-in-None : goal.returns-in-None
returns-in-None c =
    sym (c.loop.invariant.1 ∙ ap (bytes_from (4 - c.loop.counter) c.loop.value) c.in-None.ensures.steps.0 ∙ bytes_end _ _ c.loop-test.false)

pub returns-in-Some : goal.returns-in-Some
returns-in-Some c =
    sym (c.loop.invariant.1 ∙ ap (bytes_from (4 - c.loop.counter) c.loop.value) c.in-Some.ensures.steps.first ∙ bytes_many _ _ c.loop-test.false _ _)

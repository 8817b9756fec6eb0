use Rattle.std.proofs.Common.{◌+◌, ◌*◌, sym, ap, ◌∙◌, arith}
use Rattle.std.proofs.lemmas.Bool.{le-leb, cond-true}
use Rattle.text.specs.Numbers.{at_most}
use Rattle.text.proofs.Values.{number_plain, number_not_plain, value_large, value_more, value_stop, value_end}
use Rattle.text.proofs.numbers.number.Goals as goal

pub returns-then-not-is_plain : goal.returns-then-not-is_plain
returns-then-not-is_plain c = sym (number_not_plain _ _ c.if-not-is_plain.ensures)

pub loop-byte-init : goal.loop-byte-init
loop-byte-init c = (omega arith, number_plain _ _ c.if-not-is_plain.ensures)

pub returns-in_err-digit : goal.returns-in_err-digit
returns-in_err-digit c = rw c.from_residual.ensures (sym (c.loop-byte.invariant.1 ∙ ap (at_most c.args.top) (value_stop _ _ _ c.loop-byte-test.true c.in_err-digit.ensures)))

pub returns-then-wide-from : goal.returns-then-wide-from
returns-then-wide-from c =
    let more = value_more c.loop-byte.value c.args.word.now c.loop-byte.byte-index c.in_ok-digit.field-0 c.loop-byte-test.true c.in_ok-digit.ensures in
    sym (c.loop-byte.invariant.1 ∙ ap (at_most c.args.top) more ∙ value_large c.args.top (c.loop-byte.value * 10 + c.in_ok-digit.field-0) _ (omega arith))

pub loop-byte-preserved : goal.loop-byte-preserved
loop-byte-preserved c =
    let more = value_more c.loop-byte.value c.args.word.now c.loop-byte.byte-index c.in_ok-digit.field-0 c.loop-byte-test.true c.in_ok-digit.ensures in
    (omega arith, cc)

pub returns : goal.returns
returns c = sym (c.loop-byte.invariant.1 ∙ ap (at_most c.args.top) (value_end _ _ _ c.loop-byte-test.false) ∙ cond-true _ _ _ (le-leb _ _ c.loop-byte.invariant.0))

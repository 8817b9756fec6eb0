use Rattle.text.proofs.Appends.{appended_as, appended_joined, appended_break, byte_last, byte_more}
use Rattle.text.proofs.print.+push_bytes.Goals as goal

pub returns-then-more-eq0 : goal.returns-then-more-eq0
returns-then-more-eq0 t c = appended_as c.push_number.result _ _ _ _ (byte_last c.args.more c.args.number c.if-more-eq0.true) c.push_number.ensures

pub returns-in_err-push_letter : goal.returns-in_err-push_letter
returns-in_err-push_letter t c =
    appended_break c.from_residual-in_err-push_letter.result _ _ _ _ _ c.from_residual-in_err-push_letter.ensures.0 c.in_ok-push_bytes.ensures c.in_err-push_letter.ensures

pub returns : goal.returns
returns t c =
    appended_joined c.push_number-2.result _ _ _ 46 _ _ _ _ c.in_ok-push_bytes.ensures c.in_ok-push_letter.ensures
    (byte_more c.args.more c.args.number c.if-more-eq0.false) c.push_number-2.ensures

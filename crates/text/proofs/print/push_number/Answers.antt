use Rattle.std.proofs.lemmas.Fmt.{decimal_digit}
use Rattle.text.proofs.Appends.{appended_as}
use Rattle.text.proofs.print.push_number.Goals as goal

pub returns-then-number-lt10 : goal.returns-then-number-lt10
returns-then-number-lt10 c = appended_as c.push_letter.result _ _ _ _ (decimal_digit c.args.number c.if-number-lt10.true) c.push_letter.ensures

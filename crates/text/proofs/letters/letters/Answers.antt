use Rattle.std.proofs.Common.{sym, rules}
use Rattle.text.proofs.Lettered.{letter_at}
use Rattle.text.proofs.letters.letters.Goals as goal

pub returns-in-Some : goal.returns-in-Some
returns-in-Some c = sym (letter_at c.args.line.now c.in-Some.index (search rules) (search rules) (search rules))

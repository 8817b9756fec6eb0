use Rattle.std.proofs.Common.{◌≡◌, ◌+◌, ◌-◌, length}
use Rattle.text.specs.Pieces.{left}
use Rattle.text.specs.Words.{words_of, words_from}
use Rattle.text.proofs.words.six_words.Given as goal

abbrev pub invariant-loop : goal.invariant-loop
invariant-loop l = words_of l.line.bytes.now ≡ words_from (length l.line.bytes.now + 1) (6 - l.counter) l.words.column (left l.words.words)

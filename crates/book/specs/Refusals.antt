-- The numbers of a book's refusals. Cited by src/refusal.rt. Assumes nothing.
use Rattle.std.specs.Prelude.{ℕ}
use Rattle.book.specs.declared.refusal.Refusal.{Refusal}
use Rattle.book.specs.declared.refusal.Refusal.TheVariants.{Full, NoSuchPosition, ReversedRange, NotADecision}

-- 1 full, 2 no such position, 3 a reversed range, 4 no decision
abbrev pub refusal_number : Refusal → ℕ
refusal_number Full = 1
refusal_number NoSuchPosition = 2
refusal_number ReversedRange = 3
refusal_number NotADecision = 4

-- The number that a C program is answered. Cited by src/lib.rt. Assumes nothing.
use Rattle.std.specs.Prelude.{ℕ, ◌+◌, List, Ok, Err, Result}
use Rattle.damage.specs.declared.damage.Damage.{Damage}
use Rattle.damage.specs.Refusals.{damage_number}
use Rattle.opening.specs.Answers.{decided_on}

-- a decision as it is, a damage as 100 plus its number
abbrev pub told : Result ℕ Damage → ℕ
told (Ok decision) = decision
told (Err damage) = 100 + damage_number damage

-- the answer for packed bytes and a packet's values, with the kind of verdicts: number 1, three decisions
abbrev pub answer : List ℕ → List ℕ → ℕ
answer bytes p = told (decided_on 1 3 bytes p)

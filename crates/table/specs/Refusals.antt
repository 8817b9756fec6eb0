-- The refusals of packing. Cited by src/refusal.rt and src/rows.rt. Assumes nothing.
use Rattle.std.specs.Prelude.{ℕ, ◌<◌, Some, None, Option}
use Rattle.table.specs.declared.refusal.PackRefusal.{PackRefusal}
use Rattle.table.specs.declared.refusal.PackRefusal.TheVariants.{TooLarge, Memory}
use Rattle.table.specs.Rows.{most_rows}

-- the number of each refusal; want of memory has none
abbrev pub refusal_number : PackRefusal → Option ℕ
refusal_number TooLarge = Some 5
refusal_number Memory = None

-- what each refusal says of a table of n rows; want of memory says nothing
abbrev pub Refuses : PackRefusal → ℕ → Type 0
Refuses TooLarge n = most_rows < n
Refuses Memory n = Unit {0}

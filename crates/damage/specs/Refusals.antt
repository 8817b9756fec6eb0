-- The numbers and places of damage to packed bytes, and of refusals to open them, and how both are printed. Cited by src/damage.rt and
-- src/refusal.rt. Assumes nothing.
use Rattle.std.specs.Prelude.{ℕ, List, ◌++◌, codes, decimal, Some, None, Option}
use Rattle.damage.specs.declared.damage.Damage.{Damage}
use Rattle.damage.specs.declared.damage.Damage.TheVariants.{Length, Check, Frame, Foreign, NotNested, NotReduced}
use Rattle.damage.specs.declared.refusal.OpenRefusal.{OpenRefusal}
use Rattle.damage.specs.declared.refusal.OpenRefusal.TheVariants.{Damaged, Memory}

-- the number of each damage
abbrev pub damage_number : Damage → ℕ
damage_number Length = 11
damage_number (Check block) = 12
damage_number (Frame block) = 13
damage_number (Foreign row) = 14
damage_number (NotNested row) = 15
damage_number (NotReduced row) = 16

-- its place
abbrev pub damage_place : Damage → ℕ
damage_place Length = 0
damage_place (Check block) = block
damage_place (Frame block) = block
damage_place (Foreign row) = row
damage_place (NotNested row) = row
damage_place (NotReduced row) = row

-- how it is printed: its number and its place
abbrev pub damage_text : Damage → List ℕ
damage_text damage = codes "refused " ++ decimal (damage_number damage) ++ codes " place " ++ decimal (damage_place damage)

-- the number and the place of each refusal to open; want of memory has neither
abbrev pub refusal_number : OpenRefusal → Option ℕ
refusal_number (Damaged damage) = Some (damage_number damage)
refusal_number Memory = None

abbrev pub refusal_place : OpenRefusal → Option ℕ
refusal_place (Damaged damage) = Some (damage_place damage)
refusal_place Memory = None

-- how it is printed: damage by its number and its place, want of memory by words
abbrev pub refusal_text : OpenRefusal → List ℕ
refusal_text (Damaged damage) = damage_text damage
refusal_text Memory = codes "memory allocation failed"

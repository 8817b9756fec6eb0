-- The answers to packed bytes. Cited by src/inspection.rt and the files that it calls. Assumes nothing.
use Rattle.std.specs.Prelude.{ℕ, List, Some, None, Ok, Err, Option, Result}
use Rattle.theory.specs.Tables.{lookup}
use Rattle.blocks.specs.Reading.{row_count, rows_in}
use Rattle.damage.specs.declared.damage.Damage.{Damage}
use Rattle.opening.specs.Damages.{damage_of}

-- the value, unless there is damage
abbrev pub unless : {T : Type 0} → Option Damage → T → Result T Damage
unless None x = Ok x
unless (Some damage) x = Err damage

-- what looking the bytes over answers: the count of rows, or the first damage
abbrev pub inspected : ℕ → ℕ → List ℕ → Result ℕ Damage
inspected label size bytes = unless (damage_of label size bytes) (row_count bytes)

-- what deciding a packet on the bytes answers: the decision of the row that holds it, or the first damage
abbrev pub decided_on : ℕ → ℕ → List ℕ → List ℕ → Result ℕ Damage
decided_on label size bytes p = unless (damage_of label size bytes) (lookup (rows_in bytes) p)

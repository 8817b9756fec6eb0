-- One step of reading after another, as `?` takes them. Cited by the other files here. Assumes nothing.
use Rattle.std.specs.Prelude.{Ok, Err, Result}

-- goes on with what was read; the first fault ends the reading
abbrev pub then : {A B E : Type 0} → Result A E → (A → Result B E) → Result B E
then (Ok x) next = next x
then (Err fault) next = Err fault

-- a fault of one layer carried whole by the next
abbrev pub carried : {A E F : Type 0} → (E → F) → Result A E → Result A F
carried up (Ok x) = Ok x
carried up (Err fault) = Err (up fault)

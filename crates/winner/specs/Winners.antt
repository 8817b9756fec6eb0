-- Which line of two texts wins, and what it decides. Cited by src/winning.rt. Assumes nothing.
use Rattle.std.specs.Prelude.{◌≡◌, ℕ, true, List, is_ok, Some, None, Ok, Err, Option, Result}
use Rattle.std.specs.Borrow.{Bor}
use Rattle.policy.specs.Layers.{over}
use Rattle.book.specs.Deciding.{meant}
use Rattle.text.specs.declared.faults.ReadFault.{ReadFault}
use Rattle.text.specs.Readings.{read_of}
use Rattle.text.specs.DecidingLines.{Place, Lies, Says}
use Rattle.winner.specs.declared.winning.Of.{Of}
use Rattle.winner.specs.declared.winning.Of.TheVariants.{First, Second}

-- the answer, if `place` gives the deciding line of a text: a fault of the first text, then one of the second, then the line of the
-- first, then that of the second
abbrev pub Wins : Result (Option (Of (Bor (List ℕ)))) (Of ReadFault) → Bor (List ℕ) → Bor (List ℕ) → (List ℕ → Result (Option Place) ReadFault) → Type 0
Wins (Err (First fault)) first second place = place first.now ≡ Err fault
Wins (Err (Second fault)) first second place = (is_ok (place first.now) ≡ true) × (place second.now ≡ Err fault)
Wins (Ok (Some (First line))) first second place = (is_ok (place second.now) ≡ true) × (at : Place) × (place first.now ≡ Ok (Some at)) × Lies line first at
Wins (Ok (Some (Second line))) first second place = (place first.now ≡ Ok None) × (at : Place) × (place second.now ≡ Ok (Some at)) × Lies line second at
Wins (Ok None) first second place = (place first.now ≡ Ok None) × (place second.now ≡ Ok None)

-- what the rules of a text decide
abbrev pub decided : ℕ → ℕ → (List ℕ → Option ℕ) → List ℕ → List ℕ → ℕ
decided count silent read p text = meant count silent (read_of read text).rules p

-- the line says the first of its text's rules that holds the packet, and its decision is that of the first text over the second;
-- where there is none, both are silent
abbrev pub Settles : ℕ → ℕ → (List ℕ → Option ℕ) → List ℕ → List ℕ → List ℕ → Result (Option (Of (Bor (List ℕ)))) (Of ReadFault) → Type 0
Settles count silent read p first second (Err fault) = Unit {0}
Settles count silent read p first second (Ok (Some (First line))) =
    (says : Says count silent read p (read_of read first).rules line.now)
    × (over silent (decided count silent read p first) (decided count silent read p second) ≡ says.rule.decision)
Settles count silent read p first second (Ok (Some (Second line))) =
    (decided count silent read p first ≡ silent) × (says : Says count silent read p (read_of read second).rules line.now)
    × (over silent (decided count silent read p first) (decided count silent read p second) ≡ says.rule.decision)
Settles count silent read p first second (Ok None) = (decided count silent read p first ≡ silent) × (decided count silent read p second ≡ silent)

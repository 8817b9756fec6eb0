-- What a line says. Cited by src/line.rt. Assumes nothing.
use Rattle.std.specs.Prelude.{ℕ, ◌+◌, Bool, true, cond, List, [], ◌∷◌, length, Some, None, Ok, Err, Option, Result, ◌==◌}
use Rattle.book.specs.declared.rule.Rule.{Rule}
use Rattle.text.specs.declared.faults.LineFault.{LineFault}
use Rattle.text.specs.declared.faults.LineFault.TheVariants.{Letter, Words, Decision}
use Rattle.text.specs.Pieces.{pieces}
use Rattle.text.specs.Letters.{letters_of}
use Rattle.text.specs.Words.{words_of}
use Rattle.text.specs.Steps.{then, carried}
use Rattle.text.specs.Fields.{region_from}

-- is the line empty, or does it begin with `#`?
abbrev pub skipped : List ℕ → Bool
skipped [] = true
skipped (b ∷ bs) = b == 35

-- the decision that the first word of a line is read as
abbrev pub decision_of : Option ℕ → Result ℕ LineFault
decision_of None = Err Decision
decision_of (Some decision) = Ok decision

-- the rule that words write: a decision, and a region that begins a space behind it
abbrev pub rule_of : (List ℕ → Option ℕ) → List (List ℕ) → Result Rule LineFault
rule_of read [] = Err (Words 1)
rule_of read (w ∷ ws) =
    then (decision_of (read w)) (λ decision.
    then (region_from (1 + length w + 1) ws) (λ region.
    Ok (record { region = region; decision = decision })))

-- a line's rule, if it has one, or its first fault: letters come first, then the count of words, then word by word
abbrev pub line_of : (List ℕ → Option ℕ) → List ℕ → Result (Option Rule) LineFault
line_of read line =
    then (carried Letter (letters_of line)) (λ _.
    cond (skipped line) (Ok None)
    (then (words_of line) (λ _.
    then (rule_of read (pieces 32 line)) (λ rule.
    Ok (Some rule)))))

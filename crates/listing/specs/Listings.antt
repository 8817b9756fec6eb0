-- Rules as text, and the law that such a text reads back. Cited by src/listing.rt. Assumes nothing.
use Rattle.std.specs.Prelude.{◌≡◌, ℕ, List, [], ◌∷◌, ◌++◌, Ok, codes}
use Rattle.packet.specs.Regions.{ranges}
use Rattle.decision.specs.Kinds.{read_word}
use Rattle.book.specs.declared.rule.Rule.{Rule}
use Rattle.text.specs.Printing.{line_text}
use Rattle.text.specs.Readings.{ended, read_of}

-- the line of each rule, in order, each ended by a line feed
abbrev pub rules_text : (ℕ → List ℕ) → List Rule → List ℕ
rules_text spelling [] = []
rules_text spelling (rule ∷ rules) = line_text spelling rule.decision (ranges rule.region) ++ (codes "\n" ++ rules_text spelling rules)

-- reading the text takes it whole and gives these rules
abbrev pub ReadsBack : ℕ → ℕ → (ℕ → List ℕ) → List Rule → List ℕ → Type 0
ReadsBack count silent spelling rules text = read_of (read_word count silent spelling) text ≡ ended (Ok tt) rules

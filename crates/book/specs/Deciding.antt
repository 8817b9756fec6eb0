-- What a list of rules decides. Cited by src/book/source.rt. Assumes nothing.
use Rattle.std.specs.Prelude.{ℕ, cond, List, [], ◌∷◌}
use Rattle.decision.specs.Kinds.{known}
use Rattle.packet.specs.Regions.{ranges, holds}
use Rattle.book.specs.declared.rule.Rule.{Rule}

-- the decision of the first rule that holds the packet; if none does, the silent one
unfoldable pub first : ℕ → List Rule → List ℕ → ℕ
first silent [] p = silent
first silent (rule ∷ rules) p = cond (holds (ranges rule.region) p) rule.decision (first silent rules p)

-- what a book decides; a number that is no decision of the kind counts as the silent one
abbrev pub meant : ℕ → ℕ → List Rule → List ℕ → ℕ
meant count silent rules p = known count silent (first silent rules p)

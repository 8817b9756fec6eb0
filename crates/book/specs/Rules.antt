-- What holds of the rules of a book. Cited by src/book.rt. Assumes nothing.
use Rattle.std.specs.Prelude.{◌≡◌, ℕ, true, false, All, List}
use Rattle.packet.specs.Regions.{ranges, any_reversed}
use Rattle.book.specs.PlainList.{speaks}
use Rattle.book.specs.declared.rule.Rule.{Rule}

-- no range of the rule is reversed
abbrev pub Forward : Rule → Type 0
Forward rule = any_reversed (ranges rule.region) ≡ false

-- no range of any of the rules is reversed
abbrev pub AllForward : List Rule → Type 0
AllForward rules = All Forward rules

-- the rule's decision is one of the kind, and not the silent one
abbrev pub Speaks : ℕ → ℕ → Rule → Type 0
Speaks count silent rule = speaks count silent rule.decision ≡ true

-- so are the decisions of all the rules
abbrev pub AllSpeak : ℕ → ℕ → List Rule → Type 0
AllSpeak count silent rules = All (Speaks count silent) rules

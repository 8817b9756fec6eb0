-- The pairs of rules that hide each other, in order. Cited by src/finding.rt and src/listing.rt. Assumes nothing.
use Rattle.std.specs.Prelude.{◌≡◌, ℕ, suc, ◌<◌, Bool, cond, not, ◌&&◌, ◌≢◌, List, [], ◌∷◌, ◌++◌, length, drop, Some, None, Ok, Err, Option, Result, ◌==◌, nat_lt}
use Rattle.std.specs.List.{AllByRecursion}
use Rattle.packet.specs.Regions.{ranges}
use Rattle.book.specs.declared.rule.Rule.{Rule}
use Rattle.findings.specs.declared.finding.Hiding.{Hiding}
use Rattle.findings.specs.declared.finding.Hiding.TheVariants.{Redundant, Shadowed, Generalised, Correlated}
use Rattle.findings.specs.declared.finding.Finding.{Finding}
use Rattle.findings.specs.declared.finding.TooShort.{TooShort}
use Rattle.findings.specs.Overlaps.{Covers, Shares, covers_ranges, shares_ranges}

-- each finding by its number
abbrev pub hiding_number : Hiding → ℕ
hiding_number Redundant = 1
hiding_number Shadowed = 2
hiding_number Generalised = 3
hiding_number Correlated = 4

-- a finding applies to a rule a and a later rule b
abbrev pub Applies : Hiding → Rule → Rule → Type 0
Applies Redundant a b = Covers (ranges a.region) (ranges b.region) × (a.decision ≡ b.decision)
Applies Shadowed a b = Covers (ranges a.region) (ranges b.region)
Applies Generalised a b = Covers (ranges b.region) (ranges a.region) × (a.decision ≢ b.decision)
Applies Correlated a b = Shares (ranges a.region) (ranges b.region) × (a.decision ≢ b.decision)

-- the first finding that applies, or none if none does
abbrev pub First : Option Hiding → Rule → Rule → Type 0
First (Some h) a b = Applies h a b × ((g : Hiding) → hiding_number g < hiding_number h → Applies g a b → ⊥)
First None a b = (g : Hiding) → Applies g a b → ⊥

-- does a's region cover b's, by the test on ranges?
abbrev pub covers : Rule → Rule → Bool
covers a b = covers_ranges (ranges a.region) (ranges b.region)

-- do a's and b's regions share a packet, by the test on ranges?
abbrev pub shares : Rule → Rule → Bool
shares a b = shares_ranges (ranges a.region) (ranges b.region)

-- are the decisions of a and b equal?
abbrev pub agree : Rule → Rule → Bool
agree a b = a.decision == b.decision

-- the first finding that applies to a rule and a later one, by these tests
abbrev pub hiding_of : Rule → Rule → Option Hiding
hiding_of a b =
    cond (agree a b && covers a b) (Some Redundant)
    (cond (covers a b) (Some Shadowed)
    (cond (not (agree a b) && covers b a) (Some Generalised)
    (cond (not (agree a b) && shares a b) (Some Correlated) None)))

-- what is found of rule i and rule j
abbrev pub found : ℕ → ℕ → Option Hiding → List Finding
found i j None = []
found i j (Some h) = record { first = i; second = j; hiding = h } ∷ []

-- what is found of rule i, here a, and the rules from j on
unfoldable pub with_later : ℕ → Rule → ℕ → List Rule → List Finding
with_later i a j [] = []
with_later i a j (b ∷ rules) = found i j (hiding_of a b) ++ with_later i a (suc j) rules

-- what is found of the rules from i on, each with those behind it
unfoldable pub from_rule : ℕ → List Rule → List Finding
from_rule i [] = []
from_rule i (a ∷ rules) = with_later i a (suc i) rules ++ from_rule (suc i) rules

-- all findings, by the first rule and then by the second
abbrev pub findings_of : List Rule → List Finding
findings_of rules = from_rule 0 rules

-- of a rule and each of some later ones the tests find the first that applies
abbrev pub FaithfulWith : Rule → List Rule → Type 0
FaithfulWith a rules = AllByRecursion (λ b. First (hiding_of a b) a b) rules

-- of each rule and each rule behind it the tests find the first that applies
abbrev pub Faithful : List Rule → Type 0
Faithful [] = Unit {0}
Faithful (a ∷ rules) = FaithfulWith a rules × Faithful rules

-- the answer: how many findings there are, unless they are more than the entries
abbrev pub count_of : List Finding → ℕ → Result ℕ TooShort
count_of list room = cond (nat_lt room (length list)) (Err (record {})) (Ok (length list))

-- the entries afterwards: the findings and then the entries that stay, or all as they were if the findings are more than the entries
abbrev pub entries_after : List Finding → List Finding → List Finding
entries_after list entries = cond (nat_lt (length entries) (length list)) entries (list ++ drop (length list) entries)

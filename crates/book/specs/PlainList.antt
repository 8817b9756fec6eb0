-- The plain list: a list of rules with four operations, each of which gives an answer and the rules afterwards. Cited by
-- src/book/edits.rt, whose calls answer and leave the same. Assumes nothing.
--
-- An operation's checks are read from the top: `cond test this that` is this where the test holds, else that. The tests `nat_le`
-- and `nat_lt` say at most and below. Positions count from 0. A kind is given by its count of decisions and its silent decision.
use Rattle.std.specs.Prelude.{ℕ, suc, Bool, cond, not, ◌&&◌, ◌||◌, List, ◌∷◌, ◌++◌, length, take, drop, Ok, Err, Result, ◌==◌, nat_le, nat_lt, slice_index_or, slice_set}
use Rattle.packet.specs.declared.range.Range.{Range}
use Rattle.packet.specs.Regions.{ranges, any_reversed}
use Rattle.book.specs.declared.rule.Rule.{Rule}
use Rattle.book.specs.declared.refusal.Refusal.{Refusal}
use Rattle.book.specs.declared.refusal.Refusal.TheVariants.{Full, NoSuchPosition, ReversedRange, NotADecision}

-- what an operation gives: its answer, and the rules afterwards
pub record Step (A : Type 0) : Type 0 where
  pub answer : Result A Refusal
  pub rules : List Rule

-- an operation that is taken answers x and leaves new rules
abbrev pub taken : {A : Type 0} → A → List Rule → Step A
taken x rules = record { answer = Ok x; rules = rules }

-- an operation that is refused answers why and leaves the rules as they are
abbrev pub refused : {A : Type 0} → Refusal → List Rule → Step A
refused why rules = record { answer = Err why; rules = rules }

-- is d a decision of the kind, and not the silent one?
abbrev pub speaks : ℕ → ℕ → ℕ → Bool
speaks count silent d = nat_lt d count && not (d == silent)

-- the list with a rule put behind its first n
abbrev pub with_rule : List Rule → ℕ → Rule → List Rule
with_rule rules n rule = take n rules ++ (rule ∷ drop n rules)

-- the list without the rule at a position
abbrev pub without : List Rule → ℕ → List Rule
without rules at = take at rules ++ drop (suc at) rules

-- a range that is never looked at
abbrev nowhere : Range ℕ
nowhere = record { low = 0; high = 0 }

-- the rule at a position; past the last rule, where no operation looks, any rule will do
abbrev pub rule_at : List Rule → ℕ → Rule
rule_at rules at = slice_index_or rules at (record {
  region = record { source = nowhere; source_port = nowhere; destination = nowhere; destination_port = nowhere; protocol = nowhere };
  decision = 0;
})

-- a rule with another decision
abbrev pub decided : Rule → ℕ → Rule
decided rule d = record { region = rule.region; decision = d }

-- add puts a rule behind the first `at`
abbrev pub add : ℕ → ℕ → List Rule → ℕ → Rule → Step (Unit {0})
add count silent rules at rule =
    cond (nat_le 64 (length rules)) (refused Full rules)
    (cond (nat_lt (length rules) at) (refused NoSuchPosition rules)
    (cond (any_reversed (ranges rule.region)) (refused ReversedRange rules)
    (cond (not (speaks count silent rule.decision)) (refused NotADecision rules)
    (taken tt (with_rule rules at rule)))))

-- drop takes the rule at a position out and answers it
abbrev pub drop_rule : List Rule → ℕ → Step Rule
drop_rule rules at =
    cond (nat_le (length rules) at) (refused NoSuchPosition rules)
    (taken (rule_at rules at) (without rules at))

-- shift takes the rule at `from` out and puts it behind the first `to` of those left
abbrev pub shift : List Rule → ℕ → ℕ → Step (Unit {0})
shift rules from to =
    cond (nat_le (length rules) from || nat_le (length rules) to) (refused NoSuchPosition rules)
    (taken tt (with_rule (without rules from) to (rule_at rules from)))

-- recast changes only the decision of the rule at a position
abbrev pub recast : ℕ → ℕ → List Rule → ℕ → ℕ → Step (Unit {0})
recast count silent rules at d =
    cond (nat_le (length rules) at) (refused NoSuchPosition rules)
    (cond (not (speaks count silent d)) (refused NotADecision rules)
    (taken tt (slice_set rules at (decided (rule_at rules at) d))))

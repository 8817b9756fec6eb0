-- What the tests find is the first that applies: pair by pair. Assumes nothing.
use Rattle.std.proofs.Common.{◌≡◌, ℕ, ◌+◌, ◌<◌, ◌≤◌, List, length, get_or, drop, Option, sym, subst}
use Rattle.std.proofs.lemmas.List.{drop_more, drop_all}
use Rattle.book.specs.declared.rule.Rule.{Rule}
use Rattle.findings.specs.declared.finding.Hiding.{Hiding}
use Rattle.findings.specs.Hidings.{hiding_of, First, FaithfulWith, Faithful}

-- a rule and those from another on: that one, and then the next
pub later_told : (a : Rule) (rules : List Rule) (second : ℕ) (d : Rule) (h : Option Hiding) → second < length rules → h ≡ hiding_of a (get_or rules second d) → First h a (get_or rules second d) → FaithfulWith a (drop (second + 1) rules) → FaithfulWith a (drop second rules)
later_told a rules second d h l e t rest =
    subst (FaithfulWith a) (sym (drop_more rules second d l)) (subst (λ o. First o a (get_or rules second d)) e t, rest)

pub later_told_end : (a : Rule) (rules : List Rule) (second : ℕ) → length rules ≤ second → FaithfulWith a (drop second rules)
later_told_end a rules second l = subst (FaithfulWith a) (sym (drop_all second rules l)) tt

-- the rules from one on: that one with those behind it, and then the next
pub rule_told : (rules : List Rule) (first : ℕ) (d : Rule) → first < length rules → FaithfulWith (get_or rules first d) (drop (first + 1) rules) → Faithful (drop (first + 1) rules) → Faithful (drop first rules)
rule_told rules first d l these rest = subst Faithful (sym (drop_more rules first d l)) (these, rest)

pub rule_told_end : (rules : List Rule) (first : ℕ) → length rules ≤ first → Faithful (drop first rules)
rule_told_end rules first l = subst Faithful (sym (drop_all first rules l)) tt

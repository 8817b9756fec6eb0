-- Findings written one by one. Assumes nothing.
use Rattle.std.proofs.Common.{◌≡◌, ℕ, suc, ◌+◌, ◌*◌, ◌<◌, ◌≤◌, List, [], ◌∷◌, ◌++◌, length, get_or, drop, set, Some, None, Option, sym, ap, ◌∙◌, ap₂, zero-add, add-one, arith, length-append}
use lib.Seq.{sets, sets-eq}
use Rattle.std.proofs.lemmas.List.{append_assoc, drop_more, drop_all}
use Rattle.book.specs.declared.rule.Rule.{Rule}
use Rattle.findings.specs.declared.finding.Hiding.{Hiding}
use Rattle.findings.specs.declared.finding.Finding.{Finding}
use Rattle.findings.specs.Hidings.{hiding_of, found, with_later, from_rule}

-- writing the rest to the entries from count on ends as writing all to the entries at the start from a place on
pub record Leads (start : List Finding) (place : ℕ) (all entries : List Finding) (count : ℕ) (rest : List Finding) : Type 0 where
  pub written : sets entries count rest ≡ sets start place all
  pub counted : count + length rest ≡ place + length all

module _ {start : List Finding} {place : ℕ} {all : List Finding} {entries : List Finding} {count : ℕ} where
  pub leads_same : {xs ys : List Finding} → xs ≡ ys → Leads start place all entries count xs → Leads start place all entries count ys
  leads_same e h = record { written = ap (sets entries count) (sym e) ∙ h.written; counted = ap (λ l. count + length l) (sym e) ∙ h.counted }

  pub leads_at : {entries' : List Finding} {count' : ℕ} {xs : List Finding} → entries' ≡ entries → count' ≡ count → Leads start place all entries count xs → Leads start place all entries' count' xs
  leads_at {xs} e n h = record { written = ap₂ (λ l m. sets l m xs) e n ∙ h.written; counted = ap (λ m. m + length xs) n ∙ h.counted }

  -- one more finding is written, or only counted where the entries end
  pub leads_more : {entries' : List Finding} {count' : ℕ} {x : Finding} {xs : List Finding} → entries' ≡ set entries count x → count' ≡ count + 1 → Leads start place all entries count (x ∷ xs) → Leads start place all entries' count' xs
  leads_more {count'} {xs} e n h = record { written = ap₂ (λ l m. sets l m xs) e (n ∙ add-one count) ∙ h.written; counted = omega (arith, h.counted) }

  -- a stretch of the way on from where another ended
  pub leads_on : {entries' : List Finding} {count' : ℕ} {xs ys : List Finding} → Leads start place all entries count xs → Leads entries count xs entries' count' ys → Leads start place all entries' count' ys
  leads_on h k = record { written = k.written ∙ h.written; counted = k.counted ∙ h.counted }

-- what all findings make of the entries if there are not more of them
pub written_over : (all entries : List Finding) → length all ≤ length entries → sets entries 0 all ≡ all ++ drop (length all) entries
written_over all entries h = sets-eq all entries 0 (omega arith) ∙ ap (λ n. all ++ drop n entries) (zero-add (length all))

found_few : (i j : ℕ) (h : Option Hiding) → length (found i j h) ≤ 1
found_few i j None = omega arith
found_few i j (Some h) = omega arith

later_few : (i : ℕ) (a : Rule) (j : ℕ) (rules : List Rule) → length (with_later i a j rules) ≤ length rules
unfolding with_later
later_few i a j [] = omega arith
later_few i a j (b ∷ rules) = simp length-append (omega (arith, found_few i j (hiding_of a b), later_few i a (suc j) rules))

-- 64 rules have not too many findings to count
pub few : (i : ℕ) (rules : List Rule) → length rules ≤ 64 → length (from_rule i rules) ≤ 64 * length rules
unfolding from_rule
few i [] h = omega arith
few i (a ∷ rules) h = simp length-append (omega (arith, later_few i a (suc i) rules, few (suc i) rules (omega arith)))

-- the rules from one on: that one with those behind it, and then these
pub rule_more : (rules later : List Rule) (first : ℕ) (d : Rule) → later ≡ drop (first + 1) rules → first < length rules
    → from_rule first (drop first rules) ≡ with_later first (get_or rules first d) (first + 1) later ++ from_rule (first + 1) later
unfolding from_rule
rule_more rules later first d e h =
    ap (from_rule first) (drop_more rules first d h)
    ∙ ap₂ (λ n bs. with_later first (get_or rules first d) n bs ++ from_rule n bs) (sym (add-one first)) (sym e)

pub rule_end : (rules : List Rule) (first : ℕ) → length rules ≤ first → from_rule first (drop first rules) ≡ []
unfolding from_rule
rule_end rules first h = ap (from_rule first) (drop_all first rules h)

-- a rule with those from the one at k on: with that one, and then with the next
pub later_more : (i : ℕ) (a : Rule) (start : ℕ) (later : List Rule) (k : ℕ) (d : Rule) (h : Option Hiding) (rest : List Finding) → k < length later → h ≡ hiding_of a (get_or later k d)
    → with_later i a (start + k) (drop k later) ++ rest ≡ found i (start + k) h ++ (with_later i a (start + (k + 1)) (drop (k + 1) later) ++ rest)
unfolding with_later
later_more i a start later k d h rest l e =
    let next : suc (start + k) ≡ start + (k + 1) = omega arith in
    ap (λ bs. with_later i a (start + k) bs ++ rest) (drop_more later k d l)
    ∙ ap₂ (λ o n. (found i (start + k) o ++ with_later i a n (drop (k + 1) later)) ++ rest) (sym e) next
    ∙ append_assoc (found i (start + k) h) _ rest

pub later_end : (i : ℕ) (a : Rule) (j : ℕ) (later : List Rule) (k : ℕ) (rest : List Finding) → length later ≤ k → with_later i a j (drop k later) ++ rest ≡ rest
unfolding with_later
later_end i a j later k rest h = ap (λ l. with_later i a j l ++ rest) (drop_all k later h)

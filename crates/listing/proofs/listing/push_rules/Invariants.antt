use Rattle.std.proofs.Common.{◌≡◌, ◌++◌, take, drop, string_bytes}
use Rattle.std.specs.List.{AllByRecursion}
use Rattle.packet.specs.Packets.{tops}
use Rattle.packet.specs.Regions.{ranges, Fit}
use Rattle.listing.specs.Listings.{rules_text}
use Rattle.listing.proofs.listing.push_rules.Given as goal

-- with the lines of the rules that are left, the text is whole; the rules so far fit their fields
abbrev pub invariant-loop-rule : goal.invariant-loop-rule
invariant-loop-rule g l =
    (string_bytes l.out ++ rules_text g.K.Kind.word (drop l.rule-index l.rule-items) ≡ string_bytes l.initial.out ++ rules_text g.K.Kind.word l.rule-items)
    × AllByRecursion (λ rule. Fit tops (ranges rule.region)) (take l.rule-index l.rule-items)

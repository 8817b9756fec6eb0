use Rattle.std.proofs.Common.{◌≤◌, length, ◌∙◌, subst, arith}
use Rattle.std.specs.List.{AllByRecursion}
use Rattle.std.proofs.lemmas.List.{take_all}
use Rattle.packet.specs.Packets.{tops}
use Rattle.packet.specs.Regions.{ranges, Fit}
use Rattle.book.specs.Books.{rules_of}
use Rattle.listing.proofs.Law.{all_proper, reads_back}
use Rattle.listing.proofs.listing.push_rules.Goals as goal

pub returns-clause-reads_back : goal.returns-clause-reads_back
returns-clause-reads_back g c =
    let book = c.args.book.now in
    let fit : AllByRecursion (λ rule. Fit tops (ranges rule.region)) (rules_of book) =
    subst (AllByRecursion (λ rule. Fit tops (ranges rule.region))) (take_all c.loop-rule.rule-index c.rules-rule-items.result.now c.loop-rule-test.false ∙ c.rules-rule-items.ensures) c.loop-rule.invariant.1 in
    let few : length (rules_of book) ≤ 64 = omega (arith, book.few, book.rules.ok) in
    reads_back g.K.Kind.COUNT g.K.Kind.SILENT g.K.Kind.word g.met.K.Kind.words (rules_of book) few (all_proper g.K.Kind.COUNT g.K.Kind.SILENT (rules_of book) fit book.forward book.of_kind)

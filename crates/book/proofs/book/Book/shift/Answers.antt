use Rattle.std.proofs.Common.{◌<◌, length, arith}
use Rattle.book.specs.Rules.{Forward, Speaks}
use Rattle.book.proofs.Edited.{all_inserted, all_removed, all_taken}
use Rattle.book.proofs.book.Book.shift.Goals as goal

pub invariant_of-self-clause-forward : goal.invariant_of-self-clause-forward
invariant_of-self-clause-forward g c =
    let rules = c.args.self.now.rules.items in
    let at : c.args.from < length rules = omega (arith, c.args.self.now.rules.ok.0) in
    all_inserted Forward _ _ _ _ _ c.insert.ensures.items
    (all_removed Forward rules _ c.args.from c.remove-rule.ensures.items c.args.self.now.forward)
    (all_taken Forward rules c.args.from c.remove-rule.result c.remove-rule.ensures.value at c.args.self.now.forward)

pub invariant_of-self-clause-of_kind : goal.invariant_of-self-clause-of_kind
invariant_of-self-clause-of_kind g c =
    let speak = Speaks g.K.Kind.COUNT g.K.Kind.SILENT in
    let rules = c.args.self.now.rules.items in
    let at : c.args.from < length rules = omega (arith, c.args.self.now.rules.ok.0) in
    all_inserted speak _ _ _ _ _ c.insert.ensures.items
    (all_removed speak rules _ c.args.from c.remove-rule.ensures.items c.args.self.now.of_kind)
    (all_taken speak rules c.args.from c.remove-rule.result c.remove-rule.ensures.value at c.args.self.now.of_kind)

use Rattle.std.proofs.Common.{rules}
use Rattle.book.specs.Rules.{Forward, Speaks}
use Rattle.book.proofs.Edited.{all_inserted}
use Rattle.book.proofs.book.Book.add.Goals as goal

pub invariant_of-self-clause-forward : goal.invariant_of-self-clause-forward
invariant_of-self-clause-forward g c =
    let forward : Forward c.args.rule = search rules in
    all_inserted Forward _ _ _ _ _ c.insert.ensures.items c.args.self.now.forward forward

pub invariant_of-self-clause-of_kind : goal.invariant_of-self-clause-of_kind
invariant_of-self-clause-of_kind g c =
    let of_kind : Speaks g.K.Kind.COUNT g.K.Kind.SILENT c.args.rule = search rules in
    all_inserted (Speaks g.K.Kind.COUNT g.K.Kind.SILENT) _ _ _ _ _ c.insert.ensures.items c.args.self.now.of_kind of_kind

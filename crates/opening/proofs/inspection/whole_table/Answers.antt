use Rattle.opening.specs.Tables.{clean_holds}
use Rattle.opening.proofs.Inspected.{was_none}
use Rattle.opening.proofs.inspection.whole_table.Goals as goal

pub invariant_of-rows : goal.invariant_of-rows
invariant_of-rows g c =
    let clean = was_none _ _ _ c.in_ok-count.ensures.answer in
    let h = clean_holds g.K.Kind.NUMBER g.K.Kind.COUNT c.args.bytes.now c.in_ok-count.count clean.0 clean.1 in
    record { counted = h.count; room = h.room }

pub invariant_of-result : goal.invariant_of-result
invariant_of-result g c =
    let clean = was_none _ _ _ c.in_ok-count.ensures.answer in
    record { nested = (clean_holds g.K.Kind.NUMBER g.K.Kind.COUNT c.args.bytes.now c.in_ok-count.count clean.0 clean.1).nested }

use Rattle.std.proofs.Common.{rules}
use Rattle.table.proofs.Views.{cut_more}
use Rattle.table.proofs.rows.narrow.Goals as goal

pub loop-row-preserved : goal.loop-row-preserved
loop-row-preserved c = cut_more _ _ _ _ _ _ _ c.loop-row-test.true (search rules) c.with-row.ensures c.loop-row.invariant

use Rattle.std.proofs.Common.{ap}
use Rattle.std.proofs.lemmas.Bool.Decides.{Decides-like}
use Rattle.table.specs.Rows.{view}
use Rattle.table.proofs.Equal.{rows_tell}
use Rattle.table.proofs.Views.{view_tells}
use Rattle.table.proofs.rows.are_same.Goals as goal

pub returns : goal.returns
returns c = Decides-like _ (ap view) (view_tells _ _) (rows_tell _ _ _ c.eq.ensures)

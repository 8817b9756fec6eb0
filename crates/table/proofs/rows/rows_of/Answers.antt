use Rattle.std.proofs.Common.{List, ◌++◌, sym, ap, ◌∙◌, subst, arith}
use Rattle.packet.specs.Packets.{tops}
use Rattle.theory.specs.Tables.{table, Canonical}
use Rattle.theory.proofs.Theorems.{table_canonical}
use Rattle.table.specs.declared.row.Row.{Row}
use Rattle.table.specs.Rows.{view}
use Rattle.table.specs.Parts.{uncut}
use Rattle.table.proofs.Exits.{handed_on}
use Rattle.table.proofs.Steps.{uncut_none}
use Rattle.table.proofs.rows.rows_of.Goals as goal

pub returns-in_err-append_table-clause-refused : goal.returns-in_err-append_table-clause-refused
returns-in_err-append_table-clause-refused g c = handed_on _ _ _ _ c.from_residual.ensures.1 (omega arith) c.in_err-append_table.ensures.refused

pub returns-clause-rows : goal.returns-clause-rows
returns-clause-rows g c =
    let all = table tops (g.S.Source.meaning c.args.source.now) in
    c.in_ok-append_table.ensures.rows ∙ ap (λ (a : List Row). view a ++ uncut 0 all) c.new-rows.ensures.items ∙ uncut_none all

pub returns-clause-canonical : goal.returns-clause-canonical
returns-clause-canonical g c = subst (Canonical tops (g.S.Source.meaning c.args.source.now)) (sym (returns-clause-rows g c)) (table_canonical tops (g.S.Source.meaning c.args.source.now))

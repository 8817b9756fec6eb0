use Rattle.std.proofs.Common.{ℕ, List, sym, subst, arith}
use Rattle.opening.specs.Searching.{HoldsNested}
use Rattle.opening.specs.Tables.{clean_holds, told_damaged, told_opened}
use Rattle.opening.proofs.Inspected.{was_damage, was_none, same_error}
use Rattle.opening.proofs.packed_table.Table.open.Goals as goal

pub returns-in_err-rows : goal.returns-in_err-rows
returns-in_err-rows g c =
    let damage = was_damage _ _ _ c.in_err-rows.ensures.answer in
    let told = told_damaged g.K.Kind.NUMBER g.K.Kind.COUNT g.K.Kind.SILENT g.met.K.Kind.bounds.byte g.met.K.Kind.bounds.few c.args.bytes.now _ _ (same_error _ _ c.from_residual.ensures.1) damage in
    record { answer = told.0; decides = told.1; packs_back = told.2 }

pub invariant_of-result : goal.invariant_of-result
invariant_of-result g c =
    let clean = was_none _ _ _ c.in_ok-rows.ensures.answer in
    let rows = c.in_ok-rows.rows in
    let h = subst (λ (x : List ℕ). HoldsNested x rows) (sym c.in_ok-bytes.ensures.items) (clean_holds g.K.Kind.NUMBER g.K.Kind.COUNT c.args.bytes.now rows clean.0 clean.1) in
    record { count = h.count; room = h.room; nested = h.nested }

pub returns : goal.returns
returns g c =
    let clean = was_none _ _ _ c.in_ok-rows.ensures.answer in
    let told = told_opened g.K.Kind.NUMBER g.K.Kind.COUNT g.K.Kind.SILENT g.met.K.Kind.bounds.byte g.met.K.Kind.bounds.few c.args.bytes.now _ c.in_ok-bytes.ensures.items clean.0 (λ k h. omega (arith, c.type_inv.bytes k)) in
    record { answer = told.0; decides = told.1; packs_back = told.2 }

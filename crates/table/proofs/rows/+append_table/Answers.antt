use Rattle.std.proofs.Common.{◌≡◌, ◌+◌, ◌-◌, ◌≤◌, List, ◌++◌, length, get_or, take, drop, vec_items, vec_len, Decides, sym, refl, ap, ◌∙◌, arith, rules}
use borrow.Rule.Slice.PartMut.{put_mid}
use Rattle.std.specs.List.{between}
use Rattle.std.proofs.lemmas.List.{places, with_items_is, length-map, length-take, take_at, take-map}
use Rattle.packet.specs.Packets.{values, tops, place, Within}
use Rattle.packet.specs.declared.field.Field.TheVariants.{Source}
use Rattle.packet.proofs.Values.{place_few}
use Rattle.policy.specs.Edges.{Edge}
use Rattle.theory.specs.Tables as tables
use Rattle.table.specs.declared.row.Row.{Row}
use Rattle.table.specs.Rows.{plain, view, most_rows}
use Rattle.table.specs.Parts.{before, table_from, uncut, cut_between}
use Rattle.table.proofs.Exits.{handed_on}
use Rattle.table.proofs.Views.{cut_put, parts_tell}
use Rattle.table.proofs.Built.{built_as}
use Rattle.table.proofs.Steps.{next_field, rows_at, counts_at, leaf, cell_counts, first_step, next_step, all_count, last_step}
use Rattle.table.proofs.rows.+append_table.Goals as goal
use Rattle.table.proofs.rows.+append_table.Goals.{then-are_same, else-are_same+else-len-base-gt-MOST_ROWS}

pub returns-in_default-clause-rows : goal.returns-in_default-clause-rows
returns-in_default-clause-rows g t c =
    leaf (g.S.Source.meaning c.args.source.now) (before c.args.fields.now) c.args.at (omega (arith, c.in_default.len_below)) _ refl c.decide-decision.ensures
    (vec_items c.args.rows.now) (vec_items c.push.new.self) c.in_ok-push.ensures.items

pub returns-in_err-append_table-clause-refused : goal.returns-in_err-append_table-clause-refused
returns-in_err-append_table-clause-refused g t c =
    let next = next_field c.args.fields.now Source c.in-len1-up.len_at_least c.requires in
    let less = cell_counts (g.S.Source.meaning c.args.source.now) (get_or c.args.fields.now 0 Source) (before c.args.fields.now) next.0 c.args.at c.with-first.result 0 (omega arith, c.with-first.ensures) in
    handed_on _ _ _ _ c.from_residual-in_err-append_table.ensures.1 (omega (arith, less, counts_at _ _ (g.S.Source.meaning c.args.source.now) c.with-first.result next.1)) c.in_err-append_table.ensures.refused

pub loop-high-init : goal.loop-high-init
loop-high-init g t c =
    let u = c.in_ok-append_table.ensures in (
      first_step (g.S.Source.meaning c.args.source.now) (get_or c.args.fields.now 0 Source) (before c.args.fields.now) (next_field c.args.fields.now Source c.in-len1-up.len_at_least c.requires).0 c.args.at c.with-first.result (omega arith, c.with-first.ensures) c.edge-high.result edge
          (view (vec_items c.args.rows.now)) (view (vec_items c.append_table.new.rows)) c.len-base.result
          (u.rows ∙ rows_at _ _ (g.S.Source.meaning c.args.source.now) (view (vec_items c.args.rows.now)) c.with-first.result (next_field c.args.fields.now Source c.in-len1-up.len_at_least c.requires).1) long,
      omega (arith, edge.most, c.top-top.ensures),
      omega arith,
      omega (arith, u.few, c.len-base.ensures),
      omega (arith, u.few, c.len-base.ensures),
    )
  where
    long : length (view (vec_items c.args.rows.now)) ≡ c.len-base.result
    long = omega (arith, length-map (vec_items c.args.rows.now) plain, c.args.rows.now.ok, c.len-base.ensures)

    edge : Edge (g.S.Source.meaning c.args.source.now) (values c.with-first.result) (place (get_or c.args.fields.now 0 Source)) c.edge-high.result
    edge = let w : Within tops (values c.with-first.result) = search rules in g.met.S.Source.sound _ _ _ _ (place_few (get_or c.args.fields.now 0 Source)) w c.edge-high.ensures

pub returns-in_err-append_table-2-clause-refused : goal.returns-in_err-append_table-2-clause-refused
returns-in_err-append_table-2-clause-refused g t c =
    let next = next_field c.args.fields.now Source c.in-len1-up.len_at_least c.requires in
    let less = cell_counts (g.S.Source.meaning c.args.source.now) (get_or c.args.fields.now 0 Source) (before c.args.fields.now) next.0 c.args.at c.with-next.result (c.loop-high.high + 1) (omega (arith, c.loop-high-test.true, c.top-top.ensures), c.with-next.ensures) in
    handed_on _ _ _ _ c.from_residual-in_err-append_table-2.ensures.1 (omega (arith, less, counts_at _ _ (g.S.Source.meaning c.args.source.now) c.with-next.result next.1)) c.in_err-append_table-2.ensures.refused

pub returns-then-len-base-gt-MOST_ROWS-clause-refused : goal.returns-then-len-base-gt-MOST_ROWS-clause-refused
returns-then-len-base-gt-MOST_ROWS-clause-refused g t c = omega (
  arith,
  counted,
  length-take c.len-base.result (view (vec_items c.append_table.new.rows)),
  length-map (vec_items c.append_table-in-loop-high.new.rows) plain,
  c.append_table-in-loop-high.new.rows.ok,
  c.len.ensures,
  c.if-len-base-gt-MOST_ROWS.true,
)
  where
    long : length (view (vec_items c.loop-high.rows)) ≡ c.len-end.result
    long = omega (arith, length-map (vec_items c.loop-high.rows) plain, c.loop-high.rows.ok, c.len-end.ensures)

    told : Decides c.are_same.result
        (between c.loop-high.start c.len-end.result (view (vec_items c.append_table-in-loop-high.new.rows)) ≡ drop c.len-end.result (view (vec_items c.append_table-in-loop-high.new.rows)))
    told = parts_tell _ _ _ c.loop-high.start c.len-end.result _ c.deref.ensures.value c.deref-in-loop-high.ensures.value c.are_same.ensures

    counted : length (view (vec_items c.append_table-in-loop-high.new.rows))
        ≤ length (take c.len-base.result (view (vec_items c.append_table.new.rows))) + length (table_from (g.S.Source.meaning c.args.source.now) (before c.args.fields.now) (values c.args.at))
    counted = all_count (g.S.Source.meaning c.args.source.now) (get_or c.args.fields.now 0 Source) (before c.args.fields.now) (next_field c.args.fields.now Source c.in-len1-up.len_at_least c.requires).0 c.args.at (take c.len-base.result (view (vec_items c.append_table.new.rows))) (view (vec_items c.loop-high.rows)) c.loop-high.start c.loop-high.low c.loop-high.high c.loop-high.invariant.0
        c.with-next.result (omega (arith, c.loop-high-test.true, c.top-top.ensures), c.with-next.ensures)
        (view (vec_items c.append_table-in-loop-high.new.rows)) (c.in_ok-append_table-2.ensures.rows ∙ rows_at _ _ (g.S.Source.meaning c.args.source.now) (view (vec_items c.loop-high.rows)) c.with-next.result (next_field c.args.fields.now Source c.in-len1-up.len_at_least c.requires).1) c.len-end.result long c.are_same.result told c.if-are_same.false

pub loop-high-preserved : goal.loop-high-preserved
loop-high-preserved g t c =
    let m = g.S.Source.meaning c.args.source.now in
    let now = vec_items c.loop-high.rows in
    let all = vec_items c.append_table-in-loop-high.new.rows in
    let two = next_step m (get_or c.args.fields.now 0 Source) (before c.args.fields.now) (next_field c.args.fields.now Source c.in-len1-up.len_at_least c.requires).0 c.args.at (take c.len-base.result (view (vec_items c.append_table.new.rows))) (view now) c.loop-high.start c.loop-high.low c.loop-high.high c.loop-high.invariant.0
    c.with-next.result (more, c.with-next.ensures) (view all) (c.in_ok-append_table-2.ensures.rows ∙ rows_at _ _ (g.S.Source.meaning c.args.source.now) (view (vec_items c.loop-high.rows)) c.with-next.result (next_field c.args.fields.now Source c.in-len1-up.len_at_least c.requires).1) c.len-end.result long c.are_same.result told c.edge-high-in-loop-high.result edge in
    elim c.if-are_same.branch [
      | then-are_same w ↦ (
        built_as _ _ _ _ _ _ _ _ _ _ _ (ap (λ v. view (vec_items v)) w.rows-is ∙ ap view w.truncate.ensures.items ∙ sym (take-map plain c.len-end.result all)) w.start-is w.low-is (two.0 w.if-are_same.true),
        omega (arith, edge.most, c.top-top.ensures),
        omega (arith, c.loop-high.invariant, w.start-is),
        omega (arith, c.loop-high.invariant, few, w.start-is, ap vec_len w.rows-is, w.truncate.ensures.len, c.len-end.ensures),
        omega (arith, c.loop-high.invariant, few, ap vec_len w.rows-is, w.truncate.ensures.len, c.len-end.ensures),
      )
      | else-are_same+else-len-base-gt-MOST_ROWS w ↦ (
        built_as _ _ _ _ _ _ _ _ _ _ _ (ap (λ v. view (vec_items v)) w.rows-is ∙ ap view (with_items_is c.append_table-in-loop-high.new.rows (put_mid c.loop-high.start (c.len-end.result - c.loop-high.start) w.deref_mut.result.now w.narrow.new.rows) (search (rules, places))) ∙ cut_put _ _ all w.deref_mut.result.now w.narrow.new.rows c.loop-high.start c.len-end.result (omega (arith, c.loop-high.invariant, c.len-end.ensures)) w.deref_mut.ensures.value w.narrow.ensures) w.start-is w.low-is (two.1 w.if-are_same.false),
        omega (arith, edge.most, c.top-top.ensures),
        omega (arith, c.loop-high.invariant, w.start-is, c.len-end.ensures),
        omega (arith, few, w.start-is, ap vec_len w.rows-is, c.len-end.ensures),
        omega (arith, ap vec_len w.rows-is, w.len.ensures, w.if-len-base-gt-MOST_ROWS.false),
      )
    ]
  where
    more : c.loop-high.high + 1 ≤ get_or tops (place (get_or c.args.fields.now 0 Source)) 0
    more = omega (arith, c.loop-high-test.true, c.top-top.ensures)

    long : length (view (vec_items c.loop-high.rows)) ≡ c.len-end.result
    long = omega (arith, length-map (vec_items c.loop-high.rows) plain, c.loop-high.rows.ok, c.len-end.ensures)

    told : Decides c.are_same.result
        (between c.loop-high.start c.len-end.result (view (vec_items c.append_table-in-loop-high.new.rows)) ≡ drop c.len-end.result (view (vec_items c.append_table-in-loop-high.new.rows)))
    told = parts_tell _ _ _ c.loop-high.start c.len-end.result _ c.deref.ensures.value c.deref-in-loop-high.ensures.value c.are_same.ensures

    edge : Edge (g.S.Source.meaning c.args.source.now) (values c.with-next.result) (place (get_or c.args.fields.now 0 Source)) c.edge-high-in-loop-high.result
    edge = let w : Within tops (values c.with-next.result) = search rules in g.met.S.Source.sound _ _ _ _ (place_few (get_or c.args.fields.now 0 Source)) w c.edge-high-in-loop-high.ensures

    few : (vec_len c.loop-high.rows ≤ vec_len c.append_table-in-loop-high.new.rows) × (vec_len c.append_table-in-loop-high.new.rows ≤ vec_len c.loop-high.rows + most_rows)
    few = c.in_ok-append_table-2.ensures.few

pub returns-clause-rows : goal.returns-clause-rows
returns-clause-rows g t c =
    ap view (with_items_is c.loop-high.rows (put_mid c.loop-high.start (length lent - c.loop-high.start) lent c.narrow-2.new.rows) (search (rules, places)))
    ∙ cut_put _ _ (vec_items c.loop-high.rows) lent c.narrow-2.new.rows c.loop-high.start (length lent) (omega (arith, c.loop-high.invariant, c.deref_mut-2.ensures.len)) c.deref_mut-2.ensures.value c.narrow-2.ensures
    ∙ whole ∙ ap (λ (a : List tables.Row). a ++ uncut (before c.args.fields.now) (table_from (g.S.Source.meaning c.args.source.now) (before c.args.fields.now) (values c.args.at))) was
  where
    lent : List Row
    lent = c.deref_mut-2.result.now

    was : take c.len-base.result (view (vec_items c.append_table.new.rows)) ≡ view (vec_items c.args.rows.now)
    was =
        let n : length (view (vec_items c.args.rows.now)) ≡ c.len-base.result = omega (arith, length-map (vec_items c.args.rows.now) plain, c.args.rows.now.ok, c.len-base.ensures) in
        ap (take c.len-base.result) c.in_ok-append_table.ensures.rows ∙ take_at (view (vec_items c.args.rows.now)) _ _ n

    long : length (view (vec_items c.loop-high.rows)) ≡ length lent
    long = omega (arith, length-map (vec_items c.loop-high.rows) plain, c.loop-high.rows.ok, c.deref_mut-2.ensures.len)

    whole : cut_between c.loop-high.start (length lent) (place (get_or c.args.fields.now 0 Source)) (record { low = c.loop-high.low; high = c.loop-high.high }) (view (vec_items c.loop-high.rows))
        ≡ take c.len-base.result (view (vec_items c.append_table.new.rows)) ++ uncut (before c.args.fields.now) (table_from (g.S.Source.meaning c.args.source.now) (before c.args.fields.now) (values c.args.at))
    whole = last_step (g.S.Source.meaning c.args.source.now) (get_or c.args.fields.now 0 Source) (before c.args.fields.now) (next_field c.args.fields.now Source c.in-len1-up.len_at_least c.requires).0 c.args.at (take c.len-base.result (view (vec_items c.append_table.new.rows))) (view (vec_items c.loop-high.rows))
        c.loop-high.start c.loop-high.low c.loop-high.high c.loop-high.invariant.0 (omega (arith, c.loop-high.invariant.1, c.loop-high-test.false, c.top-top.ensures)) (length lent) long

pub append_table-requires-in-loop-high : goal.append_table-requires-in-loop-high
append_table-requires-in-loop-high g t c = let next = next_field c.args.fields.now Source c.in-len1-up.len_at_least c.requires in search rules

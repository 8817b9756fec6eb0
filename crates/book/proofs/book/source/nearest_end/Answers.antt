use Rattle.std.proofs.Common.{◌&&◌, refl, ap₂, arith}
use Rattle.packet.specs.Packets.{values, place}
use Rattle.packet.specs.Regions.{range_at}
use Rattle.book.specs.Reach.{looked_at}
use Rattle.book.specs.Reaches.{nearest_most, stops_at}
use Rattle.book.proofs.Scans.{look_past, look_on, look_outside, look_last, look_end}
use Rattle.book.proofs.book.source.nearest_end.Goals as goal
use Rattle.book.proofs.book.source.nearest_end.Goals.{then-all_hold+else-contains, else-contains-via-then-contains+else-are_whole, else-contains-via-else-contains, else-all_hold}

pub loop-rule-init : goal.loop-rule-init
loop-rule-init c =
    record { most = omega arith; rest = omega (arith, c.top-top.ensures, nearest_most (place c.args.field) (values c.args.packet) (looked_at (place c.args.field) (values c.args.packet) c.args.rules.now)) }

pub returns-then-are_whole : goal.returns-then-are_whole
returns-then-are_whole c =
    let last = look_last (place c.args.field) (values c.args.packet) c.args.rules.now c.loop-rule.rule-index _ c.loop-rule-test.true
    _ _ _ c.index-place.ensures.value c.to_array-ranges.ensures.value c.to_array-values.ensures.value refl
    _ _ _ _ _ c.to_array-largest.ensures.value (ap₂ range_at c.to_array-ranges.ensures.value c.index-place.ensures.value) c.get-value.ensures.value c.top-top.ensures c.run_end.ensures
    c.if-all_hold.ensures c.if-contains.ensures c.if-are_whole.ensures in
    stops_at c.args.rules.now (place c.args.field) (values c.args.packet) c.min-end.result (omega (arith, last, c.loop-rule.invariant.most, c.loop-rule.invariant.rest, c.min-end.ensures))

pub loop-rule-preserved : goal.loop-rule-preserved
loop-rule-preserved c = elim c.if-all_hold.branch [
  | then-all_hold+else-contains w ↦ elim w.else-contains.branch [
    | else-contains-via-then-contains+else-are_whole w' ↦
        let on = look_on (place c.args.field) (values c.args.packet) c.args.rules.now c.loop-rule.rule-index _ c.loop-rule-test.true
        _ _ _ c.index-place.ensures.value c.to_array-ranges.ensures.value c.to_array-values.ensures.value refl
        _ _ _ _ _ c.to_array-largest.ensures.value (ap₂ range_at c.to_array-ranges.ensures.value c.index-place.ensures.value) c.get-value.ensures.value c.top-top.ensures w.run_end.ensures
        w.if-all_hold.ensures w'.if-contains.ensures w'.if-are_whole.ensures in
        record { most = omega (arith, w.end-is, w.min-end.ensures); rest = omega (arith, on, w.end-is, w.min-end.ensures, c.loop-rule.invariant.rest) }
    | else-contains-via-else-contains w' ↦
        let on = look_outside (place c.args.field) (values c.args.packet) c.args.rules.now c.loop-rule.rule-index _ c.loop-rule-test.true
        _ _ _ c.index-place.ensures.value c.to_array-ranges.ensures.value c.to_array-values.ensures.value refl
        _ _ _ _ _ c.to_array-largest.ensures.value (ap₂ range_at c.to_array-ranges.ensures.value c.index-place.ensures.value) c.get-value.ensures.value c.top-top.ensures w.run_end.ensures
        w.if-all_hold.ensures w'.if-contains.ensures in
        record { most = omega (arith, w.end-is, w.min-end.ensures); rest = omega (arith, on, w.end-is, w.min-end.ensures, c.loop-rule.invariant.rest) }
  ]
  | else-all_hold w ↦
      let past = look_past (place c.args.field) (values c.args.packet) c.args.rules.now c.loop-rule.rule-index _ c.loop-rule-test.true
      _ _ _ c.index-place.ensures.value c.to_array-ranges.ensures.value c.to_array-values.ensures.value refl w.if-all_hold.ensures in
      record { most = omega (arith, w.end-is); rest = omega (arith, past, w.end-is, c.loop-rule.invariant.rest) }
]

pub returns : goal.returns
returns c =
    let last = look_end (place c.args.field) (values c.args.packet) c.args.rules.now c.loop-rule.rule-index c.loop-rule-test.false in
    stops_at c.args.rules.now (place c.args.field) (values c.args.packet) c.loop-rule.end (omega (arith, last, c.loop-rule.invariant.most, c.loop-rule.invariant.rest))

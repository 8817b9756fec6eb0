use Rattle.std.proofs.Common.{◌≡◌, ℕ, ◌+◌, ◌-◌, ◌<◌, ◌≤◌, Bool, true, false, not, ◌&&◌, List, length, take, Some, None, eqb, sym, refl, ap, ◌∙◌, ap₂, arith}
use Rattle.std.specs.List.{list_all, zip}
use Rattle.std.proofs.lemmas.Bool.{and_left}
use Rattle.packet.specs.declared.range.Range.{Range}
use Rattle.packet.specs.Packets.{tops}
use Rattle.theory.specs.Steps.{begins, passes}
use Rattle.theory.specs.Neighbours.{ranges_at}
use Rattle.blocks.specs.Reading.{row_count, rows_in}
use Rattle.damage.specs.declared.damage.Damage.TheVariants.{NotNested}
use Rattle.opening.specs.Damages.{first, nesting_damage}
use Rattle.opening.proofs.Found.{ranges_are, long}
use Rattle.opening.proofs.Begun.{nesting_at, begun_first, begun_next, begun_passed, begun_stopped, ended_short, ended_whole}
use Rattle.opening.proofs.nesting.check_nesting.Goals as goal
use Rattle.opening.proofs.nesting.check_nesting.Goals.{then-is_any_reversed-via-then-is_any_reversed, then-is_any_reversed-via-else-is_any_reversed+then-not-start_at_zero, then-is_any_reversed-2-via-then-is_any_reversed-2, then-is_any_reversed-2-via-else-is_any_reversed-2+then-not-follow}

-- before the first row no damage is found
none_before : (bytes : List ℕ) → first 0 (nesting_at (rows_in bytes)) ≡ None
unfolding first
none_before bytes = refl

pub returns-then-is_any_reversed : goal.returns-then-is_any_reversed
returns-then-is_any_reversed c =
    let bytes = c.args.rows.bytes.now in
    let some : 0 < length (rows_in bytes) = omega (arith, long bytes c.args.rows.count c.args.rows.counted, c.requires) in
    let begun = begun_first (rows_in bytes) some c.ranges-last.result (c.ranges-last.ensures.value ∙ sym (ranges_are bytes 0 (omega (arith, c.requires, c.args.rows.counted)))) c.ranges-last.ensures.fit in
    let fails : begins tops (take 1 (rows_in bytes)) ≡ false = elim c.then-is_any_reversed.branch [
      | then-is_any_reversed-via-then-is_any_reversed w ↦ begun ∙ and_left _ _ (ap not (sym c.is_any_reversed.ensures ∙ w.if-is_any_reversed.true))
      | then-is_any_reversed-via-else-is_any_reversed+then-not-start_at_zero w ↦ begun
          ∙ ap₂ (λ s t. not s && t) (sym c.is_any_reversed.ensures ∙ w.if-is_any_reversed.false) (sym w.start_at_zero.ensures ∙ w.if-not-start_at_zero.true)
    ] in
    begun_stopped (rows_in bytes) 0 some (none_before bytes) fails

pub loop-row-init : goal.loop-row-init
loop-row-init c =
    let bytes = c.args.rows.bytes.now in
    let some : 0 < length (rows_in bytes) = omega (arith, long bytes c.args.rows.count c.args.rows.counted, c.requires) in
    let here = c.ranges-last.ensures.value ∙ sym (ranges_are bytes 0 (omega (arith, c.requires, c.args.rows.counted))) in
    let begun = begun_first (rows_in bytes) some c.ranges-last.result here c.ranges-last.ensures.fit
    ∙ ap₂ (λ s t. not s && t) (sym c.if-is_any_reversed.ensures) (sym c.if-not-start_at_zero.ensures) in
    record { whole = begun_passed (rows_in bytes) 0 (none_before bytes) begun; begun = begun; last = here }

pub returns-then-is_any_reversed-2 : goal.returns-then-is_any_reversed-2
returns-then-is_any_reversed-2 c =
    let bytes = c.args.rows.bytes.now in
    let row = c.loop-row.row in
    let few : row < length (rows_in bytes) = omega (arith, long bytes c.args.rows.count c.args.rows.counted, c.loop-row-test.true) in
    let here = c.ranges-ranges.ensures.value ∙ sym (ranges_are bytes row (omega (arith, c.loop-row-test.true, c.args.rows.counted))) in
    let next = begun_next (rows_in bytes) row c.loop-row.auto.row few c.loop-row.invariant.begun c.loop-row.last c.ranges-ranges.result c.loop-row.invariant.last here c.ranges-ranges.ensures.fit in
    let fails : begins tops (take (row + 1) (rows_in bytes)) ≡ false = elim c.then-is_any_reversed-2.branch [
      | then-is_any_reversed-2-via-then-is_any_reversed-2 w ↦ next ∙ and_left _ _ (ap not (sym c.is_any_reversed-in-loop-row.ensures ∙ w.if-is_any_reversed-2.true))
      | then-is_any_reversed-2-via-else-is_any_reversed-2+then-not-follow w ↦ next
          ∙ ap₂ (λ s t. not s && t) (sym c.is_any_reversed-in-loop-row.ensures ∙ w.if-is_any_reversed-2.false) (sym w.follow.ensures ∙ w.if-not-follow.true)
    ] in
    begun_stopped (rows_in bytes) row few c.loop-row.invariant.whole fails

pub loop-row-preserved : goal.loop-row-preserved
loop-row-preserved c =
    let bytes = c.args.rows.bytes.now in
    let row = c.loop-row.row in
    let few : row < length (rows_in bytes) = omega (arith, long bytes c.args.rows.count c.args.rows.counted, c.loop-row-test.true) in
    let here = c.ranges-ranges.ensures.value ∙ sym (ranges_are bytes row (omega (arith, c.loop-row-test.true, c.args.rows.counted))) in
    let begun = begun_next (rows_in bytes) row c.loop-row.auto.row few c.loop-row.invariant.begun c.loop-row.last c.ranges-ranges.result c.loop-row.invariant.last here c.ranges-ranges.ensures.fit
    ∙ ap₂ (λ s t. not s && t) (sym c.if-is_any_reversed-2.ensures) (sym c.if-not-follow.ensures) in
    let back : row ≡ row + 1 - 1 = omega arith in
    record { whole = begun_passed (rows_in bytes) row c.loop-row.invariant.whole begun; begun = begun; last = here ∙ ap (ranges_at (rows_in bytes)) back }

-- at the end, the last row's ranges
module _ (bytes : List ℕ) (count row : ℕ) (counted : count ≡ row_count bytes) (some : 0 < count) (far : count ≤ row) (near : row ≤ count) (last : List (Range ℕ)) (is : last ≡ ranges_at (rows_in bytes) (row - 1)) where
  all : row ≡ count
  all = omega arith

  last_is : last ≡ ranges_at (rows_in bytes) (count - 1)
  last_is = is ∙ ap (λ n. ranges_at (rows_in bytes) (n - 1)) all

  five : length last ≡ length tops
  five = ap length (last_is ∙ ranges_are bytes (count - 1) (omega arith))

  module _ (whole : first row (nesting_at (rows_in bytes)) ≡ None) (begun : begins tops (take row (rows_in bytes)) ≡ true) (test : Bool) (t : test ≡ list_all (λ p. eqb p.0.high p.1) (zip last tops)) where
    whole_all : first count (nesting_at (rows_in bytes)) ≡ None
    whole_all = ap (λ n. first n (nesting_at (rows_in bytes))) (sym all) ∙ whole

    begun_all : begins tops (take count (rows_in bytes)) ≡ true
    begun_all = ap (λ n. begins tops (take n (rows_in bytes))) (sym all) ∙ begun

    short : test ≡ false → nesting_damage (rows_in bytes) ≡ Some (NotNested count)
    short e = ended_short (rows_in bytes) count (sym (long bytes count counted)) some whole_all begun_all last last_is five (sym t ∙ e)

    nested : test ≡ true → (nesting_damage (rows_in bytes) ≡ None) × (passes tops (rows_in bytes) ≡ true)
    nested e = ended_whole (rows_in bytes) count (sym (long bytes count counted)) some whole_all begun_all last last_is five (sym t ∙ e)

pub returns-then-not-end_at_largest : goal.returns-then-not-end_at_largest
returns-then-not-end_at_largest c =
    let rows = c.args.rows in
    let l = c.loop-row in
    short rows.bytes.now rows.count l.row rows.counted c.requires c.loop-row-test.false (l.auto.row-end (omega (arith, c.requires))) l.last l.invariant.last l.invariant.whole l.invariant.begun c.end_at_largest.result c.end_at_largest.ensures c.if-not-end_at_largest.true

pub invariant_of-result : goal.invariant_of-result
invariant_of-result c =
    let rows = c.args.rows in
    let l = c.loop-row in
    record { nested = (nested rows.bytes.now rows.count l.row rows.counted c.requires c.loop-row-test.false (l.auto.row-end (omega (arith, c.requires))) l.last l.invariant.last l.invariant.whole l.invariant.begun c.end_at_largest.result c.end_at_largest.ensures c.if-not-end_at_largest.false).1 }

pub returns : goal.returns
returns c =
    let rows = c.args.rows in
    let l = c.loop-row in
    (refl, (nested rows.bytes.now rows.count l.row rows.counted c.requires c.loop-row-test.false (l.auto.row-end (omega (arith, c.requires))) l.last l.invariant.last l.invariant.whole l.invariant.begun c.end_at_largest.result c.end_at_largest.ensures c.if-not-end_at_largest.false).0)

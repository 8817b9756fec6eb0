use Rattle.std.proofs.Common.{rules, ◌≡◌, ℕ, ◌+◌, ◌-◌, ◌/◌, ◌<◌, Bool, ltb, List, [], get_or, sym, ap, ◌∙◌, arith}
use Rattle.std.proofs.lemmas.Bool.{ltb-true, ltb-false}
use Rattle.packet.specs.declared.range.Range.{Range}
use Rattle.packet.specs.Packets.{values, tops, Within}
use Rattle.theory.specs.Tables.{Row}
use Rattle.theory.specs.Holding.{before}
use Rattle.theory.specs.Neighbours.{ranges_at}
use Rattle.theory.proofs.Holding.{Found}
use Rattle.blocks.specs.Writing.{widths}
use Rattle.blocks.specs.Reading.{ranges_of, row_slice, row_count, rows_in}
use Rattle.blocks.proofs.Formed.{row_at}
use Rattle.opening.proofs.Found.{ranges_are, found, long}
use Rattle.opening.proofs.search.Nested.holding.Goals as goal

-- what a comparison with the row at a place tells of the row that holds the packet
compared : (bytes p : List ℕ) (f : Found (rows_in bytes) p) (i count : ℕ) → count ≡ row_count bytes → i < count → (ranges : List (Range ℕ)) → ranges ≡ ranges_of widths (row_slice bytes i) → (t : Bool) → t ≡ before ranges p → ltb f.place i ≡ t
compared bytes p f i count n h ranges is t e =
    sym (f.orders i (omega (arith, long bytes count n, h))) ∙ ap (λ (r : List (Range ℕ)). before r p) (ranges_are bytes i (omega arith) ∙ sym is) ∙ sym e

pub loop-high-init : goal.loop-high-init
loop-high-init c =
    let bytes = c.args.self.now.rows.bytes.now in
    let all = long bytes c.args.self.now.rows.count c.args.self.now.rows.counted in
    let w : Within tops (values c.args.packet) = search rules in
    record {
      among = λ f. (omega arith, omega (arith, f.within, all));
      few = omega arith;
      some = omega (arith, (found bytes c.args.self.now.nested (values c.args.packet) w).within, all);
    }

pub loop-high-preserved-then-is_before : goal.loop-high-preserved-then-is_before
loop-high-preserved-then-is_before c =
    let rows = c.args.self.now.rows in
    let l = c.loop-high in
    let middle = l.low + (l.high - l.low) / 2 in
    let few : middle < rows.count = omega (arith, l.invariant.few, l.invariant.some, c.loop-high-test.true) in
    record {
      among = λ f. ((l.invariant.among f).0, ltb-true _ _ (compared rows.bytes.now (values c.args.packet) f middle rows.count rows.counted few c.ranges-in-loop-high.result c.ranges-in-loop-high.ensures.value _ c.if-is_before.ensures));
      few = omega (arith, l.invariant.few, l.invariant.some, c.loop-high-test.true);
      some = omega (arith, l.invariant.some, c.loop-high-test.true);
    }

pub loop-high-preserved : goal.loop-high-preserved
loop-high-preserved c =
    let rows = c.args.self.now.rows in
    let l = c.loop-high in
    let middle = l.low + (l.high - l.low) / 2 in
    let few : middle < rows.count = omega (arith, l.invariant.few, l.invariant.some, c.loop-high-test.true) in
    record {
      among = λ f. (ltb-false _ _ (compared rows.bytes.now (values c.args.packet) f middle rows.count rows.counted few c.ranges-in-loop-high.result c.ranges-in-loop-high.ensures.value _ c.if-is_before.ensures), (l.invariant.among f).1);
      few = l.invariant.few;
      some = omega (arith, l.invariant.some, c.loop-high-test.true);
    }

pub returns : goal.returns
returns c =
    let rows = c.args.self.now.rows in
    let bytes = rows.bytes.now in
    let l = c.loop-high in
    let w : Within tops (values c.args.packet) = search rules in
    let f = found bytes c.args.self.now.nested (values c.args.packet) w in
    let here : l.low ≡ f.place = omega (arith, l.invariant.among f, c.loop-high-test.false) in
    let few : l.low < row_count bytes = omega (arith, l.invariant.few, l.invariant.some, rows.counted) in
    let none : Row = record { ranges = []; decision = 0 } in
    record {
      bound = omega (arith, few, rows.counted);
      ranges = sym (ranges_are bytes l.low few) ∙ ap (ranges_at (rows_in bytes)) here ∙ f.holder;
      decision = ap (λ (r : Row). r.decision) (sym (row_at bytes l.low none few) ∙ ap (λ n. get_or (rows_in bytes) n none) here) ∙ f.decides none;
    }

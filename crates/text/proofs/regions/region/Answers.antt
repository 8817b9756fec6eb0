use Rattle.std.proofs.Common.{ℕ, ◌+◌, List, get_or, take, drop, Ok, Result, sym, refl, ap, ◌∙◌}
use Rattle.std.proofs.lemmas.Result.{err_from_is_err_and}
use Rattle.std.proofs.lemmas.List.{append-nil, take_all}
use Rattle.packet.specs.declared.field.Field.{Field}
use Rattle.packet.specs.declared.field.Field.TheVariants.{Source}
use Rattle.packet.specs.declared.range.Range.{Range}
use Rattle.packet.specs.declared.region.Region.{Region}
use Rattle.packet.specs.Regions.{ranges}
use Rattle.text.specs.declared.faults.LineFault.{LineFault}
use Rattle.text.specs.Pieces.{left}
use Rattle.text.specs.Steps.{then}
use Rattle.text.specs.Fields.{fields, ranges_from, region_of}
use Rattle.text.proofs.Spans.{range_sound}
use Rattle.text.proofs.Placed.{before, ranges_few, ranges_fault, ranges_more, ranges_end, placed, field_nth}
use Rattle.text.proofs.regions.region.Goals as goal

abbrev field : ℕ → Field
field i = get_or fields i Source

abbrev as_region : Result (List (Range ℕ)) LineFault → Result Region LineFault
as_region read = then read (λ ranges. Ok (region_of ranges))

pub returns-in_default : goal.returns-in_default
returns-in_default c =
    let so_far = take c.loop-field.field-index (ranges c.loop-field.region) in
    sym (ap as_region (c.loop-field.invariant
    ∙ ap (λ ws. before so_far (ranges_from (drop c.loop-field.field-index fields) c.loop-field.words.column ws)) c.in_default.ensures.steps.0
    ∙ ap (before so_far) (ranges_few (field c.loop-field.field-index) c.loop-field.field-index (field_nth c.loop-field.field-index c.loop-field-test.true) c.loop-field.words.column)))

pub returns-in_err-range : goal.returns-in_err-range
returns-in_err-range c =
    let so_far = take c.loop-field.field-index (ranges c.loop-field.region) in
    let taken = c.in-Some.ensures.steps in
    let p = err_from_is_err_and c.from_residual.result c.from_residual.ensures.1 in
    rw (p.1, p.2) (sym (ap as_region (c.loop-field.invariant
    ∙ ap (λ ws. before so_far (ranges_from (drop c.loop-field.field-index fields) c.loop-field.words.column ws)) taken.words_are
    ∙ ap (before so_far) (ranges_fault (field c.loop-field.field-index) c.loop-field.field-index (field_nth c.loop-field.field-index c.loop-field-test.true) c.loop-field.words.column _ _ _
    (c.in_err-range.ensures _ _ taken.stands)))))

pub loop-field-preserved : goal.loop-field-preserved
loop-field-preserved c =
    let so_far = take c.loop-field.field-index (ranges c.loop-field.region) in
    let taken = c.in-Some.ensures.steps in
    let read = c.in_ok-range.ensures _ _ taken.stands in
    let now_placed = placed (field c.loop-field.field-index) c.loop-field.field-index (ranges c.loop-field.region) (ranges c.with-region.result) c.in_ok-range.field-0
    (field_nth c.loop-field.field-index c.loop-field-test.true) refl (range_sound (field c.loop-field.field-index) _ _ _ read) c.with-region.ensures in
    c.loop-field.invariant
    ∙ ap (λ ws. before so_far (ranges_from (drop c.loop-field.field-index fields) c.loop-field.words.column ws)) taken.words_are
    ∙ ranges_more (field c.loop-field.field-index) c.loop-field.field-index (field_nth c.loop-field.field-index c.loop-field-test.true) c.loop-field.words.column _ _ _ _ so_far read taken.moved
    ∙ ap (λ rs. before rs (ranges_from (drop (c.loop-field.field-index + 1) fields) c.next.new.self.column (left c.next.new.self.words))) (sym now_placed)

pub returns : goal.returns
returns c =
    let rs = ranges c.loop-field.region in
    sym (ap as_region (c.loop-field.invariant
    ∙ ap (before (take c.loop-field.field-index rs)) (ranges_end c.loop-field.field-index _ _ c.loop-field-test.false)
    ∙ ap Ok (append-nil (take c.loop-field.field-index rs) ∙ take_all c.loop-field.field-index rs c.loop-field-test.false)))

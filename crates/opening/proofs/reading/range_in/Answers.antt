use Rattle.std.proofs.Common.{◌≡◌, ℕ, ◌+◌, ◌-◌, List, get_or, take, drop, sym, ap, ◌∙◌, ap₂, arith}
use Rattle.packet.specs.declared.range.Range.{Range}
use Rattle.packet.specs.declared.field.Field.{Field}
use Rattle.packet.proofs.Values.{place_few}
use Rattle.packet.specs.Packets.{place}
use Rattle.packet.specs.Regions.{range_at}
use Rattle.blocks.specs.Numbers.{number_of}
use Rattle.blocks.specs.Writing.{widths}
use Rattle.blocks.specs.Reading.{ranges_of, field_start}
use Rattle.blocks.proofs.Rows.{range_read}
use Rattle.opening.proofs.reading.range_in.Goals as goal

is_range : (row : List ℕ) (f : Field) (start width low high : ℕ) → start ≡ field_start widths (place f) → width ≡ get_or widths (place f) 0
    → low ≡ number_of (take width (drop start row)) → high ≡ number_of (take width (drop (start + width) row))
    → ◌≡◌ {A = Range ℕ} (record { low = low; high = high }) (range_at (ranges_of widths row) (place f))
is_range row f start width low high s w l h =
    let lows : low ≡ number_of (take (get_or widths (place f) 0) (drop (field_start widths (place f)) row)) = l ∙ ap₂ (λ a b. number_of (take b (drop a row))) s w in
    let highs : high ≡ number_of (take (get_or widths (place f) 0) (drop (field_start widths (place f) + get_or widths (place f) 0) row)) = h ∙ ap₂ (λ a b. number_of (take b (drop (a + b) row))) s w in
    (λ i. record { low = lows i; high = highs i }) ∙ sym (range_read widths row (place f) (place_few f))

-- a part from one place to another has their distance as its length
part : (row : List ℕ) (start width : ℕ) → number_of (take (start + width - start) (drop start row)) ≡ number_of (take width (drop start row))
part row start width = ap (λ n. number_of (take n (drop start row))) (omega arith)

pub returns-clause-value : goal.returns-clause-value
returns-clause-value c =
    let row = c.args.row.now in
    let start = c.start-low.result in
    let width = c.width.result in
    let again : c.width-2.result ≡ width = c.width-2.ensures ∙ sym c.width.ensures in
    is_range row c.args.field start width _ _ c.start-low.ensures c.width.ensures
    (c.number_of.ensures.value ∙ part row start width)
    (c.number_of-2.ensures.value ∙ part row (start + width) c.width-2.result ∙ ap (λ n. number_of (take n (drop (start + width) row))) again)

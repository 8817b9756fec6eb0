use Rattle.std.proofs.Common.{[], ◌∷◌, ◌++◌, get_or, string_bytes, sym, refl, ap, ◌∙◌}
use Rattle.std.proofs.lemmas.List.{append-nil, append_assoc}
use Rattle.packet.specs.Regions.{ranges}
use Rattle.packet.specs.declared.field.Field.TheVariants.{Source}
use Rattle.text.specs.Fields.{fields}
use Rattle.text.specs.Printing.{range_text}
use Rattle.text.proofs.Placed.{field_nth}
use Rattle.text.proofs.Appends.{ranges_text_more, ranges_text_end}
use Rattle.text.proofs.print.push_ranges.Goals as goal

pub loop-field-preserved : goal.loop-field-preserved
loop-field-preserved c =
    let so_far = c.loop-field.invariant.0 in
    let field = get_or fields c.loop-field.field-index Source in
    let text = range_text field c.range.result in (
      so_far ++ (32 ∷ text),
      c.in_ok-push_range.ensures ∙ ap (λ bs. bs ++ text) (c.in_ok-push_letter.ensures ∙ ap (λ bs. bs ++ (32 ∷ [])) c.loop-field.invariant.1) ∙ append_assoc _ (32 ∷ []) text ∙ append_assoc _ so_far (32 ∷ text),
      c.loop-field.invariant.2 ∙ ap (λ t. so_far ++ t) (ranges_text_more field c.loop-field.field-index (field_nth c.loop-field.field-index c.loop-field-test.true) (ranges c.args.region) c.range.result refl c.range.ensures) ∙ sym (append_assoc so_far (32 ∷ text) _),
    )

pub returns : goal.returns
returns c =
    let so_far = c.loop-field.invariant.0 in
    c.loop-field.invariant.1 ∙ ap (λ t. string_bytes c.args.out.now ++ t) (sym (c.loop-field.invariant.2 ∙ ap (λ t. so_far ++ t) (ranges_text_end c.loop-field.field-index _ c.loop-field-test.false) ∙ append-nil so_far))

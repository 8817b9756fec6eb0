use Rattle.std.proofs.Common.{◌++◌, string_bytes, sym, ap, ◌∙◌}
use Rattle.text.proofs.Appends.{appended_as, appended_joined, range_whole, range_single, range_double}
use Rattle.text.proofs.print.push_range.Goals as goal

pub returns-then-is_whole : goal.returns-then-is_whole
returns-then-is_whole c = appended_as c.push_letter.result _ _ _ _ (range_whole c.args.field c.args.range c.if-is_whole.ensures) c.push_letter.ensures

pub returns-then-range : goal.returns-then-range
returns-then-range c =
    c.in_ok-push_value.ensures ∙ ap (λ t. string_bytes c.args.out.now ++ t) (sym (range_single c.args.field c.args.range c.if-is_whole.ensures c.if-range.true))

pub returns : goal.returns
returns c =
    appended_joined c.push_value-2.result _ _ _ 45 _ _ _ _ c.in_ok-push_value.ensures c.in_ok-push_letter.ensures
    (range_double c.args.field c.args.range c.if-is_whole.ensures c.if-range.false) c.push_value-2.ensures

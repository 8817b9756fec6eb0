use Rattle.std.proofs.Common.{ℕ, List, ◌++◌, vec_items, sym, refl, ap, ◌∙◌}
use Rattle.std.proofs.lemmas.List.{append-nil}
use Rattle.std.proofs.lemmas.Slice.Zip.{either_empty_from_Zip}
use Rattle.packet.specs.Regions.{ranges}
use Rattle.blocks.specs.Writing.{widths, range_bytes}
use Rattle.pack.proofs.Bytes.{extended_on, range_all}
use Rattle.pack.proofs.writing.append_row.Goals as goal

pub returns : goal.returns
returns c =
    let none = either_empty_from_Zip _ c.loop-width.width-iterator _ refl c.in-None.ensures.steps in
    extended_on c.extend_from_slice.result (vec_items c.args.out.now) (range_bytes widths (ranges c.args.row.now.region)) _ _ _
    (sym (append-nil (vec_items c.loop-width.out)) ∙ ap (λ (x : List ℕ). vec_items c.loop-width.out ++ x) (sym (range_all _ _ none)) ∙ c.loop-width.invariant.0) c.extend_from_slice.ensures.items

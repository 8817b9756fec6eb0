use Rattle.std.proofs.Common.{◌-◌, take, drop, ap, ◌∙◌}
use Rattle.std.proofs.lemmas.List.{take_rest}
use Rattle.pack.proofs.Bytes.{four, last_bytes, extended}
use Rattle.pack.proofs.writing.append_number.Goals as goal

pub returns : goal.returns
returns c =
    let w = c.args.width in
    let n = c.args.value in
    extended c.extend_from_slice.result _ _ _ _
    (ap (λ bs. take (4 - (4 - w)) (drop (4 - w) bs)) c.to_be_bytes-bytes.ensures ∙ take_rest (four n) (4 - w) ∙ last_bytes w n c.requires)
    c.extend_from_slice.ensures.items

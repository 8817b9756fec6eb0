use Rattle.std.proofs.Common.{◌+◌, ◌*◌, ◌%◌, ap, ◌∙◌, take, drop, List, ℕ, arith}
use Rattle.opening.proofs.Chunks.{row_place}
use Rattle.opening.proofs.rows.Rows.row.Goals as goal

pub returns : goal.returns
returns c =
    let bytes = c.args.self.now.bytes.now in
    let i = c.args.index in
    c.places_in.ensures.rows (i % 18) (omega arith) ∙ ap (λ (b : List ℕ). take 28 (drop (4 + 28 * (i % 18)) b)) c.block_at-block.ensures ∙ row_place bytes i

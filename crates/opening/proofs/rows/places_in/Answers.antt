use Rattle.std.proofs.Common.{ap, ◌∙◌, get_or, length, ◌/◌, [], take, drop, arith}
use Rattle.opening.proofs.Chunks.{chunk_at, place_at}
use Rattle.opening.proofs.rows.places_in.Goals as goal

pub returns-clause-rows : goal.returns-clause-rows
returns-clause-rows c = λ j h.
    let rows = take 504 (drop 4 c.args.block.now) in
    ap (λ rs. get_or rs j []) c.as_chunks.ensures.front ∙ chunk_at 28 (length rows / 28) j rows (omega (arith, c.as_chunks.ensures.front_len)) ∙ place_at j c.args.block.now h

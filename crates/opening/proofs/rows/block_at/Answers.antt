use Rattle.std.proofs.Common.{ap, ◌∙◌, get_or, length, ◌/◌, []}
use Rattle.opening.proofs.Chunks.{chunk_at}
use Rattle.opening.proofs.rows.block_at.Goals as goal

pub returns : goal.returns
returns c = ap (λ bs. get_or bs c.args.number []) c.as_chunks.ensures.front ∙ chunk_at 512 (length c.args.bytes.now / 512) c.args.number c.args.bytes.now c.requires

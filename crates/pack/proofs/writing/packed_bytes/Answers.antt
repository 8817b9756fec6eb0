use Rattle.std.proofs.Common.{ℕ, ◌*◌, min, List, ◌++◌, length, drop, vec_items, sym, ap, ◌∙◌, arith}
use Rattle.std.specs.Slice.Iter.{chunks_rest, chunks_size}
use Rattle.std.specs.Iterator.Adapters.{enumerate_source, enumerate_count}
use Rattle.std.proofs.lemmas.List.{length-drop}
use Rattle.table.specs.Rows.{view}
use Rattle.blocks.specs.Writing.{block, first_blocks}
use Rattle.pack.proofs.Blocks.{block_more}
use Rattle.pack.proofs.writing.packed_bytes.Goals as goal

pub loop-number-init : goal.loop-number-init
unfolding first_blocks
loop-number-init c =
    let rows = c.args.rows.now in
    let start = ap enumerate_count c.into_iter-number-iterator.ensures.into_iter_gives ∙ c.enumerate-number-items.ensures.count in
    let chunks = ap enumerate_source c.into_iter-number-iterator.ensures.into_iter_gives ∙ c.enumerate-number-items.ensures.source in (
      c.new-bytes.ensures.items ∙ sym (ap (first_blocks c.args.kind (view rows)) start),
      ap chunks_rest chunks ∙ c.chunks.ensures.rest ∙ sym (ap (λ n. drop (18 * n) rows) start),
      ap chunks_size chunks ∙ c.chunks.ensures.size,
      omega (arith, start),
    )

pub loop-number-preserved : goal.loop-number-preserved
loop-number-preserved c =
    let kind = c.args.kind in
    let rows = c.args.rows.now in
    let n = enumerate_count c.loop-number.number-iterator in
    let left = chunks_rest (enumerate_source c.loop-number.number-iterator) in
    let inv = c.loop-number.invariant in
    let step = c.in-Some.ensures.steps in
    let two = block_more kind rows n left c.in-Some.part.now _ _ (vec_items c.in_ok-block.block) _ inv.1 step.0.1.0 (step.0.1.1 ∙ ap (λ k. min k (length left)) inv.2) inv.0
    (c.in_ok-block.ensures ∙ ap (λ m. block kind m (view c.in-Some.part.now)) step.1)
    (c.in_ok-extend_from_slice.ensures.items ∙ ap (λ (x : List ℕ). vec_items c.loop-number.bytes ++ x) c.deref.ensures.value) in (
      two.0 ∙ sym (ap (first_blocks kind (view rows)) step.2),
      two.1 ∙ sym (ap (λ m. drop (18 * m) rows) step.2),
      step.0.0 ∙ inv.2,
      omega (arith, step.2, step.0.1.2, ap length inv.1, length-drop (18 * n) rows),
    )

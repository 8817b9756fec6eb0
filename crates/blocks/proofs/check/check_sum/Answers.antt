use Rattle.std.proofs.Common.{◌+◌, ◌*◌, ◌≤◌, length, take, arith, ap, ◌∙◌}
use Rattle.std.proofs.lemmas.List.{length-take, take_all, take_min}
use Rattle.blocks.specs.Writing.{check_sum}
use Rattle.blocks.proofs.Digits.{bytes_take, check_below, check_more}
use Rattle.blocks.proofs.check.check_sum.Goals as goal

pub overflow_add-sum-in-loop-index : goal.overflow_add-sum-in-loop-index
overflow_add-sum-in-loop-index c =
    let block = c.args.block.now in
    let body = take c.min.result block in
    let n = c.loop-index.index + 1 in
    let short : length (take n body) ≤ 508 = omega (arith, length-take n body, length-take c.min.result block, c.min.ensures) in
    omega (arith, check_below (take n body) short (bytes_take n body (bytes_take c.min.result block (λ k l. omega (arith, c.type_inv.block k)))), check_more body c.loop-index.index c.loop-index-test.true, c.loop-index.invariant, ap (λ b. b * n) c.from.ensures)

pub loop-index-preserved : goal.loop-index-preserved
loop-index-preserved c = let body = take c.min.result c.args.block.now in
    omega (arith, check_more body c.loop-index.index c.loop-index-test.true, c.loop-index.invariant, ap (λ b. b * (c.loop-index.index + 1)) c.from.ensures)

pub returns : goal.returns
returns c =
    let body = take c.min.result c.args.block.now in
    c.loop-index.invariant ∙ ap check_sum (take_all c.loop-index.index body c.loop-index-test.false ∙ ap (λ n. take n c.args.block.now) c.min.ensures ∙ take_min 508 c.args.block.now)

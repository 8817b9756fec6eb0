use Rattle.std.proofs.Common.{ℕ, List, ◌++◌, take, vec_items, vec_len, ap, ◌∙◌, arith}
use Rattle.std.specs.List.{flat_map}
use Rattle.std.proofs.lemmas.List.{take_all}
use Rattle.table.specs.declared.row.Row.{Row}
use Rattle.table.specs.Rows.{view}
use Rattle.blocks.specs.Writing.{row_bytes, check_sum}
use Rattle.pack.proofs.Blocks.{heading, body_written, block_written}
use Rattle.pack.proofs.writing.block_bytes.Goals as goal

pub returns : goal.returns
returns c =
    let kind = c.args.kind in
    let number = c.args.number in
    let rows = c.args.rows.now in
    let all = c.loop-row.invariant ∙ ap (λ (x : List Row). heading kind number rows ++ flat_map (row_bytes kind) (view x)) (take_all c.loop-row.row-index rows c.loop-row-test.false) in
    let body = body_written kind number rows (vec_items c.loop-row.bytes) _ (vec_len c.loop-row.bytes) c.requires all c.loop-row.bytes.ok.0 c.in_ok-resize.ensures.items in
    let all_of_it = take_all 508 (vec_items c.resize.new.self) (omega (arith, c.in_ok-resize.ensures.len, c.resize.new.self.ok.0)) in
    block_written kind number rows _ _ c.check_sum-check.result body (c.check_sum-check.ensures ∙ ap (λ (b : List ℕ). check_sum (take 508 b)) c.deref.ensures.value ∙ ap check_sum all_of_it) c.in_ok-append_number-3.ensures

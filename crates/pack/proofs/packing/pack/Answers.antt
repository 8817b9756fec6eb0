use Rattle.std.proofs.Common.{length, vec_items, arith}
use Rattle.pack.proofs.Room.{within}
use Rattle.pack.proofs.packing.pack.Goals as goal

pub slice_bounds-copy_from_slice-end : goal.slice_bounds-copy_from_slice-end
slice_bounds-copy_from_slice-end g c =
    let fits = within c.NUMBER.result c.deref.result.now (vec_items c.in_ok-written.written) c.len.result c.div_ceil-blocks.result (length c.args.bytes.now) c.in_ok-written.ensures
    (omega (arith, c.len.ensures, c.deref.ensures.len)) c.div_ceil-blocks.ensures c.if-blocks-bytes.false in
    omega (arith, fits, c.len-2.ensures, c.in_ok-written.written.ok.0)

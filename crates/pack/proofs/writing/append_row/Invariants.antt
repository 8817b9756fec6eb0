use Rattle.std.proofs.Common.{◌≡◌, ◌++◌, vec_items}
use Rattle.std.specs.Slice.Iter.{iter_rest}
use Rattle.std.specs.Iterator.Adapters.{zip_first, zip_second}
use Rattle.std.specs.Int.Digits.{AllBelowBase}
use Rattle.packet.specs.Regions.{ranges}
use Rattle.blocks.specs.Writing.{widths, range_bytes}
use Rattle.pack.proofs.writing.append_row.Given as goal

-- with the fields that are left all ranges are written, and no field that is left takes more than four bytes
abbrev pub invariant-loop-width : goal.invariant-loop-width
invariant-loop-width l =
    (vec_items l.out ++ range_bytes (iter_rest (zip_first l.width-iterator)) (iter_rest (zip_second l.width-iterator)) ≡ vec_items l.initial.out ++ range_bytes widths (ranges l.row.region))
    × AllBelowBase 5 (iter_rest (zip_first l.width-iterator))

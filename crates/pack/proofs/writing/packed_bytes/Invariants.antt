use Rattle.std.proofs.Common.{◌≡◌, ◌+◌, ◌*◌, ◌<◌, length, drop, vec_items}
use Rattle.std.specs.Slice.Iter.{chunks_rest, chunks_size}
use Rattle.std.specs.Iterator.Adapters.{enumerate_source, enumerate_count}
use Rattle.table.specs.Rows.{view}
use Rattle.blocks.specs.Writing.{first_blocks}
use Rattle.pack.proofs.writing.packed_bytes.Given as goal

-- the first blocks are written, the rows behind them are left, and no block was empty
abbrev pub invariant-loop-number : goal.invariant-loop-number
invariant-loop-number l =
    (vec_items l.bytes ≡ first_blocks l.kind (view l.rows) (enumerate_count l.number-iterator))
    × (chunks_rest (enumerate_source l.number-iterator) ≡ drop (18 * enumerate_count l.number-iterator) l.rows)
    × (chunks_size (enumerate_source l.number-iterator) ≡ 18)
    × (18 * enumerate_count l.number-iterator < length l.rows + 18)

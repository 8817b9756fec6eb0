-- That the blocks fit into the bytes. Assumes nothing.
use Rattle.std.proofs.Common.{◌≡◌, ℕ, ◌+◌, ◌/◌, ◌%◌, ◌≤◌, min, List, length, ap, ◌∙◌, arith}
use Rattle.std.proofs.lemmas.List.{length-map}
use Rattle.table.specs.declared.row.Row.{Row}
use Rattle.table.specs.Rows.{plain, view}
use Rattle.blocks.specs.Writing.{packed, block_count}
use Rattle.pack.proofs.Blocks.{length-blocks}

-- the blocks of n rows, counted by what is left after the full ones
counted : (n blocks : ℕ) → blocks ≡ n / 18 + min 1 (n % 18) → blocks ≡ block_count n
counted n blocks e = omega arith

-- then the packed form is no longer than the bytes
pub within : (kind : ℕ) (rows : List Row) (written : List ℕ) (n blocks size : ℕ) → written ≡ packed kind (view rows) → n ≡ length rows → blocks ≡ n / 18 + min 1 (n % 18) → blocks ≤ size / 512 → length written ≤ size
within kind rows written n blocks size w l e h =
    let long = ap length w ∙ length-blocks kind rows (block_count (length (view rows))) in
    let same = ap block_count (length-map rows plain) in
    let is = ap block_count l in
    omega (arith, long, same, is, counted n blocks e)

-- Chunks of one length, by their places. Assumes nothing.
use Rattle.std.proofs.Common.{◌≡◌, ℕ, zero, suc, ◌+◌, ◌*◌, ◌/◌, ◌%◌, ◌<◌, List, [], get_or, take, drop, sym, ap, ◌∙◌, mul-zero, mul-suc, arith}
use Rattle.std.specs.Simd.{first_chunks}
use Rattle.std.proofs.lemmas.List.{drop-drop}
use Rattle.blocks.specs.Reading.{block_at, row_slice}
use Rattle.blocks.proofs.Pieces.{part_of_part}

-- the chunk at a place
pub chunk_at : {X : Type 0} (n k i : ℕ) (xs : List X) → i < k → get_or (first_chunks n k xs) i [] ≡ take n (drop (n * i) xs)
chunk_at n zero i xs h = absurd (omega arith)
chunk_at n (suc k) zero xs h = ap (λ m. take n (drop m xs)) (sym (mul-zero n))
chunk_at n (suc k) (suc i) xs h = chunk_at n k i (drop n xs) (omega arith) ∙ ap (take n) (drop-drop (n * i) n xs ∙ ap (λ m. drop m xs) (omega (arith, mul-suc n i)))

-- the row at a place in a block
pub place_at : (j : ℕ) (block : List ℕ) → j < 18 → take 28 (drop (28 * j) (take 504 (drop 4 block))) ≡ take 28 (drop (4 + 28 * j) block)
place_at j block h = part_of_part 28 (28 * j) 504 4 block (omega arith)

-- and at a place in all bytes
pub row_place : (bytes : List ℕ) (i : ℕ) → take 28 (drop (4 + 28 * (i % 18)) (block_at bytes (i / 18))) ≡ row_slice bytes i
row_place bytes i = part_of_part 28 (4 + 28 * (i % 18)) 512 (512 * (i / 18)) bytes (omega arith)

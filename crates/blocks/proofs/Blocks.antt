-- Blocks: the parts of one, and the blocks of a table. Assumes nothing.
use Rattle.std.proofs.Common.{◌≡◌, ℕ, zero, suc, ◌+◌, ◌-◌, ◌*◌, ◌<◌, ◌≤◌, min, true, List, [], ◌++◌, length, get_or, take, drop, replicate, sym, refl, ap, ◌∙◌, subst, ap₂, inl, inr, arith, take-add}
use Rattle.std.specs.List.{flat_map}
use Rattle.std.proofs.lemmas.List.{append_assoc, length-append, length-replicate, length-take, length-take-le, length-drop, take_all, take_at, drop_at, drop-drop, get_or-replicate, get_or-take, get_or-drop, ext_get_or}
use Rattle.std.proofs.lemmas.Bool.{cases_lt}
use Rattle.packet.specs.Packets.{tops}
use Rattle.theory.specs.Tables.{Row}
use Rattle.theory.specs.Steps.{fits}
use Rattle.theory.specs.Neighbours.{ranges_at}
use Rattle.blocks.specs.Numbers.{big_endian, number_of, Bytes}
use Rattle.blocks.specs.Writing.{row_bytes, check_sum, block_body, block, rows_of_block, first_blocks}
use Rattle.blocks.specs.Reading.{block_at, count_in, number_in, check_in, unused_in}
use Rattle.blocks.proofs.Digits.{length-big_endian, bytes_big_endian, bytes_append, bytes_joined, bytes_zeros, bytes_take, bytes_drop, read_written, written_read, check_below}
use Rattle.blocks.proofs.Rows.{row_read, bytes_row}
use Rattle.blocks.proofs.Pieces.{append_same, part_of_first, part_second, length-joined, piece, joined_parts}

-- what stands where in five parts, as a block has them: count of rows, number of the block, rows, unused bytes, check
record Parts (a b c d e bytes : List ℕ) (m : ℕ) : Type 0 where
  size : length bytes ≡ 512
  count : take 2 bytes ≡ a
  number : take 2 (drop 2 bytes) ≡ b
  body : take 508 bytes ≡ a ++ b ++ c ++ d
  check : take 4 (drop 508 bytes) ≡ e
  unused : take (504 - m) (drop (4 + m) bytes) ≡ d
  rows : (n p : ℕ) → p + n ≤ m → take n (drop (4 + p) bytes) ≡ take n (drop p c)

parts : (a b c d e : List ℕ) (m : ℕ) → length a ≡ 2 → length b ≡ 2 → length c ≡ m → length d ≡ 504 - m → length e ≡ 4 → m ≤ 504 → Parts a b c d e (a ++ b ++ c ++ d ++ e) m
parts a b c d e m la lb lc ld le room = record {
  size = simp length-append (omega arith);
  count = simp append_assoc (take_at a (b ++ (c ++ (d ++ e))) 2 la);
  number = simp append_assoc (ap (take 2) (drop_at a (b ++ (c ++ (d ++ e))) 2 la) ∙ take_at b (c ++ (d ++ e)) 2 lb);
  body = take_at (a ++ b ++ c ++ d) e 508 four;
  check = part_second 4 508 (a ++ b ++ c ++ d) e four le;
  unused = part_of_first (504 - m) (4 + m) (a ++ b ++ c ++ d) e (omega (arith, four)) ∙ part_second (504 - m) (4 + m) (a ++ b ++ c) d (simp length-append (omega arith)) ld;
  rows = λ n p h.
      part_of_first n (4 + p) (a ++ b ++ c ++ d) e (omega (arith, four))
      ∙ part_of_first n (4 + p) (a ++ b ++ c) d (simp length-append (omega arith))
      ∙ ap (take n) (sym (drop-drop p 4 (a ++ b ++ c)) ∙ ap (drop p) (drop_at (a ++ b) c 4 (simp length-append (omega arith))));
}
  where
    four : length (a ++ b ++ c ++ d) ≡ 508
    four = simp length-append (omega arith)

-- the default of a place in a list of rows
abbrev pub none : Row
none = record { ranges = []; decision = 0 }

-- a block is bytes
bytes_body : (kind number : ℕ) (rows : List Row) → kind < 256 → ((j : ℕ) → j < length rows → (get_or rows j none).decision < 256) → Bytes (block_body kind number rows)
bytes_body kind number rows k d =
    let count = big_endian 2 (length rows) in
    let place = big_endian 2 number in
    let front = bytes_append count place (bytes_big_endian 2 (length rows)) (bytes_big_endian 2 number) in
    let all = bytes_joined (row_bytes kind) none rows (λ j h. bytes_row kind (get_or rows j none) k (d j h)) in
    bytes_append (count ++ place ++ flat_map (row_bytes kind) rows) (replicate (504 - 28 * length rows) 0) (bytes_append (count ++ place) (flat_map (row_bytes kind) rows) front all) (bytes_zeros (504 - 28 * length rows))

-- one block of at most 18 rows that fit
module _ (kind number : ℕ) (rows : List Row) (few : length rows ≤ 18) (fit : (j : ℕ) → j < length rows → fits tops (ranges_at rows j) ≡ true) where
  even : (j : ℕ) → j < length rows → length (row_bytes kind (get_or rows j none)) ≡ 28
  even j h = (row_read kind (get_or rows j none) (fit j h)).2

  block_parts : Parts (big_endian 2 (length rows)) (big_endian 2 number) (flat_map (row_bytes kind) rows) (replicate (504 - 28 * length rows) 0)
      (big_endian 4 (check_sum (block_body kind number rows))) (block kind number rows) (28 * length rows)
  block_parts = parts _ _ _ _ _ (28 * length rows)
      (length-big_endian 2 (length rows)) (length-big_endian 2 number) (length-joined (row_bytes kind) 28 none rows even) (length-replicate (504 - 28 * length rows) 0)
      (length-big_endian 4 (check_sum (block_body kind number rows))) (omega arith)

  -- a block is 512 bytes
  pub length-block : length (block kind number rows) ≡ 512
  length-block = block_parts.size

  -- what it says of itself: its count of rows
  pub count_block : count_in (block kind number rows) ≡ length rows
  count_block = ap number_of block_parts.count ∙ read_written 2 (length rows) (omega arith)

  -- its number
  pub number_block : number < 65536 → number_in (block kind number rows) ≡ number
  number_block h = ap number_of block_parts.number ∙ read_written 2 number h

  -- the bytes that its rows leave unused
  pub unused_block : unused_in (block kind number rows) ≡ replicate (504 - 28 * length rows) 0
  unused_block = ap (λ (n : ℕ). take (504 - 28 * n) (drop (4 + 28 * n) (block kind number rows))) count_block ∙ block_parts.unused

  -- the bytes of its row at a place
  pub row_block : (j : ℕ) → j < length rows → take 28 (drop (4 + 28 * j) (block kind number rows)) ≡ row_bytes kind (get_or rows j none)
  row_block j h = block_parts.rows 28 (28 * j) (omega arith) ∙ piece (row_bytes kind) 28 none rows j even h

  -- its check
  pub check_block : kind < 256 → ((j : ℕ) → j < length rows → (get_or rows j none).decision < 256) → check_in (block kind number rows) ≡ check_sum (take 508 (block kind number rows))
  check_block k d =
      let body = block_body kind number rows in
      let n : length body ≡ 508 = ap length (sym block_parts.body) ∙ length-take-le 508 (block kind number rows) (omega (arith, length-block)) in
      ap number_of block_parts.check ∙ read_written 4 (check_sum body) (check_below body (omega arith) (bytes_body kind number rows k d)) ∙ ap check_sum (sym block_parts.body)

zeros : (xs : List ℕ) (n : ℕ) → length xs ≡ n → ((j : ℕ) → j < length xs → get_or xs j 0 ≡ 0) → replicate n 0 ≡ xs
zeros xs n e h = ext_get_or 0 (replicate n 0) xs (length-replicate n 0 ∙ sym e) (λ j l.
    let m : j < n = omega (arith, length-replicate {A = ℕ} n 0) in
    get_or-replicate n j 0 0 m ∙ sym (h j (omega arith)))

-- 512 bytes that say what the rows do are the block of the rows
pub block_from : (kind number : ℕ) (rows : List Row) (bytes : List ℕ) → length rows ≤ 18 → length bytes ≡ 512 → Bytes bytes
    → count_in bytes ≡ length rows → number_in bytes ≡ number → check_in bytes ≡ check_sum (take 508 bytes)
    → ((j : ℕ) → j < length rows → row_bytes kind (get_or rows j none) ≡ take 28 (drop (4 + 28 * j) bytes))
    → ((j : ℕ) → j < length (unused_in bytes) → get_or (unused_in bytes) j 0 ≡ 0)
    → block kind number rows ≡ bytes
block_from kind number rows bytes few size h count numbered check each unused =
    append_same body (ap (λ (x : List ℕ). big_endian 4 (check_sum x)) body ∙ ap (big_endian 4) (sym check) ∙ again 4 508 (omega arith))
    ∙ sym (take-add 508 4 bytes) ∙ take_all 512 bytes (omega arith)
  where
    -- a number of the block, written again
    again : (w p : ℕ) → p + w ≤ 512 → big_endian w (number_of (take w (drop p bytes))) ≡ take w (drop p bytes)
    again w p l = written_read w (take w (drop p bytes)) (length-take-le w (drop p bytes) (omega (arith, length-drop p bytes))) (bytes_take w (drop p bytes) (bytes_drop p bytes h))

    rows_again : flat_map (row_bytes kind) rows ≡ take (28 * length rows) (drop 4 bytes)
    rows_again = joined_parts (row_bytes kind) 28 none rows (drop 4 bytes) (λ j l. each j l ∙ ap (take 28) (sym (drop-drop (28 * j) 4 bytes)))

    unused_again : replicate (504 - 28 * length rows) 0 ≡ take (504 - 28 * length rows) (drop (4 + 28 * length rows) bytes)
    unused_again = ap (λ (n : ℕ). replicate (504 - 28 * n) 0) (sym count)
        ∙ zeros (unused_in bytes) (504 - 28 * count_in bytes) (length-take-le (504 - 28 * count_in bytes) (drop (4 + 28 * count_in bytes) bytes) (omega (arith, length-drop (4 + 28 * count_in bytes) bytes))) unused
        ∙ ap (λ (n : ℕ). take (504 - 28 * n) (drop (4 + 28 * n) bytes)) count

    body : block_body kind number rows ≡ take 508 bytes
    body =
        let head = append_same (ap (big_endian 2) (sym count) ∙ again 2 0 (omega arith)) (ap (big_endian 2) (sym numbered) ∙ again 2 2 (omega arith)) ∙ sym (take-add 2 2 bytes) in
        let front = append_same head rows_again ∙ sym (take-add 4 (28 * length rows) bytes) in
        let e : 4 + 28 * length rows + (504 - 28 * length rows) ≡ 508 = omega arith in
        append_same front unused_again ∙ sym (take-add (4 + 28 * length rows) (504 - 28 * length rows) bytes) ∙ ap (λ (n : ℕ). take n bytes) e

-- how many rows the block with a number has
pub length_of_block : (rows : List Row) (k : ℕ) → length (rows_of_block rows k) ≡ min 18 (length rows - 18 * k)
length_of_block rows k = length-take 18 (drop (18 * k) rows) ∙ ap (min 18) (length-drop (18 * k) rows)

-- at most 18
pub few_of_block : (rows : List Row) (k : ℕ) → length (rows_of_block rows k) ≤ 18
few_of_block rows k = omega (arith, length_of_block rows k)

-- and which
pub in_block : (rows : List Row) (k j : ℕ) → j < length (rows_of_block rows k) → (18 * k + j < length rows) × (get_or (rows_of_block rows k) j none ≡ get_or rows (18 * k + j) none)
in_block rows k j h =
    let n = length_of_block rows k in
    (omega arith, get_or-take 18 (drop (18 * k) rows) j none (omega arith) ∙ get_or-drop (18 * k) rows j none)

-- what holds of all rows holds of a block's
pub each_of_block : (P : Row → Type 0) (rows : List Row) → ((i : ℕ) → i < length rows → P (get_or rows i none)) → (k j : ℕ) → j < length (rows_of_block rows k) → P (get_or (rows_of_block rows k) j none)
each_of_block P rows h k j l = let u = in_block rows k j l in subst P (sym u.1) (h (18 * k + j) u.0)

-- the blocks of rows that fit
module _ (kind : ℕ) (rows : List Row) (fit : (i : ℕ) → i < length rows → fits tops (ranges_at rows i) ≡ true) where
  length_of : (k : ℕ) → length (block kind k (rows_of_block rows k)) ≡ 512
  length_of k = length-block kind k (rows_of_block rows k) (few_of_block rows k) (each_of_block (λ (r : Row). fits tops r.ranges ≡ true) rows fit k)

  -- the first blocks are 512 bytes each
  pub length-first : (n : ℕ) → length (first_blocks kind rows n) ≡ 512 * n
  unfolding first_blocks
  length-first zero = refl
  length-first (suc n) =
      length-append (first_blocks kind rows n) (block kind n (rows_of_block rows n))
      ∙ ap₂ (λ (x y : ℕ). x + y) (length-first n) (length_of n)
      ∙ omega arith

  -- and each stands at its place
  pub block_first : (n k : ℕ) → k < n → block_at (first_blocks kind rows n) k ≡ block kind k (rows_of_block rows k)
  unfolding first_blocks
  block_first zero k h = absurd (omega arith)
  block_first (suc n) k h = elim (cases_lt k n) [
    | inl l ↦ part_of_first 512 (512 * k) (first_blocks kind rows n) (block kind n (rows_of_block rows n)) (omega (arith, length-first n)) ∙ block_first n k l
    | inr l ↦
        let e : n ≡ k = omega arith in
        ap (λ (x : ℕ). take 512 (drop (512 * k) (first_blocks kind rows x ++ block kind x (rows_of_block rows x)))) e
        ∙ part_second 512 (512 * k) (first_blocks kind rows k) (block kind k (rows_of_block rows k)) (length-first k) (length_of k)
  ]

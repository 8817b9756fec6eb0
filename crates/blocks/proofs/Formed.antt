-- Well-formed bytes are the packed form of the rows that they hold, and the packed form of rows that fit is well-formed. Assumes nothing.
use Rattle.std.proofs.Common.{◌≡◌, ℕ, zero, suc, ◌+◌, ◌-◌, ◌*◌, ◌/◌, ◌%◌, ◌<◌, ◌≤◌, true, List, [], length, get_or, take, drop, replicate, sym, refl, ap, ◌∙◌, subst, ap₂, inl, inr, mod-lt, zero-add, arith, take-add}
use native.Mathlib.Nat.{mul-div_cancel_left}
use Rattle.std.proofs.lemmas.List.{length-take-le, length-drop, length-replicate, take_all, get_or-replicate, ext_get_or}
use Rattle.std.proofs.lemmas.List.FromFn.{length-map-range_with_len, get_or-map-range_with_len}
use Rattle.std.proofs.lemmas.Bool.{cases_lt}
use Rattle.packet.specs.Packets.{tops}
use Rattle.theory.specs.Tables.{Row}
use Rattle.theory.specs.Steps.{fits}
use Rattle.theory.specs.Neighbours.{ranges_at}
use Rattle.blocks.specs.Numbers.{Bytes}
use Rattle.blocks.specs.Writing.{row_bytes, check_sum, block, rows_of_block, first_blocks, block_count, packed}
use Rattle.blocks.specs.Reading.{row_of, kind_of, block_at, count_in, number_in, check_in, unused_in, row_slice, blocks_in, row_count, rows_in, Formed}
use Rattle.blocks.proofs.Digits.{bytes_take, bytes_drop}
use Rattle.blocks.proofs.Rows.{row_read, row_written}
use Rattle.blocks.proofs.Pieces.{append_same, part_of_part}
use Rattle.blocks.proofs.Blocks.{none, count_block, number_block, unused_block, row_block, check_block, block_from, length_of_block, few_of_block, in_block, each_of_block, length-first, block_first}

-- the rows that bytes hold are as many as the blocks say
pub length-rows : (bytes : List ℕ) → length (rows_in bytes) ≡ row_count bytes
unfolding rows_in
length-rows bytes = length-map-range_with_len (λ i. row_of (row_slice bytes i)) 0 (row_count bytes)

-- the row at a place, out of its bytes
pub row_at : (bytes : List ℕ) (i : ℕ) (d : Row) → i < row_count bytes → get_or (rows_in bytes) i d ≡ row_of (row_slice bytes i)
unfolding rows_in
row_at bytes i d h = get_or-map-range_with_len (λ i. row_of (row_slice bytes i)) 0 (row_count bytes) i i d h (zero-add i)

-- the bytes of a row, out of its block
pub slice_in_block : (bytes : List ℕ) (i : ℕ) → row_slice bytes i ≡ take 28 (drop (4 + 28 * (i % 18)) (block_at bytes (i / 18)))
slice_in_block bytes i = sym (part_of_part 28 (4 + 28 * (i % 18)) 512 (512 * (i / 18)) bytes (omega (arith, mod-lt i {m = 18} (omega arith))))

module _ (kind : ℕ) (bytes : List ℕ) (formed : Formed kind bytes) (h : Bytes bytes) where
  -- in each block there are as many rows as it says
  counted : (k : ℕ) → k < blocks_in bytes → count_in (block_at bytes k) ≡ length (rows_of_block (rows_in bytes) k)
  counted k l =
      let n = length_of_block (rows_in bytes) k in
      let r = length-rows bytes in
      elim (cases_lt (suc k) (blocks_in bytes)) [
        | inl b ↦ omega (arith, formed.full k b)
        | inr b ↦
            let e : k ≡ blocks_in bytes - 1 = omega arith in
            let c = ap (λ (x : ℕ). count_in (block_at bytes x)) e in
            omega arith
      ]

  length-block_at : (k : ℕ) → k < blocks_in bytes → length (block_at bytes k) ≡ 512
  length-block_at k l = length-take-le 512 (drop (512 * k) bytes) (omega (arith, formed.whole, length-drop (512 * k) bytes))

  bytes_block_at : (k : ℕ) → Bytes (block_at bytes k)
  bytes_block_at k = bytes_take 512 (drop (512 * k) bytes) (bytes_drop (512 * k) bytes h)

  -- a row of a block is written as it stands there
  row_again : (k j : ℕ) → k < blocks_in bytes → j < length (rows_of_block (rows_in bytes) k)
      → row_bytes kind (get_or (rows_of_block (rows_in bytes) k) j none) ≡ take 28 (drop (4 + 28 * j) (block_at bytes k))
  row_again k j l m =
      let i : ℕ = 18 * k + j in
      let u = in_block (rows_in bytes) k j m in
      let r : i < row_count bytes = omega (arith, u.0, length-rows bytes) in
      let t : j < 18 = omega (arith, length_of_block (rows_in bytes) k) in
      let q : i / 18 ≡ k = omega arith in
      let p : i % 18 ≡ j = omega arith in
      let s = slice_in_block bytes i ∙ ap₂ (λ (x y : ℕ). take 28 (drop (4 + 28 * x) (block_at bytes y))) p q in
      let n = ap length s ∙ length-take-le 28 (drop (4 + 28 * j) (block_at bytes k)) (omega (arith, length-drop (4 + 28 * j) (block_at bytes k), length-block_at k l)) in
      let b = subst Bytes (sym s) (bytes_take 28 (drop (4 + 28 * j) (block_at bytes k)) (bytes_drop (4 + 28 * j) (block_at bytes k) (bytes_block_at k))) in
      ap₂ (λ (x : ℕ) (row : Row). row_bytes x row) (sym (formed.kinds i r)) (u.1 ∙ row_at bytes i none r) ∙ row_written (row_slice bytes i) n b ∙ s

  block_again : (k : ℕ) → k < blocks_in bytes → block kind k (rows_of_block (rows_in bytes) k) ≡ block_at bytes k
  block_again k l = block_from kind k (rows_of_block (rows_in bytes) k) (block_at bytes k)
      (few_of_block (rows_in bytes) k) (length-block_at k l) (bytes_block_at k)
      (counted k l) (formed.numbers k l) (formed.checks k l) (λ j m. row_again k j l m) (λ j m. formed.unused k j l m)

  first_again : (n : ℕ) → n ≤ blocks_in bytes → first_blocks kind (rows_in bytes) n ≡ take (512 * n) bytes
  unfolding first_blocks
  first_again zero l = refl
  first_again (suc n) l =
      let e : 512 * n + 512 ≡ 512 * suc n = omega arith in
      append_same (first_again n (omega arith)) (block_again n l) ∙ sym (take-add (512 * n) 512 bytes) ∙ ap (λ (x : ℕ). take x bytes) e

  blocks_again : block_count (length (rows_in bytes)) ≡ blocks_in bytes
  blocks_again = omega (arith, length-rows bytes, formed.some, formed.last_some, formed.last_most)

-- well-formed bytes are the packed form of the rows that they hold
pub formed_packed : (kind : ℕ) (bytes : List ℕ) → Formed kind bytes → Bytes bytes → packed kind (rows_in bytes) ≡ bytes
formed_packed kind bytes f h =
    ap (first_blocks kind (rows_in bytes)) (blocks_again kind bytes f h) ∙ first_again kind bytes f h (blocks_in bytes) (omega arith)
    ∙ take_all (512 * blocks_in bytes) bytes (omega (arith, f.whole))

-- each row fits, and its decision is a byte
abbrev pub AllFit : List Row → Type 0
AllFit rows = (i : ℕ) → i < length rows → (fits tops (ranges_at rows i) ≡ true) × ((get_or rows i (record { ranges = []; decision = 0 })).decision < 256)

-- the packed form is whole blocks
pub length-packed : (kind : ℕ) (rows : List Row) → AllFit rows → length (packed kind rows) ≡ 512 * block_count (length rows)
length-packed kind rows fit = length-first kind rows (λ i h. (fit i h).0) (block_count (length rows))

module _ (kind : ℕ) (rows : List Row) (small : kind < 256) (some : 1 ≤ length rows) (most : length rows ≤ 1152) (fit : AllFit rows) where
  fit_of : (k j : ℕ) → j < length (rows_of_block rows k) → fits tops (ranges_at (rows_of_block rows k) j) ≡ true
  fit_of = each_of_block (λ (r : Row). fits tops r.ranges ≡ true) rows (λ i h. (fit i h).0)

  decision_of : (k j : ℕ) → j < length (rows_of_block rows k) → (get_or (rows_of_block rows k) j none).decision < 256
  decision_of = each_of_block (λ (r : Row). r.decision < 256) rows (λ i h. (fit i h).1)

  blocks_of : blocks_in (packed kind rows) ≡ block_count (length rows)
  blocks_of = ap (λ (x : ℕ). x / 512) (length-packed kind rows fit) ∙ mul-div_cancel_left (block_count (length rows)) {n = 512} (omega arith)

  module _ (k : ℕ) (h : k < blocks_in (packed kind rows)) where
    block_of : block_at (packed kind rows) k ≡ block kind k (rows_of_block rows k)
    block_of = block_first kind rows (λ i l. (fit i l).0) (block_count (length rows)) k (omega (arith, blocks_of))

    count_of : count_in (block_at (packed kind rows) k) ≡ length (rows_of_block rows k)
    count_of = ap count_in block_of ∙ count_block kind k (rows_of_block rows k) (few_of_block rows k) (fit_of k)

    number_of_block : number_in (block_at (packed kind rows) k) ≡ k
    number_of_block = ap number_in block_of ∙ number_block kind k (rows_of_block rows k) (few_of_block rows k) (fit_of k) (omega (arith, blocks_of))

    check_of : check_in (block_at (packed kind rows) k) ≡ check_sum (take 508 (block_at (packed kind rows) k))
    check_of = subst (λ (b : List ℕ). check_in b ≡ check_sum (take 508 b)) (sym block_of) (check_block kind k (rows_of_block rows k) (few_of_block rows k) (fit_of k) small (decision_of k))

    unused_of : (j : ℕ) → j < length (unused_in (block_at (packed kind rows) k)) → get_or (unused_in (block_at (packed kind rows) k)) j 0 ≡ 0
    unused_of j l =
        let n = 504 - 28 * length (rows_of_block rows k) in
        let e : unused_in (block_at (packed kind rows) k) ≡ replicate n 0 = ap unused_in block_of ∙ unused_block kind k (rows_of_block rows k) (few_of_block rows k) (fit_of k) in
        ap (λ (x : List ℕ). get_or x j 0) e ∙ get_or-replicate n j 0 0 (omega (arith, ap length e, length-replicate {A = ℕ} n 0))

  count_all : row_count (packed kind rows) ≡ length rows
  count_all =
      let k = blocks_in (packed kind rows) - 1 in
      let l : k < blocks_in (packed kind rows) = omega (arith, blocks_of) in
      omega (arith, blocks_of, count_of k l, length_of_block rows k)

  slice_of : (i : ℕ) → i < length rows → row_slice (packed kind rows) i ≡ row_bytes kind (get_or rows i none)
  slice_of i h =
      let k = i / 18 in
      let j = i % 18 in
      let e : 18 * k + j ≡ i = omega arith in
      let l : k < blocks_in (packed kind rows) = omega (arith, blocks_of) in
      let m : j < length (rows_of_block rows k) = omega (arith, length_of_block rows k) in
      slice_in_block (packed kind rows) i ∙ ap (λ (b : List ℕ). take 28 (drop (4 + 28 * j) b)) (block_of k l) ∙ row_block kind k (rows_of_block rows k) (few_of_block rows k) (fit_of k) j m
      ∙ ap (row_bytes kind) ((in_block rows k j m).1 ∙ ap (λ (x : ℕ). get_or rows x none) e)

  read_of : (i : ℕ) → i < length rows → (row_of (row_slice (packed kind rows) i) ≡ get_or rows i none) × (kind_of (row_slice (packed kind rows) i) ≡ kind)
  read_of i h =
      let r = row_read kind (get_or rows i none) (fit i h).0 in
      (ap row_of (slice_of i h) ∙ r.0, ap kind_of (slice_of i h) ∙ r.1)

  formed_of : Formed kind (packed kind rows)
  formed_of = record {
    whole = length-packed kind rows fit ∙ ap (λ (x : ℕ). 512 * x) (sym blocks_of);
    some = omega (arith, blocks_of);
    checks = check_of;
    full = λ k h. omega (arith, blocks_of, count_of k (omega arith), length_of_block rows k);
    last_some = omega (arith, count_all, blocks_of);
    last_most = omega (arith, count_all, blocks_of);
    numbers = number_of_block;
    unused = λ k j h l. unused_of k h j l;
    kinds = λ i h. (read_of i (omega (arith, count_all))).1;
  }

  rows_of : rows_in (packed kind rows) ≡ rows
  rows_of = ext_get_or none (rows_in (packed kind rows)) rows (length-rows (packed kind rows) ∙ count_all) (λ i h.
      let n = length-rows (packed kind rows) in
      row_at (packed kind rows) i none (omega arith) ∙ (read_of i (omega (arith, count_all))).0)

-- the packed form of rows that fit is well-formed, and holds these rows
pub packed_formed : (kind : ℕ) (rows : List Row) → kind < 256 → 1 ≤ length rows → length rows ≤ 1152 → AllFit rows
    → Formed kind (packed kind rows) × (rows_in (packed kind rows) ≡ rows) × (row_count (packed kind rows) ≡ length rows) × (blocks_in (packed kind rows) ≡ block_count (length rows))
packed_formed kind rows small some most fit = (formed_of kind rows small some most fit, rows_of kind rows small some most fit, count_all kind rows small some most fit, blocks_of kind rows small some most fit)

-- Blocks, part by part, and how long they are. Assumes nothing.
use Rattle.std.proofs.Common.{◌≡◌, ℕ, zero, suc, ◌+◌, ◌-◌, ◌*◌, ◌<◌, ◌≤◌, min, ◌⊎◌, List, [], ◌∷◌, ◌++◌, length, take, drop, replicate, sym, refl, ap, ◌∙◌, ap₂, inl, inr, add-one, arith}
use Rattle.std.specs.List.{flat_map}
use Rattle.std.proofs.lemmas.List.{append-nil, length-append, length-map, length-take, length-replicate, take_all, take_at, take-map, drop_all, drop_at, drop-drop, drop-map, nil_from_length}
use Rattle.std.proofs.lemmas.Bool.{cases_lt}
use Rattle.table.specs.declared.row.Row.{Row}
use Rattle.table.specs.Rows.{plain, view}
use Rattle.blocks.specs.Numbers.{big_endian}
use Rattle.blocks.specs.Writing.{row_bytes, check_sum, block_body, block, rows_of_block, first_blocks}

-- rows take 28 bytes each
pub length-rows : (kind : ℕ) (rows : List Row) → length (flat_map (row_bytes kind) (view rows)) ≡ 28 * length rows
length-rows kind [] = refl
length-rows kind (r ∷ rows) =
    let row : length (row_bytes kind (plain r)) ≡ 28 = refl in
    omega (arith, length-append (row_bytes kind (plain r)) (flat_map (row_bytes kind) (view rows)), row, length-rows kind rows)

module _ (kind number : ℕ) (rows : List Row) where
  -- the count of rows and the number of the block
  abbrev pub heading : List ℕ
  heading = big_endian 2 (length rows) ++ big_endian 2 number

  -- all rows, and 0 up to byte 508: the block before its check
  pub body_written : (filled body : List ℕ) (n : ℕ) → length rows ≤ 18 → filled ≡ heading ++ flat_map (row_bytes kind) (view rows) → n ≡ length filled → body ≡ take 508 filled ++ replicate (508 - n) 0
      → body ≡ block_body kind number (view rows)
  body_written filled body n few f l b =
      let long : length filled ≡ 4 + 28 * length rows = ap length f ∙ length-append heading (flat_map (row_bytes kind) (view rows)) ∙ ap (λ k. 4 + k) (length-rows kind rows) in
      let m = length-map rows plain in
      let zeros : 508 - n ≡ 504 - 28 * length (view rows) = omega arith in
      b ∙ ap₂ (λ x k. x ++ replicate k 0) (take_all 508 filled (omega arith) ∙ f) zeros
      ∙ ap (λ k. big_endian 2 k ++ big_endian 2 number ++ flat_map (row_bytes kind) (view rows) ++ replicate (504 - 28 * length (view rows)) 0) (sym m)

  pub length-body : length rows ≤ 18 → length (block_body kind number (view rows)) ≡ 508
  length-body few =
      let head = big_endian 2 (length (view rows)) ++ big_endian 2 number in
      let all = flat_map (row_bytes kind) (view rows) in
      let zeros : List ℕ = replicate (504 - 28 * length (view rows)) 0 in
      omega (arith, length-append (head ++ all) zeros, length-append head all, length-rows kind rows, length-replicate {A = ℕ} (504 - 28 * length (view rows)) 0, length-map rows plain)

  pub length-block : length rows ≤ 18 → length (block kind number (view rows)) ≡ 512
  length-block few =
      let body = block_body kind number (view rows) in
      let tail : length (big_endian 4 (check_sum body)) ≡ 4 = refl in
      omega (arith, length-append body (big_endian 4 (check_sum body)), length-body few, tail)

  -- the check behind it
  pub block_written : (body after : List ℕ) (check : ℕ) → body ≡ block_body kind number (view rows) → check ≡ check_sum body → after ≡ body ++ big_endian 4 check → after ≡ block kind number (view rows)
  block_written body after check b k a = a ∙ ap₂ (λ x n. x ++ big_endian 4 n) b (k ∙ ap check_sum b)

-- at most 18 elements from the front, and the others
pub chunk_is : {X : Type 0} (xs x rest : List X) → xs ≡ x ++ rest → length x ≡ min 18 (length xs) → (x ≡ take 18 xs) × (rest ≡ drop 18 xs)
chunk_is xs x rest e n = at (cases_lt (length xs) 18)
  where
    total : length xs ≡ length x + length rest
    total = ap length e ∙ length-append x rest

    at : (length xs < 18) ⊎ (18 ≤ length xs) → (x ≡ take 18 xs) × (rest ≡ drop 18 xs)
    at (inl h) =
        let none = nil_from_length rest (omega (arith, n, total)) in
        let all = e ∙ ap (λ r. x ++ r) none ∙ append-nil x in
        (sym all ∙ sym (take_all 18 xs (omega arith)), none ∙ sym (drop_all 18 xs (omega arith)))
    at (inr h) =
        let k : length x ≡ 18 = omega (arith, n) in
        (sym (take_at x rest 18 k) ∙ ap (take 18) (sym e), sym (drop_at x rest 18 k) ∙ ap (drop 18) (sym e))

module _ (kind : ℕ) (rows : List Row) where
  -- the rows of a block, before they are read as plain rows and after
  pub block_rows : (n : ℕ) → rows_of_block (view rows) n ≡ view (take 18 (drop (18 * n) rows))
  block_rows n = ap (take 18) (drop-map plain (18 * n) rows) ∙ take-map plain 18 (drop (18 * n) rows)

  -- each block takes 512 bytes
  pub length-blocks : (n : ℕ) → length (first_blocks kind (view rows) n) ≡ 512 * n
  unfolding first_blocks
  length-blocks zero = refl
  length-blocks (suc n) =
      let part = take 18 (drop (18 * n) rows) in
      let long = ap (λ (x : List _). length (block kind n x)) (block_rows n) ∙ length-block kind n part (omega (arith, length-take 18 (drop (18 * n) rows))) in
      omega (arith, length-append (first_blocks kind (view rows) n) (block kind n (rows_of_block (view rows) n)), length-blocks n, long)

  -- one block more
  pub block_more : (n : ℕ) (left part rest : List Row) (before this after : List ℕ) → left ≡ drop (18 * n) rows → left ≡ part ++ rest → length part ≡ min 18 (length left)
      → before ≡ first_blocks kind (view rows) n → this ≡ block kind n (view part) → after ≡ before ++ this → (after ≡ first_blocks kind (view rows) (n + 1)) × (rest ≡ drop (18 * (n + 1)) rows)
  unfolding first_blocks
  block_more n left part rest before this after l e k b t a =
      let two = chunk_is left part rest e k in (
        a ∙ ap₂ (λ x y. x ++ y) b (t ∙ ap (λ (x : List _). block kind n x) (ap view (two.0 ∙ ap (take 18) l) ∙ sym (block_rows n)))
            ∙ ap (first_blocks kind (view rows)) (sym (add-one n)),
        two.1 ∙ ap (drop 18) l ∙ drop-drop 18 (18 * n) rows ∙ ap (λ m. drop m rows) (omega arith),
      )

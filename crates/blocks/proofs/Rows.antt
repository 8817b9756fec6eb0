-- Rows as bytes: writing and reading undo each other, first over any widths, then over ours. Assumes nothing.
use Rattle.std.proofs.Common.{◌≡◌, ℕ, zero, suc, ◌+◌, ◌^◌, ◌<◌, ◌≤◌, true, ◌&&◌, leb, List, [], ◌∷◌, ◌++◌, length, get_or, take, drop, sym, refl, ap, ◌∙◌, add_assoc, zero-add, arith, take-add}
use Rattle.std.proofs.lemmas.List.{append_assoc, length-append, length-take-le, length-drop, take-append-drop, take_at, drop_at, drop-drop, drop_more, drop_all, get_or_at, get_or-append_right}
use Rattle.std.proofs.lemmas.Bool.{and_parts, leb-true}
use Rattle.packet.specs.declared.range.Range.{Range}
use Rattle.packet.specs.Packets.{tops}
use Rattle.packet.specs.Regions.{range_at}
use Rattle.theory.specs.Tables.{Row}
use Rattle.theory.specs.Steps.{fits}
use Rattle.blocks.specs.Numbers.{big_endian, number_of, Bytes}
use Rattle.blocks.specs.Writing.{widths, range_bytes, row_bytes}
use Rattle.blocks.specs.Reading.{ranges_of, field_start, row_of, kind_of}
use Rattle.blocks.proofs.Pieces.{append_same}
use Rattle.blocks.proofs.Digits.{length-big_endian, read_written, written_read, bytes_take, bytes_drop, bytes_append, bytes_big_endian}

-- each top is the largest value of its width
abbrev Belong : List ℕ → List ℕ → Type 0
Belong [] [] = Unit {0}
Belong [] (t ∷ ts) = ⊥
Belong (w ∷ ws) [] = ⊥
Belong (w ∷ ws) (t ∷ ts) = (t + 1 ≡ 256 ^ w) × Belong ws ts

-- a range that fits ends below the power of its width
range_fits : (w t : ℕ) (ts : List ℕ) (r : Range ℕ) (rs : List (Range ℕ)) → t + 1 ≡ 256 ^ w → fits (t ∷ ts) (r ∷ rs) ≡ true → (r.low < 256 ^ w) × (r.high < 256 ^ w) × (fits ts rs ≡ true)
range_fits w t ts r rs e f =
    let h = and_parts (leb r.low r.high && leb r.high t) (fits ts rs) f in
    let k = and_parts (leb r.low r.high) (leb r.high t) h.0 in
    let a = leb-true r.low r.high k.0 in
    let b = leb-true r.high t k.1 in
    (omega arith, omega arith, h.1)

length-ranges : (ws ts : List ℕ) (rs : List (Range ℕ)) → Belong ws ts → fits ts rs ≡ true → length (range_bytes ws rs) ≡ field_start ws (length ws)
length-ranges [] [] [] b f = refl
length-ranges [] [] (r ∷ rs) b f = cc
length-ranges [] (t ∷ ts) rs b f = absurd b
length-ranges (w ∷ ws) [] rs b f = absurd b
length-ranges (w ∷ ws) (t ∷ ts) [] b f = cc
length-ranges (w ∷ ws) (t ∷ ts) (r ∷ rs) b f =
    let i = length-ranges ws ts rs b.1 (range_fits w t ts r rs b.0 f).2 in
    simp (length-append, length-big_endian) (omega arith)

-- three parts, of which the first two have one width
module _ (w : ℕ) (a b c : List ℕ) (p : length a ≡ w) (q : length b ≡ w) where
  first_part : take w ((a ++ b) ++ c) ≡ a
  first_part = ap (take w) (append_assoc a b c) ∙ take_at a (b ++ c) w p

  second_part : take w (drop w ((a ++ b) ++ c)) ≡ b
  second_part = ap (λ (x : List ℕ). take w (drop w x)) (append_assoc a b c) ∙ ap (take w) (drop_at a (b ++ c) w p) ∙ take_at b c w q

  third_part : drop (w + w) ((a ++ b) ++ c) ≡ c
  third_part = drop_at (a ++ b) c (w + w) (omega (arith, length-append a b))

ranges_read : (ws ts : List ℕ) (rs : List (Range ℕ)) (rest : List ℕ) → Belong ws ts → fits ts rs ≡ true → ranges_of ws (range_bytes ws rs ++ rest) ≡ rs
ranges_read [] [] [] rest b f = refl
ranges_read [] [] (r ∷ rs) rest b f = cc
ranges_read [] (t ∷ ts) rs rest b f = absurd b
ranges_read (w ∷ ws) [] rs rest b f = absurd b
ranges_read (w ∷ ws) (t ∷ ts) [] rest b f = cc
ranges_read (w ∷ ws) (t ∷ ts) (r ∷ rs) rest b f =
    let h = range_fits w t ts r rs b.0 f in
    let x = big_endian w r.low in
    let y = big_endian w r.high in
    let z = range_bytes ws rs ++ rest in
    let p = length-big_endian w r.low in
    let q = length-big_endian w r.high in
    let l = ap number_of (first_part w x y z p q) ∙ read_written w r.low h.0 in
    let u = ap number_of (second_part w x y z p q) ∙ read_written w r.high h.1 in
    let i = ap (ranges_of ws) (third_part w x y z p q) ∙ ranges_read ws ts rs rest b.1 h.2 in
    ap (ranges_of (w ∷ ws)) (append_assoc (x ++ y) (range_bytes ws rs) rest) ∙ (λ j. record { low = l j; high = u j } ∷ i j)

ranges_written : (ws bs : List ℕ) → Bytes bs → field_start ws (length ws) ≤ length bs → range_bytes ws (ranges_of ws bs) ≡ take (field_start ws (length ws)) bs
ranges_written [] bs h l = refl
ranges_written (w ∷ ws) bs h l =
    let s = field_start ws (length ws) in
    let m : w ≤ length (drop w bs) = omega (arith, length-drop w bs) in
    let n : s ≤ length (drop (w + w) bs) = omega (arith, length-drop (w + w) bs) in
    let a = written_read w (take w bs) (length-take-le w bs (omega arith)) (bytes_take w bs h) in
    let b = written_read w (take w (drop w bs)) (length-take-le w (drop w bs) m) (bytes_take w (drop w bs) (bytes_drop w bs h)) in
    let i = ranges_written ws (drop (w + w) bs) (bytes_drop (w + w) bs h) n in
    append_same (append_same a b ∙ sym (take-add w w bs)) i ∙ sym (take-add (w + w) s bs)

bytes_ranges : (ws : List ℕ) (rs : List (Range ℕ)) → Bytes (range_bytes ws rs)
bytes_ranges [] rs k l = absurd (omega arith)
bytes_ranges (w ∷ ws) [] k l = absurd (omega arith)
bytes_ranges (w ∷ ws) (r ∷ rs) k l = bytes_append (big_endian w r.low ++ big_endian w r.high) (range_bytes ws rs)
    (bytes_append (big_endian w r.low) (big_endian w r.high) (bytes_big_endian w r.low) (bytes_big_endian w r.high))
    (bytes_ranges ws rs) k l

-- ours
belong : Belong widths tops
belong = (refl, (refl, (refl, (refl, (refl, tt)))))

-- a row that fits is read as it was written, and takes 28 bytes
pub row_read : (kind : ℕ) (row : Row) → fits tops row.ranges ≡ true → (row_of (row_bytes kind row) ≡ row) × (kind_of (row_bytes kind row) ≡ kind) × (length (row_bytes kind row) ≡ 28)
row_read kind row f =
    let front = range_bytes widths row.ranges in
    let n : length front ≡ 26 = length-ranges widths tops row.ranges belong f in
    let r = ranges_read widths tops row.ranges (row.decision ∷ kind ∷ []) belong f in
    let d = get_or_at front row.decision (kind ∷ []) 0 26 n in (
      (λ i. record { ranges = r i; decision = d i }),
      get_or-append_right front (row.decision ∷ kind ∷ []) 26 27 0 n (omega arith),
      length-append front (row.decision ∷ kind ∷ []) ∙ ap (λ (k : ℕ). k + 2) n,
    )

-- what is written is bytes
pub bytes_row : (kind : ℕ) (row : Row) → kind < 256 → row.decision < 256 → Bytes (row_bytes kind row)
bytes_row kind row k d = bytes_append (range_bytes widths row.ranges) (row.decision ∷ kind ∷ []) (bytes_ranges widths row.ranges) last
  where
    last : Bytes (row.decision ∷ kind ∷ [])
    last zero l = d
    last (suc zero) l = k
    last (suc (suc j)) l = absurd (omega arith)

-- a row's bytes are written as they were read
pub row_written : (bs : List ℕ) → length bs ≡ 28 → Bytes bs → row_bytes (kind_of bs) (row_of bs) ≡ bs
row_written bs n h =
    let e = drop_more bs 26 0 (omega arith) ∙ ap (λ (x : List ℕ). get_or bs 26 0 ∷ x) (drop_more bs 27 0 (omega arith) ∙ ap (λ (x : List ℕ). get_or bs 27 0 ∷ x) (drop_all 28 bs (omega arith))) in
    append_same (ranges_written widths bs h (omega arith)) (sym e) ∙ take-append-drop 26 bs

-- the range of one field, out of the bytes
pub range_read : (ws bs : List ℕ) (f : ℕ) → f < length ws
    → range_at (ranges_of ws bs) f ≡ record { low = number_of (take (get_or ws f 0) (drop (field_start ws f) bs)); high = number_of (take (get_or ws f 0) (drop (field_start ws f + get_or ws f 0) bs)) }
range_read [] bs f l = absurd (omega arith)
range_read (w ∷ ws) bs zero l = λ i. record { low = number_of (take w bs); high = number_of (take w (drop (sym (zero-add w) i) bs)) }
range_read (w ∷ ws) bs (suc f) l =
    let s = field_start ws f in
    let g = get_or ws f 0 in
    let a = drop-drop s (w + w) bs in
    let b = drop-drop (s + g) (w + w) bs ∙ ap (λ (x : ℕ). drop x bs) (sym (add_assoc (w + w) s g)) in
    range_read ws (drop (w + w) bs) f (omega arith) ∙ (λ i. record { low = number_of (take g (a i)); high = number_of (take g (b i)) })

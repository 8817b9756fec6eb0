use Rattle.std.proofs.Common.{◌≡◌, ℕ, zero, suc, ◌-◌, ◌≤◌, ◌⊎◌, List, ◌++◌, length, map, take, drop, sym, ap, ◌∙◌, ap₂, inl, inr, arith}
use Rattle.std.proofs.lemmas.List.{take-map, take_all, drop_all}
use Rattle.packet.specs.declared.range.Range.{Range}
use Rattle.packet.specs.Packets.{values, tops}
use Rattle.theory.specs.Tables.{Row, lookup}
use Rattle.theory.specs.Neighbours.{alike, first_difference, under, ranges_at, starts_alike}
use Rattle.blocks.specs.Reading.{rows_in}
use Rattle.opening.proofs.Found.{ranges_are}
use Rattle.opening.proofs.Follows.{difference_some, difference_none}
use Rattle.opening.proofs.alike.starts_alike.Goals as goal
use Rattle.opening.proofs.alike.starts_alike.Goals.{in-Some, in-None}

abbrev lows : List (Range ℕ) → List ℕ
lows ranges = map (λ (r : Range ℕ). r.low) ranges

-- behind the last field there is nothing to compare, however far behind
behind : (rows : List Row) (field n : ℕ) (p q : List ℕ) → length p ≡ length tops → length q ≡ length tops → (field ≡ suc n) ⊎ ((field ≡ 5) × (5 ≤ n))
    → alike (drop field tops) (λ s. lookup rows (take field p ++ s)) (λ s. lookup rows (take field q ++ s)) ≡ alike (drop (suc n) tops) (λ s. lookup rows (take (suc n) p ++ s)) (λ s. lookup rows (take (suc n) q ++ s))
behind rows field n p q x y o = elim o [
  | inl e ↦ ap (λ m. alike (drop m tops) (λ s. lookup rows (take m p ++ s)) (λ s. lookup rows (take m q ++ s))) e
  | inr e ↦
      let all : (r : List ℕ) → length r ≡ 5 → take 5 r ≡ take (suc n) r = λ r h. take_all 5 r (omega arith) ∙ sym (take_all (suc n) r (omega (arith, h, e.1))) in
      let none : drop 5 tops ≡ drop (suc n) tops = sym (drop_all (suc n) tops (omega (arith, e.1))) in
      ap (λ m. alike (drop m tops) (λ s. lookup rows (take m p ++ s)) (λ s. lookup rows (take m q ++ s))) e.0
      ∙ ap₂ (λ u v. alike (drop 5 tops) (λ s. lookup rows (u ++ s)) (λ s. lookup rows (v ++ s))) (all p x) (all q y)
      ∙ ap (λ ts. alike ts (λ s. lookup rows (take (suc n) p ++ s)) (λ s. lookup rows (take (suc n) q ++ s))) none
]

-- the test of the row behind row i, from the two rows' ranges
starts : (rows : List Row) (row : ℕ) → 1 ≤ row → (a b : List (Range ℕ)) → a ≡ ranges_at rows (row - 1) → b ≡ ranges_at rows row → (p q : List ℕ) → p ≡ lows a → q ≡ lows b
    → alike (drop (suc (first_difference a b)) tops) (λ s. lookup rows (take (suc (first_difference a b)) p ++ s)) (λ s. lookup rows (take (suc (first_difference a b)) q ++ s)) ≡ starts_alike tops rows row
starts rows zero h a b x y p q i j = absurd (omega arith)
starts rows (suc n) h a b x y p q i j =
    let back : suc n - 1 ≡ n = omega arith in
    let f = suc (first_difference a b) in
    let same : (c : List (Range ℕ)) (r : List ℕ) → r ≡ lows c → take f r ≡ lows (take f c) = λ c r e. ap (take f) e ∙ take-map (λ (r : Range ℕ). r.low) f c in
    ap₂ (λ u v. alike (drop f tops) (λ s. lookup rows (u ++ s)) (λ s. lookup rows (v ++ s))) (same a p i) (same b q j)
    ∙ ap₂ (λ u v. alike (drop (suc (first_difference u v)) tops) (under rows (take (suc (first_difference u v)) u)) (under rows (take (suc (first_difference u v)) v))) (x ∙ ap (ranges_at rows) back) y

pub returns : goal.returns
returns c =
    let rows = c.args.nested.now.rows in
    let bytes = rows.bytes.now in
    let row = c.args.row in
    let a = c.ranges-left.result in
    let b = c.ranges-right.result in
    let left : length a ≡ 5 = ap length c.ranges-left.ensures.value in
    let right : length b ≡ 5 = ap length c.ranges-right.ensures.value in
    let field : (c.match-first_difference.field ≡ suc (first_difference a b)) ⊎ ((c.match-first_difference.field ≡ 5) × (5 ≤ first_difference a b)) = elim c.match-first_difference.branch [
      | in-Some w ↦ inl (omega (arith, w.field-is, (difference_some a b (omega (arith, left, right)) w.in-Some.field (sym w.in-Some.ensures.value)).1))
      | in-None w ↦ inr (w.field-is, omega (arith, left, difference_none a b (omega (arith, left, right)) (sym w.in-None.ensures.value)))
    ] in
    c.are_alike.ensures
    ∙ behind (rows_in bytes) c.match-first_difference.field (first_difference a b) (values c.low_ends.result) (values c.low_ends-2.result) (omega arith) (omega arith) field
    ∙ starts (rows_in bytes) row c.requires.0 a b
    (c.ranges-left.ensures.value ∙ sym (ranges_are bytes (row - 1) (omega (arith, c.requires.1, rows.counted))))
    (c.ranges-right.ensures.value ∙ sym (ranges_are bytes row (omega (arith, c.requires.1, rows.counted))))
    (values c.low_ends.result) (values c.low_ends-2.result)
    c.low_ends.ensures
    c.low_ends-2.ensures

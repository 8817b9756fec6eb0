use Rattle.std.proofs.Common.{◌≡◌, ℕ, ◌+◌, ◌*◌, ◌/◌, ◌%◌, ◌<◌, ◌≤◌, Bool, true, false, not, eqb, leb, List, take, drop, Some, sym, ap, ◌∙◌, ap₂, add-one, arith}
use Rattle.std.proofs.lemmas.Bool.{ne_eqb, eq-eqb, not_from_true, not_from_false}
use Rattle.damage.specs.declared.damage.Damage.TheVariants.{Check, Frame, Foreign}
use Rattle.blocks.specs.Writing.{check_sum}
use Rattle.blocks.specs.Reading.{block_at, blocks_in, count_in, check_in, row_slice}
use Rattle.opening.specs.Answers.{unless}
use Rattle.opening.specs.Damages.{framed_block, wrong_check, framed, foreign, foreign_row, found, first, block_damage}
use Rattle.opening.specs.Firsts.{some_found, none_found, or_first, or_second, first_same}
use Rattle.opening.proofs.Chunks.{row_place}
use Rattle.opening.proofs.framing.check_block.Goals as goal

module _ (label size : ℕ) (bytes : List ℕ) (k : ℕ) where
  by_check : wrong_check bytes k ≡ true → block_damage label size bytes k ≡ Some (Check k)
  unfolding block_damage
  by_check t = or_first _ _ _ (some_found _ _ t)

  by_frame : wrong_check bytes k ≡ false → framed bytes k ≡ false → block_damage label size bytes k ≡ Some (Frame k)
  unfolding block_damage
  by_frame t f = or_second _ _ (none_found _ _ t) ∙ or_first _ _ _ (some_found _ _ (not_from_false _ f))

  by_rows : wrong_check bytes k ≡ false → framed bytes k ≡ true → block_damage label size bytes k ≡ first (count_in (block_at bytes k)) (λ j. found (foreign label size bytes (18 * k + j)) (Foreign (18 * k + j)))
  unfolding block_damage
  by_rows t f = or_second _ _ (none_found _ _ t) ∙ or_second _ _ (none_found _ _ (not_from_true _ f))

  -- a row of the block
  row_is : (j : ℕ) → j < 18 → take 28 (drop (4 + 28 * j) (block_at bytes k)) ≡ row_slice bytes (18 * k + j)
  row_is j h =
      let place : (18 * k + j) % 18 ≡ j = omega arith in
      let number : (18 * k + j) / 18 ≡ k = omega arith in
      ap₂ (λ p n. take 28 (drop (4 + 28 * p) (block_at bytes n))) (sym place) (sym number) ∙ row_place bytes (18 * k + j)

-- what is read in the block tells of the bytes
module _ (bytes : List ℕ) (k : ℕ) (block : List ℕ) (is : block ≡ block_at bytes k) where
  check_is : (check sum : ℕ) → check ≡ check_in block → sum ≡ check_sum (take 508 block) → (wrong : Bool) → not (eqb check sum) ≡ wrong → wrong_check bytes k ≡ wrong
  check_is check sum c s wrong e = ap₂ (λ x y. not (eqb x y)) (sym (c ∙ ap check_in is)) (sym (s ∙ ap (λ (b : List ℕ). check_sum (take 508 b)) is)) ∙ e

  framed_is : (t : Bool) → framed_block (leb (blocks_in bytes) (k + 1)) k block ≡ t → framed bytes k ≡ t
  framed_is t e =
      sym (ap₂ (λ m (b : List ℕ). framed_block (leb (blocks_in bytes) m) k b) (add-one k) is) ∙ e

  rows_are : (label size count : ℕ) → count ≡ count_in block → count ≤ 18
      → first count (λ j. found (foreign_row label size (take 28 (drop (4 + 28 * j) block))) (Foreign (18 * k + j)))
      ≡ first (count_in (block_at bytes k)) (λ j. found (foreign label size bytes (18 * k + j)) (Foreign (18 * k + j)))
  rows_are label size count n few =
      first_same count (λ j. found (foreign_row label size (take 28 (drop (4 + 28 * j) block))) (Foreign (18 * k + j))) (λ j. found (foreign label size bytes (18 * k + j)) (Foreign (18 * k + j))) (λ j h.
      ap (λ (r : List ℕ). found (foreign_row label size r) (Foreign (18 * k + j))) (ap (λ (b : List ℕ). take 28 (drop (4 + 28 * j) b)) is ∙ row_is label size bytes k j (omega (arith, h, few))))
      ∙ ap (λ m. first m (λ j. found (foreign label size bytes (18 * k + j)) (Foreign (18 * k + j)))) (n ∙ ap count_in is)

pub returns-then-number_of-check_sum : goal.returns-then-number_of-check_sum
returns-then-number_of-check_sum g c =
    let wrong = check_is c.args.bytes.now c.args.number c.block_at-block.result.now c.block_at-block.ensures c.number_of.result c.check_sum.result c.number_of.ensures.value c.check_sum.ensures true (ap not (ne_eqb _ _ c.if-number_of-check_sum.true)) in
    ap (λ o. unless o tt) (sym (by_check g.K.Kind.NUMBER g.K.Kind.COUNT c.args.bytes.now c.args.number wrong))

pub returns-in_default : goal.returns-in_default
returns-in_default g c =
    let right = check_is c.args.bytes.now c.args.number c.block_at-block.result.now c.block_at-block.ensures c.number_of.result c.check_sum.result c.number_of.ensures.value c.check_sum.ensures false (ap not (eq-eqb _ _ c.if-number_of-check_sum.false)) in
    let frame = framed_is c.args.bytes.now c.args.number c.block_at-block.result.now c.block_at-block.ensures false c.in_default.ensures in
    ap (λ o. unless o tt) (sym (by_frame g.K.Kind.NUMBER g.K.Kind.COUNT c.args.bytes.now c.args.number right frame))

pub returns : goal.returns
returns g c =
    let right = check_is c.args.bytes.now c.args.number c.block_at-block.result.now c.block_at-block.ensures c.number_of.result c.check_sum.result c.number_of.ensures.value c.check_sum.ensures false (ap not (eq-eqb _ _ c.if-number_of-check_sum.false)) in
    let frame = framed_is c.args.bytes.now c.args.number c.block_at-block.result.now c.block_at-block.ensures true c.in-Some.ensures.2 in
    c.check_rows.ensures
    ∙ ap (λ o. unless o tt) (rows_are c.args.bytes.now c.args.number c.block_at-block.result.now c.block_at-block.ensures g.K.Kind.NUMBER g.K.Kind.COUNT c.in-Some.count c.in-Some.ensures.0 c.in-Some.ensures.1
    ∙ sym (by_rows g.K.Kind.NUMBER g.K.Kind.COUNT c.args.bytes.now c.args.number right frame))

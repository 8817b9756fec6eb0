use Rattle.std.proofs.Common.{◌≡◌, ℕ, ◌+◌, ◌-◌, ◌*◌, ◌/◌, ◌%◌, ◌<◌, ◌≤◌, true, false, eqb, List, length, take, Some, None, Ok, Option, sym, refl, ap, ◌∙◌, arith}
use Rattle.std.proofs.lemmas.Bool.{eq-eqb, ne_eqb, both_ways, lt-ltb, le-ltb, or_left, or_right, or_from, not_from_true, not_from_false}
use Rattle.blocks.specs.Numbers.{number_of}
use Rattle.blocks.specs.Reading.{block_at, blocks_in, row_count, rows_in}
use Rattle.opening.specs.Answers.{unless}
use Rattle.opening.specs.Damages.{first, wrong_length, block_damage, nesting_damage, neighbour_damage, damage_of}
use Rattle.damage.specs.declared.damage.Damage.{Damage}
use Rattle.opening.specs.declared.rows.Rows.{Rows}
use Rattle.opening.specs.Firsts.{first_step}
use Rattle.opening.proofs.Inspected.{was_damage, was_none, erred, by_length, by_block, by_nesting, by_neighbours, counted}
use Rattle.opening.proofs.inspection.inspect.Goals as goal
use Rattle.opening.proofs.inspection.inspect.Goals.{then-is_empty-via-then-is_empty, then-is_empty-via-else-is_empty+then-bytes-ne0, then-is_empty-via-else-is_empty+else-bytes-ne0+then-bytes-gt-MOST_BYTES}

right_length : (bytes : List ℕ) → false ≡ eqb (length bytes) 0 → length bytes % 512 ≡ 0 → length bytes ≤ 32768 → wrong_length bytes ≡ false
right_length bytes a b c = or_from _ _ (or_from _ _ (sym a) (not_from_true _ (eq-eqb _ _ b))) (le-ltb _ _ c)

-- there is a block
some_block : (bytes : List ℕ) → false ≡ eqb (length bytes) 0 → length bytes % 512 ≡ 0 → 1 ≤ length bytes / 512
some_block bytes a b = let some : length bytes ≡ 0 → ⊥ = λ e. both_ways _ (sym a) (eq-eqb _ _ e) in omega arith

-- the count of rows, from the last block's count
rows_are : (bytes block : List ℕ) (last : ℕ) → block ≡ block_at bytes (length bytes / 512 - 1) → last ≡ number_of (take 2 block) → 18 * (length bytes / 512 - 1) + last ≡ row_count bytes
rows_are bytes block last e n = ap (λ m. 18 * (length bytes / 512 - 1) + m) (n ∙ ap (λ (b : List ℕ). number_of (take 2 b)) e)

pub returns-then-is_empty-clause-answer : goal.returns-then-is_empty-clause-answer
returns-then-is_empty-clause-answer g c =
    let bytes = c.args.bytes.now in
    let wrong : wrong_length bytes ≡ true = elim c.then-is_empty.branch [
      | then-is_empty-via-then-is_empty w ↦ or_left _ _ (or_left _ _ (sym c.is_empty.ensures ∙ w.if-is_empty.true))
      | then-is_empty-via-else-is_empty+then-bytes-ne0 w ↦ or_left _ _ (or_right _ _ (not_from_false _ (ne_eqb _ _ w.if-bytes-ne0.true)))
      | then-is_empty-via-else-is_empty+else-bytes-ne0+then-bytes-gt-MOST_BYTES w ↦ or_right _ _ (lt-ltb _ _ w.if-bytes-gt-MOST_BYTES.true)
    ] in
    ap (λ o. unless o (row_count bytes)) (sym (by_length g.K.Kind.NUMBER g.K.Kind.COUNT bytes wrong))

pub loop-number-init : goal.loop-number-init
unfolding first
loop-number-init g c = refl

pub returns-in_err-check_block-clause-answer : goal.returns-in_err-check_block-clause-answer
returns-in_err-check_block-clause-answer g c =
    let label = g.K.Kind.NUMBER in
    let size = g.K.Kind.COUNT in
    let bytes = c.args.bytes.now in
    let good = right_length bytes c.if-is_empty.ensures c.if-bytes-ne0.false c.if-bytes-gt-MOST_BYTES.false in
    erred _ _ _ _ c.from_residual.ensures.1 (by_block label size bytes good c.loop-number.number _ c.loop-number-test.true c.loop-number.invariant (was_damage (block_damage label size bytes c.loop-number.number) _ tt c.in_err-check_block.ensures))

pub loop-number-preserved : goal.loop-number-preserved
loop-number-preserved g c =
    first_step c.loop-number.number (block_damage g.K.Kind.NUMBER g.K.Kind.COUNT c.args.bytes.now) c.loop-number.invariant (was_none _ tt tt c.in_ok-check_block.ensures).0

-- what is found of the rows, once all blocks are good
module _ (label size : ℕ) (bytes : List ℕ) (some : false ≡ eqb (length bytes) 0) (whole : length bytes % 512 ≡ 0) (few : length bytes ≤ 32768) (k : ℕ) (far : length bytes / 512 ≤ k) (near : k ≤ length bytes / 512)
    (inv : first k (block_damage label size bytes) ≡ None) where
  good : wrong_length bytes ≡ false
  good = right_length bytes some whole few

  blocks : first (blocks_in bytes) (block_damage label size bytes) ≡ None
  blocks = let all : k ≡ length bytes / 512 = omega arith in ap (λ n. first n (block_damage label size bytes)) (sym all) ∙ inv

  room : (block : List ℕ) (last : ℕ) → block ≡ block_at bytes (length bytes / 512 - 1) → last ≡ number_of (take 2 block)
      → (0 < 18 * (length bytes / 512 - 1) + last) × (18 * (length bytes / 512 - 1) + last ≤ 18 * (length bytes / 512))
  room block last e n = let r = counted label size bytes good blocks (some_block bytes some whole) in omega (arith, r.0, r.1, rows_are bytes block last e n)

  nests : (d : Damage) → nesting_damage (rows_in bytes) ≡ Some d → damage_of label size bytes ≡ Some d
  nests d e = by_nesting label size bytes good blocks d e

  reduces : (o : Option Damage) → nesting_damage (rows_in bytes) ≡ None → neighbour_damage (rows_in bytes) ≡ o → damage_of label size bytes ≡ o
  reduces o n e = by_neighbours label size bytes good blocks o n e

pub invariant_of-check_nesting : goal.invariant_of-check_nesting
invariant_of-check_nesting g c =
    let bytes = c.args.bytes.now in
    record {
      counted = rows_are bytes c.block_at.result.now c.number_of-last.result c.block_at.ensures c.number_of-last.ensures.value;
      room = (room g.K.Kind.NUMBER g.K.Kind.COUNT bytes c.if-is_empty.ensures c.if-bytes-ne0.false c.if-bytes-gt-MOST_BYTES.false c.loop-number.number c.loop-number-test.false c.loop-number.auto.number-end c.loop-number.invariant
          c.block_at.result.now c.number_of-last.result c.block_at.ensures c.number_of-last.ensures.value).1;
    }

pub check_nesting-requires : goal.check_nesting-requires
check_nesting-requires g c =
    (room g.K.Kind.NUMBER g.K.Kind.COUNT c.args.bytes.now c.if-is_empty.ensures c.if-bytes-ne0.false c.if-bytes-gt-MOST_BYTES.false c.loop-number.number c.loop-number-test.false c.loop-number.auto.number-end c.loop-number.invariant
    c.block_at.result.now c.number_of-last.result c.block_at.ensures c.number_of-last.ensures.value).0

pub returns-in_err-nested-clause-answer : goal.returns-in_err-nested-clause-answer
returns-in_err-nested-clause-answer g c =
    erred _ _ _ _ c.from_residual-in_err-nested.ensures.1 (nests g.K.Kind.NUMBER g.K.Kind.COUNT c.args.bytes.now c.if-is_empty.ensures c.if-bytes-ne0.false c.if-bytes-gt-MOST_BYTES.false c.loop-number.number c.loop-number-test.false c.loop-number.auto.number-end c.loop-number.invariant
    _ c.in_err-nested.ensures)

-- the neighbours are looked at in the same bytes
neighbours : (bytes other : List ℕ) (o : Option Damage) → other ≡ bytes → neighbour_damage (rows_in other) ≡ o → neighbour_damage (rows_in bytes) ≡ o
neighbours bytes other o e n = ap (λ b. neighbour_damage (rows_in b)) (sym e) ∙ n

pub returns-in_err-check_neighbours-clause-answer : goal.returns-in_err-check_neighbours-clause-answer
returns-in_err-check_neighbours-clause-answer g c =
    let nested = c.in_ok-nested.nested in
    erred _ _ _ _ c.from_residual-in_err-check_neighbours.ensures.1 (reduces g.K.Kind.NUMBER g.K.Kind.COUNT c.args.bytes.now c.if-is_empty.ensures c.if-bytes-ne0.false c.if-bytes-gt-MOST_BYTES.false c.loop-number.number c.loop-number-test.false c.loop-number.auto.number-end c.loop-number.invariant
    _ c.in_ok-nested.ensures.1 (neighbours c.args.bytes.now nested.rows.bytes.now _ (ap (λ (r : Rows). r.bytes.now) c.in_ok-nested.ensures.0) (was_damage _ _ tt c.in_err-check_neighbours.ensures)))

pub returns-clause-answer : goal.returns-clause-answer
returns-clause-answer g c =
    let bytes = c.args.bytes.now in
    let nested = c.in_ok-nested.nested in
    let none = reduces g.K.Kind.NUMBER g.K.Kind.COUNT bytes c.if-is_empty.ensures c.if-bytes-ne0.false c.if-bytes-gt-MOST_BYTES.false c.loop-number.number c.loop-number-test.false c.loop-number.auto.number-end c.loop-number.invariant
    _ c.in_ok-nested.ensures.1 (neighbours bytes nested.rows.bytes.now _ (ap (λ (r : Rows). r.bytes.now) c.in_ok-nested.ensures.0) (was_none _ tt tt c.in_ok-check_neighbours.ensures).0) in
    ap Ok (rows_are bytes c.block_at.result.now c.number_of-last.result c.block_at.ensures c.number_of-last.ensures.value) ∙ ap (λ o. unless o (row_count bytes)) (sym none)

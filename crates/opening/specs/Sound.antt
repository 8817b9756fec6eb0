-- A block has no damage exactly if its check, count, number, unused bytes and rows are right. Assumes nothing.
use Rattle.std.specs.Prelude.{◌≡◌, ℕ, zero, suc, ◌+◌, ◌*◌, ◌<◌, ◌≤◌, Bool, true, false, not, ◌&&◌, List, [], ◌∷◌, length, take, None, Option, ◌==◌, nat_le, slice_index, refl}
use Rattle.std.proofs.Common.{sym, ◌∙◌, inl, inr, arith}
use Rattle.std.proofs.lemmas.Bool.{cases_lt, eqb-true, eq-eqb, ltb-true, lt-ltb, lt-leb, leb-true, le-leb, and_parts, and_from, or_parts, or_from, not-false, not_from_true, cond-true, cond-false}
use Rattle.blocks.specs.Writing.{check_sum}
use Rattle.blocks.specs.Reading.{row_of, kind_of, block_at, count_in, number_in, check_in, unused_in, row_slice, blocks_in}
use Rattle.damage.specs.declared.damage.Damage.{Damage}
use Rattle.damage.specs.declared.damage.Damage.TheVariants.{Check, Frame, Foreign}
use Rattle.opening.specs.Damages.{found, first, wrong_check, is_count, all_zero, framed, foreign, block_damage}
use Rattle.opening.specs.Firsts.{found_none, none_found, or_none, none_or, first_none, none_first}

-- bytes that are all 0, by their places
zero_at : (bytes : List ℕ) → all_zero bytes ≡ true → (j : ℕ) → j < length bytes → slice_index bytes j ≡ 0
zero_at [] z j h = refl
zero_at (b ∷ bytes) z zero h = eqb-true b 0 (and_parts _ _ z).0
zero_at (b ∷ bytes) z (suc j) h = zero_at bytes (and_parts (b == 0) _ z).1 j (omega arith)

-- and bytes that are 0 at each place
at_zero : (bytes : List ℕ) → ((j : ℕ) → j < length bytes → slice_index bytes j ≡ 0) → all_zero bytes ≡ true
at_zero [] h = refl
at_zero (b ∷ bytes) h = and_from _ _ (eq-eqb b 0 (h 0 (omega arith))) (at_zero bytes (λ j l. h (suc j) (omega arith)))

-- a row is of the kind, and its decision one of the kind's
pub record Native (label size : ℕ) (bytes : List ℕ) (i : ℕ) : Type 0 where
  pub kind : kind_of (row_slice bytes i) ≡ label
  pub decision : (row_of (row_slice bytes i)).decision < size

-- a block is right: its check, its count, its number, its unused bytes, and its rows
pub record Sound (label size : ℕ) (bytes : List ℕ) (k : ℕ) : Type 0 where
  pub check : check_in (block_at bytes k) ≡ check_sum (take 508 (block_at bytes k))
  pub full : suc k < blocks_in bytes → count_in (block_at bytes k) ≡ 18
  pub last : blocks_in bytes ≤ suc k → (1 ≤ count_in (block_at bytes k)) × (count_in (block_at bytes k) ≤ 18)
  pub number : number_in (block_at bytes k) ≡ k
  pub unused : (j : ℕ) → j < length (unused_in (block_at bytes k)) → slice_index (unused_in (block_at bytes k)) j ≡ 0
  pub rows : (j : ℕ) → j < count_in (block_at bytes k) → Native label size bytes (18 * k + j)

module _ (label size : ℕ) (bytes : List ℕ) where
  -- a row that is not foreign is of the kind
  native_row : (i : ℕ) → foreign label size bytes i ≡ false → Native label size bytes i
  native_row i e =
      let o = or_parts (not (kind_of (row_slice bytes i) == label)) _ e in
      record { kind = eqb-true _ _ (not-false _ o.0); decision = ltb-true _ _ (not-false _ o.1) }

  -- and one of the kind is not foreign
  row_native : (i : ℕ) → Native label size bytes i → foreign label size bytes i ≡ false
  row_native i n = or_from _ _ (not_from_true _ (eq-eqb _ _ n.kind)) (not_from_true _ (lt-ltb _ _ n.decision))

  module _ (k : ℕ) where
    -- the damage of a row of the block
    abbrev row_damage : ℕ → Option Damage
    row_damage j = found (foreign label size bytes (18 * k + j)) (Foreign (18 * k + j))

    -- is the block's count right?
    abbrev right_count : Bool
    right_count = is_count (nat_le (blocks_in bytes) (suc k)) (count_in (block_at bytes k))

    -- a block without damage is right
    pub sound_block : block_damage label size bytes k ≡ None → Sound label size bytes k
    unfolding block_damage
    sound_block e =
        let count : ℕ = count_in (block_at bytes k) in
        let o = or_none (found (wrong_check bytes k) (Check k)) _ e in
        let p = or_none (found (not (framed bytes k)) (Frame k)) (first count row_damage) o.1 in
        let f = and_parts (right_count && number_in (block_at bytes k) == k) (all_zero (unused_in (block_at bytes k))) (not-false _ (found_none _ _ p.0)) in
        let g = and_parts right_count (number_in (block_at bytes k) == k) f.0 in
        record {
          check = eqb-true _ _ (not-false _ (found_none _ _ o.0));
          full = λ h. eqb-true count 18 (sym (cond-false _ _ _ (lt-leb (blocks_in bytes) (suc k) h)) ∙ g.0);
          last = λ h.
              let a = and_parts (nat_le 1 count) (nat_le count 18) (sym (cond-true _ _ _ (le-leb (blocks_in bytes) (suc k) h)) ∙ g.0) in
              (leb-true 1 count a.0, leb-true count 18 a.1);
          number = eqb-true _ _ g.1;
          unused = zero_at _ f.1;
          rows = λ j h. native_row (18 * k + j) (found_none _ _ (first_none count row_damage p.1 j h));
        }

    count_right : Sound label size bytes k → right_count ≡ true
    count_right s = elim (cases_lt (suc k) (blocks_in bytes)) [
      | inl h ↦ cond-false _ _ _ (lt-leb (blocks_in bytes) (suc k) h) ∙ eq-eqb _ _ (s.full h)
      | inr h ↦ cond-true _ _ _ (le-leb (blocks_in bytes) (suc k) h) ∙ and_from _ _ (le-leb _ _ (s.last h).0) (le-leb _ _ (s.last h).1)
    ]

    -- and a block that is right has no damage
    pub block_sound : Sound label size bytes k → block_damage label size bytes k ≡ None
    unfolding block_damage
    block_sound s = none_or _ _ (none_found _ _ (not_from_true _ (eq-eqb _ _ s.check)))
        (none_or _ _
        (none_found _ _ (not_from_true _ (and_from _ _ (and_from _ _ (count_right s) (eq-eqb _ _ s.number)) (at_zero _ s.unused))))
        (none_first (count_in (block_at bytes k)) row_damage (λ j h. none_found _ _ (row_native (18 * k + j) (s.rows j h)))))

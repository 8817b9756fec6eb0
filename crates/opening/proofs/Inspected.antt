-- What each exit of looking bytes over says of the first damage. Assumes nothing.
use Rattle.std.proofs.Common.{◌≡◌, ℕ, ◌-◌, ◌*◌, ◌<◌, ◌≤◌, true, false, List, IsErrAnd, Some, None, Ok, Err, Option, Result, sym, refl, ap, ◌∙◌, arith}
use Rattle.blocks.specs.Reading.{blocks_in, row_count, rows_in}
use Rattle.damage.specs.declared.damage.Damage.{Damage}
use Rattle.damage.specs.declared.damage.Damage.TheVariants.{Length}
use Rattle.opening.specs.Answers.{unless}
use Rattle.opening.specs.Damages.{or_else, first, wrong_length, block_damage, nesting_damage, neighbour_damage, damage_of}
use Rattle.opening.specs.Firsts.{first_none, first_found, some_found, none_found, or_first, or_second}
use Rattle.opening.specs.Sound.{sound_block}

-- an answer, read back
pub was_damage : {T : Type 0} (o : Option Damage) (d : Damage) (x : T) → Err d ≡ unless o x → o ≡ Some d
was_damage None d x e = cc
was_damage (Some y) d x e = cc

pub was_none : {T : Type 0} (o : Option Damage) (n x : T) → Ok n ≡ unless o x → (o ≡ None) × (n ≡ x)
was_none None n x e = (refl, cc)
was_none (Some y) n x e = (cc, cc)

-- an error that is handed on is the same
pub same_error : {T E : Type 0} (r : Result T E) (d : E) → IsErrAnd r (λ y. y ≡ d) → r ≡ Err d
same_error (Ok x) d e = absurd e
same_error (Err y) d e = ap Err e

-- and so is the answer that tells of the damage
pub erred : {T : Type 0} (o : Option Damage) (x : T) (r : Result T Damage) (d : Damage) → IsErrAnd r (λ y. y ≡ d) → o ≡ Some d → r ≡ unless o x
erred o x r d e n = same_error r d e ∙ ap (λ o. unless o x) (sym n)

module _ (label size : ℕ) (bytes : List ℕ) where
  pub by_length : wrong_length bytes ≡ true → damage_of label size bytes ≡ Some Length
  unfolding damage_of
  by_length t = or_first _ _ _ (some_found _ _ t)

  module _ (good : wrong_length bytes ≡ false) where
    rest : damage_of label size bytes ≡ or_else (first (blocks_in bytes) (block_damage label size bytes)) (or_else (nesting_damage (rows_in bytes)) (neighbour_damage (rows_in bytes)))
    unfolding damage_of
    rest = or_second _ _ (none_found _ _ good)

    pub by_block : (k : ℕ) (d : Damage) → k < blocks_in bytes → first k (block_damage label size bytes) ≡ None → block_damage label size bytes k ≡ Some d → damage_of label size bytes ≡ Some d
    by_block k d h n e = rest ∙ or_first _ _ _ (first_found (blocks_in bytes) (block_damage label size bytes) k d h n e)

    module _ (blocks : first (blocks_in bytes) (block_damage label size bytes) ≡ None) where
      left : damage_of label size bytes ≡ or_else (nesting_damage (rows_in bytes)) (neighbour_damage (rows_in bytes))
      left = rest ∙ or_second _ _ blocks

      pub by_nesting : (d : Damage) → nesting_damage (rows_in bytes) ≡ Some d → damage_of label size bytes ≡ Some d
      by_nesting d e = left ∙ or_first _ _ _ e

      pub by_neighbours : (o : Option Damage) → nesting_damage (rows_in bytes) ≡ None → neighbour_damage (rows_in bytes) ≡ o → damage_of label size bytes ≡ o
      by_neighbours o n e = left ∙ or_second _ _ n ∙ e

      -- there are some rows, and no more than the blocks have room for
      pub counted : 1 ≤ blocks_in bytes → (0 < row_count bytes) × (row_count bytes ≤ 18 * blocks_in bytes)
      counted h =
          let last = (sound_block label size bytes (blocks_in bytes - 1) (first_none (blocks_in bytes) (block_damage label size bytes) blocks (blocks_in bytes - 1) (omega arith))).last (omega arith) in
          (omega (arith, last.0), omega (arith, last.1))

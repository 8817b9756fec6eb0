-- What the first damage of packed bytes says of their rows, in the subject's words. Assumes nothing.
use Rattle.std.specs.Prelude.{◌≡◌, ℕ, zero, suc, ◌+◌, ◌*◌, true, false, not, List, length, take, drop, Some, None, Option, refl}
use Rattle.std.proofs.Common.{subst, inl, inr, arith}
use Rattle.std.proofs.lemmas.List.{take-append-drop}
use Rattle.std.proofs.lemmas.Bool.{both_ways, false≢true, not-true, not-false, not_from_true}
use Rattle.packet.specs.Packets.{tops}
use Rattle.theory.specs.Tables.{Row, Nested, Reduced}
use Rattle.theory.specs.Steps.{begins, passes}
use Rattle.theory.specs.Neighbours.{starts_alike}
use Rattle.theory.proofs.Steps.{passes_nested, nested_passes, begins_more, more_begins}
use Rattle.theory.proofs.Neighbours.{alike_tells, tested_reduced, reduced_tested}
use Rattle.blocks.specs.Reading.{block_at, count_in, blocks_in, rows_in}
use Rattle.damage.specs.declared.damage.Damage.{Damage}
use Rattle.damage.specs.declared.damage.Damage.TheVariants.{Length, Check, Frame, Foreign, NotNested, NotReduced}
use Rattle.opening.specs.Damages.{found, or_else, first, wrong_length, wrong_check, framed, foreign, block_damage, nesting_damage, neighbour_damage, damage_of}
use Rattle.opening.specs.Words.{StartsAlike, Says}
use Rattle.opening.specs.Firsts.{found_none, found_some, none_found, or_none, none_or, or_some, first_none, none_first, first_some}

-- the damage at row i, if the rows up to it begin no nested list
abbrev step : List Row → ℕ → Option Damage
step rows i = found (not (begins tops (take (suc i) rows))) (NotNested i)

-- the damage at row i, if it starts a range alike its left neighbour
abbrev twin : List Row → ℕ → Option Damage
twin rows i = found (starts_alike tops rows i) (NotReduced i)

-- the rows before the first damage begin a nested list
begun : (rows : List Row) (k : ℕ) → first k (step rows) ≡ None → begins tops (take k rows) ≡ true
begun rows zero e = refl
begun rows (suc k) e = not-false _ (found_none _ _ (first_none (suc k) (step rows) e k (omega arith)))

-- rows without damage to their nesting pass
pub nesting_passes : (rows : List Row) → nesting_damage rows ≡ None → passes tops rows ≡ true
unfolding nesting_damage
nesting_passes rows e = not-false _ (found_none _ _ (or_none (first (length rows) (step rows)) _ e).1)

-- nested rows have no damage to their nesting
pub nested_undamaged : (rows : List Row) → Nested tops rows → nesting_damage rows ≡ None
unfolding nesting_damage
nested_undamaged rows n = none_or _ _
    (none_first (length rows) (step rows) (λ i _. none_found _ _ (not_from_true _ (more_begins tops (take (suc i) rows) (drop (suc i) rows) (rw (take-append-drop (suc i) rows) n)))))
    (none_found _ _ (not_from_true _ (nested_passes tops rows n)))

-- nested rows in which no neighbours are alike are reduced
pub neighbours_reduced : (rows : List Row) → Nested tops rows → neighbour_damage rows ≡ None → Reduced tops rows
unfolding neighbour_damage
neighbours_reduced rows n e = tested_reduced tops rows n (λ i h. found_none _ _ (first_none (length rows) (twin rows) e i h))

-- in reduced rows no neighbours are alike
pub reduced_undamaged : (rows : List Row) → Reduced tops rows → neighbour_damage rows ≡ None
unfolding neighbour_damage
reduced_undamaged rows r = none_first (length rows) (twin rows) (λ i h. none_found _ _ (reduced_tested tops rows r i h))

-- the test for alike neighbours, in the subject's words
starts : (rows : List Row) (i : ℕ) → starts_alike tops rows i ≡ true → StartsAlike rows i
starts rows zero t = absurd (false≢true t)
starts rows (suc i) t = (alike_tells _ _ _).0 t

starts_not : (rows : List Row) (i : ℕ) → starts_alike tops rows i ≡ false → ¬ (StartsAlike rows i)
starts_not rows zero t s = s
starts_not rows (suc i) t s = both_ways _ t ((alike_tells _ _ _).1 s)

-- what damage to the nesting says
nesting_says : (rows : List Row) (d : Damage) → nesting_damage rows ≡ Some d → Says (Some d) rows
unfolding nesting_damage
nesting_says rows d e = elim (or_some (first (length rows) (step rows)) _ d e) [
  | inl s ↦
      let r = first_some (length rows) (step rows) d s in
      let f = found_some _ _ d r.3 in
      subst (λ x. Says (Some x) rows) f.1 (
        begins_more tops _ (begun rows r.0 r.2),
        omega arith,
        λ _ b. both_ways _ (not-true _ f.0) (more_begins tops _ b.0 b.1),
        λ h. absurd (omega arith),
      )
  | inr s ↦
      let f = found_some _ _ d s.1 in
      subst (λ x. Says (Some x) rows) f.1 (
        begins_more tops _ (begun rows (length rows) s.0),
        omega arith,
        λ h. absurd (omega arith),
        λ _ n. both_ways _ (not-true _ f.0) (nested_passes tops rows n),
      )
]

-- what alike neighbours in nested rows say
neighbour_says : (rows : List Row) (d : Damage) → Nested tops rows → neighbour_damage rows ≡ Some d → Says (Some d) rows
unfolding neighbour_damage
neighbour_says rows d n e =
    let r = first_some (length rows) (twin rows) d e in
    let f = found_some _ _ d r.3 in
    subst (λ x. Says (Some x) rows) f.1 (
      n,
      starts rows r.0 f.0,
      λ j h. starts_not rows j (found_none _ _ (first_none r.0 (twin rows) r.2 j h)),
    )

-- damage to a block says nothing of rows
block_says : (label size : ℕ) (bytes : List ℕ) (rows : List Row) (k : ℕ) (d : Damage) → block_damage label size bytes k ≡ Some d → Says (Some d) rows
unfolding block_damage
block_says label size bytes rows k d e =
    let row : ℕ → Option Damage = λ j. found (foreign label size bytes (18 * k + j)) (Foreign (18 * k + j)) in
    let rows_first : Option Damage = first (count_in (block_at bytes k)) row in
    let frame : Option Damage = found (not (framed bytes k)) (Frame k) in
    elim (or_some (found (wrong_check bytes k) (Check k)) (or_else frame rows_first) d e) [
      | inl s ↦ subst (λ x. Says (Some x) rows) (found_some _ _ d s).1 tt
      | inr s ↦ elim (or_some frame rows_first d s.1) [
        | inl t ↦ subst (λ x. Says (Some x) rows) (found_some _ _ d t).1 tt
        | inr t ↦ subst (λ x. Says (Some x) rows) (found_some _ _ d (first_some _ row d t.1).3).1 tt
      ]
    ]

-- the damages of bytes, one after another
any_says : (label size : ℕ) (bytes : List ℕ) (o : Option Damage) → damage_of label size bytes ≡ o → Says o (rows_in bytes)
unfolding damage_of
any_says label size bytes None e =
    let b = or_none (found (wrong_length bytes) Length) _ e in
    let c = or_none (first (blocks_in bytes) (block_damage label size bytes)) _ b.1 in
    let d = or_none (nesting_damage (rows_in bytes)) _ c.1 in
    let n = passes_nested tops _ (nesting_passes (rows_in bytes) d.0) in
    (n, neighbours_reduced (rows_in bytes) n d.1)
any_says label size bytes (Some d) e =
    let blocks : Option Damage = first (blocks_in bytes) (block_damage label size bytes) in
    let nesting : Option Damage = nesting_damage (rows_in bytes) in
    let neighbours : Option Damage = neighbour_damage (rows_in bytes) in
    elim (or_some (found (wrong_length bytes) Length) (or_else blocks (or_else nesting neighbours)) d e) [
      | inl s ↦ subst (λ x. Says (Some x) (rows_in bytes)) (found_some _ _ d s).1 tt
      | inr s ↦ elim (or_some blocks (or_else nesting neighbours) d s.1) [
        | inl t ↦ let r = first_some _ _ d t in block_says label size bytes (rows_in bytes) r.0 d r.3
        | inr t ↦ elim (or_some nesting neighbours d t.1) [
          | inl u ↦ nesting_says (rows_in bytes) d u
          | inr u ↦ neighbour_says (rows_in bytes) d (passes_nested tops _ (nesting_passes (rows_in bytes) u.0)) u.1
        ]
      ]
    ]

-- the first damage of packed bytes says of their rows what its words are
pub says : (label size : ℕ) (bytes : List ℕ) → Says (damage_of label size bytes) (rows_in bytes)
says label size bytes = any_says label size bytes (damage_of label size bytes) refl

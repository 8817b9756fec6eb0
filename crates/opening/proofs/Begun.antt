-- The stepwise test for nested rows, as a loop over the rows makes it. Assumes nothing.
use mathlib.Core.Bool.{and-true}
use Rattle.std.proofs.Common.{◌≡◌, ℕ, zero, suc, ◌+◌, ◌-◌, ◌<◌, ◌≤◌, Bool, true, false, not, ◌&&◌, ◌||◌, leb, List, [], ◌∷◌, length, take, Some, None, Option, eqb, sym, refl, ap, ◌∙◌, ap₂, inl, inr, add-one, arith}
use Rattle.std.specs.List.{list_all, list_any, zip}
use Rattle.std.proofs.lemmas.List.{take_all}
use Rattle.std.proofs.lemmas.Bool.{cases_lt, lt-ltb, le-ltb, le-leb, lt-leb, not_from_true, not_from_false}
use Rattle.packet.specs.declared.range.Range.{Range}
use Rattle.packet.specs.Packets.{tops}
use Rattle.packet.specs.Regions.{Fit, reversed, any_reversed}
use Rattle.theory.specs.Tables.{Row}
use Rattle.theory.specs.Steps.{fits, follows, at_start, at_end, begins, passes}
use Rattle.theory.specs.Neighbours.{ranges_at}
use Rattle.theory.proofs.Steps.{begins_first, begins_step, passes_end}
use Rattle.damage.specs.declared.damage.Damage.{Damage}
use Rattle.damage.specs.declared.damage.Damage.TheVariants.{NotNested}
use Rattle.opening.specs.Damages.{found, first, nesting_damage}
use Rattle.opening.proofs.Follows.{any_is, start_is, end_is}
use Rattle.opening.specs.Firsts.{first_found, first_step, some_found, none_found, or_first, or_second}

forward : (r : Range ℕ) → leb r.low r.high ≡ not (reversed r)
forward r = elim (cases_lt r.high r.low) [
  | inl h ↦ lt-leb _ _ h ∙ sym (ap not (lt-ltb _ _ h))
  | inr h ↦ le-leb _ _ h ∙ sym (ap not (le-ltb _ _ h))
]

not_or : (a b : Bool) → (not a && not b) ≡ not (a || b)
not_or true b = refl
not_or false b = refl

-- ranges whose ends are values of their fields fit if none is reversed
fits_forward : (ts : List ℕ) (rs : List (Range ℕ)) → Fit ts rs → fits ts rs ≡ not (any_reversed rs)
fits_forward [] [] f = refl
fits_forward [] (r ∷ rs) f = absurd f
fits_forward (top ∷ rest) [] f = absurd f
fits_forward (top ∷ rest) (r ∷ rs) f =
    ap (λ t. leb r.low r.high && t && fits rest rs) (le-leb r.high top f.1)
    ∙ ap₂ (λ s t. s && t) (and-true (leb r.low r.high) ∙ forward r) (fits_forward rest rs f.2)
    ∙ not_or (reversed r) (any_reversed rs)

module _ (rows : List Row) where
  -- the damage found at a row
  abbrev pub nesting_at : ℕ → Option Damage
  nesting_at i = found (not (begins tops (take (suc i) rows))) (NotNested i)

  at_one : (row : ℕ) → begins tops (take (row + 1) rows) ≡ begins tops (take (suc row) rows)
  at_one row = ap (λ n. begins tops (take n rows)) (add-one row)

  pub begun_first : 0 < length rows → (a : List (Range ℕ)) → a ≡ ranges_at rows 0 → Fit tops a → begins tops (take 1 rows) ≡ (not (list_any reversed a) && list_all (λ r. eqb r.low 0) a)
  begun_first h a e f = begins_first tops rows h ∙ sym (ap (λ x. fits tops x && at_start x) e) ∙ ap₂ (λ s t. s && t) (fits_forward tops a f ∙ ap not (any_is a)) (start_is 0 a)

  pub begun_next : (row : ℕ) → 1 ≤ row → row < length rows → begins tops (take row rows) ≡ true → (a b : List (Range ℕ)) → a ≡ ranges_at rows (row - 1) → b ≡ ranges_at rows row → Fit tops b
      → begins tops (take (row + 1) rows) ≡ (not (list_any reversed b) && follows tops a b)
  begun_next zero s h t a b x y f = absurd (omega arith)
  begun_next (suc i) s h t a b x y f =
      let back : suc i - 1 ≡ i = omega arith in
      at_one (suc i) ∙ begins_step tops rows i h t
      ∙ sym (ap₂ (λ u v. fits tops v && follows tops u v) (x ∙ ap (ranges_at rows) back) y)
      ∙ ap (λ t. t && follows tops a b) (fits_forward tops b f ∙ ap not (any_is b))

  -- a loop's step, and its exits
  pub begun_passed : (row : ℕ) → first row nesting_at ≡ None → begins tops (take (row + 1) rows) ≡ true → first (row + 1) nesting_at ≡ None
  begun_passed row n t = first_step row nesting_at n (none_found _ _ (not_from_true _ (sym (at_one row) ∙ t)))

  pub begun_stopped : (row : ℕ) → row < length rows → first row nesting_at ≡ None → begins tops (take (row + 1) rows) ≡ false → nesting_damage rows ≡ Some (NotNested row)
  unfolding nesting_damage
  begun_stopped row h n t = or_first _ _ _ (first_found (length rows) nesting_at row (NotNested row) h n (some_found _ _ (not_from_false _ (sym (at_one row) ∙ t))))

  module _ (row : ℕ) (all : row ≡ length rows) (some : 1 ≤ row) (n : first row nesting_at ≡ None) (t : begins tops (take row rows) ≡ true) (a : List (Range ℕ)) (e : a ≡ ranges_at rows (row - 1)) (five : length a ≡ length tops) where
    at_end_is : at_end tops a ≡ list_all (λ p. eqb p.0.high p.1) (zip a tops)
    at_end_is = end_is 0 tops a five

    ends : passes tops rows ≡ at_end tops a
    ends =
        let whole : take row rows ≡ rows = take_all row rows (omega arith) in
        passes_end tops rows (row - 1) (omega arith) (ap (begins tops) (sym whole) ∙ t) ∙ sym (ap (at_end tops) e)

    left : (b : Bool) → at_end tops a ≡ b → nesting_damage rows ≡ found (not b) (NotNested row)
    unfolding nesting_damage
    left b u = or_second _ _ (ap (λ k. first k nesting_at) (sym all) ∙ n) ∙ ap₂ (λ p k. found (not p) (NotNested k)) (ends ∙ u) (sym all)

    pub ended_short : list_all (λ p. eqb p.0.high p.1) (zip a tops) ≡ false → nesting_damage rows ≡ Some (NotNested row)
    ended_short u = left false (at_end_is ∙ u)

    pub ended_whole : list_all (λ p. eqb p.0.high p.1) (zip a tops) ≡ true → (nesting_damage rows ≡ None) × (passes tops rows ≡ true)
    ended_whole u = (left true (at_end_is ∙ u), ends ∙ at_end_is ∙ u)

-- Tests of lists that the code makes by chains. Assumes nothing.
use Rattle.std.proofs.Common.{◌≡◌, ℕ, ◌<◌, ◌≤◌, Bool, true, false, List, [], ◌∷◌, length, get_or, Some, None, Option, sym, ap, ap₂, ◌∙◌, ◌⊎◌, inl, inr, refl, eqb, arith}
use Rattle.std.specs.List.{list_all, position, position_or_len}
use Rattle.std.proofs.lemmas.Bool.{cases_lt, lt-ltb, le-ltb, lt-leb, le-leb}
use Rattle.std.proofs.lemmas.Option.{none-some}
use Rattle.std.proofs.lemmas.List.Quantifiers.{position-Some}
use Rattle.std.proofs.lemmas.List.Sums.{fails_before_first}
use Rattle.packet.specs.declared.range.Range.{Range}
use Rattle.theory.specs.Holding.{before}
use Rattle.damage.specs.declared.damage.Damage.{Damage}
use Rattle.opening.specs.Damages.{all_zero, found, first}
use Rattle.opening.specs.Firsts.{some_found, none_found, first_found, none_first}

-- all bytes are 0
pub zero_is : (bytes : List ℕ) → all_zero bytes ≡ list_all (λ b. eqb b 0) bytes
zero_is [] = refl
zero_is (b ∷ bytes) = rw (zero_is bytes)

-- the first damage of rows is at the first that passes a test
module _ (test : List ℕ → Bool) (at : ℕ → Damage) (rows : List (List ℕ)) (n : ℕ) (size : n ≡ length rows) (row : ℕ → List ℕ) (is : (j : ℕ) → j < n → get_or rows j [] ≡ row j) where
  abbrev finds : ℕ → Option Damage
  finds j = found (test (row j)) (at j)

  fails : (j : ℕ) → j < n → test (get_or rows j []) ≡ false → finds j ≡ None
  fails j h e = none_found _ _ (ap test (sym (is j h)) ∙ e)

  pub first_here : (k : ℕ) → position test rows ≡ Some k → first n finds ≡ Some (at k)
  first_here k e =
      let p = position-Some test rows k [] e in
      let below : k < n = omega (arith, p.0, size) in
      first_found n finds k (at k) below (none_first k finds (λ j l. fails j (omega (arith, below, l)) (p.2 j l))) (some_found _ _ (ap test (sym (is k below)) ∙ p.1))

  pub first_nowhere : position test rows ≡ None → first n finds ≡ None
  first_nowhere e = elim (cases_lt (position_or_len test rows) (length rows)) [
    | inl h ↦ let t = lt-ltb _ _ h in absurd (none-some _ (sym (rw t at e)))
    | inr h ↦ none_first n finds (λ j l. fails j l (fails_before_first test rows j [] (omega (arith, h, l, size))))
  ]

-- one step of the test whether a packet comes before ranges, and its end
module _ (rs later : List (Range ℕ)) (r : Range ℕ) (p rest : List ℕ) (v : ℕ) (w : Bool) (so_far : before rs p ≡ w) (one : rs ≡ r ∷ later) (other : p ≡ v ∷ rest) where
  step : before (r ∷ later) (v ∷ rest) ≡ w
  step = ap₂ before (sym one) (sym other) ∙ so_far

  pub before_low : v < r.low → true ≡ w
  before_low h = let a = lt-ltb v r.low h in rw a at step

  pub before_high : r.low ≤ v → r.high < v → false ≡ w
  before_high h k = let a = le-ltb v r.low h in let b = lt-leb v r.high k in rw (a, b) at step

  pub before_inside : r.low ≤ v → v ≤ r.high → before later rest ≡ w
  before_inside h k = let a = le-ltb v r.low h in let b = le-leb v r.high k in rw (a, b) at step

pub before_end : (rs : List (Range ℕ)) (p : List ℕ) (w : Bool) → before rs p ≡ w → (rs ≡ []) ⊎ (p ≡ []) → false ≡ w
before_end [] p w e h = e
before_end (r ∷ rs) [] w e h = e
before_end (r ∷ rs) (v ∷ p) w e h = elim h [ inl a ↦ absurd (omega (arith, ap length a)) | inr b ↦ absurd (omega (arith, ap length b)) ]

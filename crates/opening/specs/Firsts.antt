-- The first damage at a place: where there is none, and where one is found. Assumes nothing.
use Rattle.std.specs.Prelude.{◌≡◌, ℕ, zero, suc, ◌+◌, ◌<◌, Bool, true, false, ◌⊎◌, Some, None, Option, ◌≢◌, refl}
use Rattle.std.proofs.Common.{sym, ap, ap₂, ◌∙◌, inl, inr, add-one, arith}
use Rattle.std.proofs.lemmas.Bool.{cases_order}
use Rattle.damage.specs.declared.damage.Damage.{Damage}
use Rattle.opening.specs.Damages.{found, or_else, first}

-- there is no damage in what is both none and some
pub none_some : (o : Option Damage) (d : Damage) → o ≡ None → o ≢ Some d
none_some o d p q = let z : ◌≡◌ {A = ℕ} 0 1 = cc in omega arith

-- a test that finds nothing is false
pub found_none : (test : Bool) (d : Damage) → found test d ≡ None → test ≡ false
found_none true d e = absurd (none_some (Some d) d e refl)
found_none false d e = refl

-- a test that finds something is true, and what it finds is its own damage
pub found_some : (test : Bool) (d e : Damage) → found test d ≡ Some e → (test ≡ true) × (d ≡ e)
found_some true d e p = (refl, cc)
found_some false d e p = absurd (none_some None e refl p)

-- a false test finds nothing
pub none_found : (test : Bool) (d : Damage) → test ≡ false → found test d ≡ None
none_found test d e = rw e

-- a true test finds its damage
pub some_found : (test : Bool) (d : Damage) → test ≡ true → found test d ≡ Some d
some_found test d e = rw e

-- if neither the first nor the second is damage, each is none
pub or_none : (a b : Option Damage) → or_else a b ≡ None → (a ≡ None) × (b ≡ None)
or_none None b e = (refl, e)
or_none (Some d) b e = absurd (none_some (Some d) d e refl)

-- if each is none, there is no damage
pub none_or : (a b : Option Damage) → a ≡ None → b ≡ None → or_else a b ≡ None
none_or a b p q = rw p q

-- the damage is the first, or the second where the first is none
pub or_some : (a b : Option Damage) (d : Damage) → or_else a b ≡ Some d → (a ≡ Some d) ⊎ ((a ≡ None) × (b ≡ Some d))
or_some None b d e = inr (refl, e)
or_some (Some c) b d e = inl e

-- the first damage comes before the second
pub or_first : (a b : Option Damage) (d : Damage) → a ≡ Some d → or_else a b ≡ Some d
or_first a b d e = rw e

-- where the first is none, the second is left
pub or_second : (a b : Option Damage) → a ≡ None → or_else a b ≡ b
or_second a b e = rw e

-- where there is no first damage, there is none at any place
pub first_none : (n : ℕ) (at : ℕ → Option Damage) → first n at ≡ None → (k : ℕ) → k < n → at k ≡ None
unfolding first
first_none zero at e k h = absurd (omega arith)
first_none (suc n) at e k h =
    let o = or_none (first n at) (at n) e in
    elim (cases_order k n) [
      | inl s ↦ ap at s ∙ o.1
      | inr s ↦ elim s [ inl l ↦ first_none n at o.0 k l | inr g ↦ absurd (omega arith) ]
    ]

-- where there is none at any place, there is no first damage
pub none_first : (n : ℕ) (at : ℕ → Option Damage) → ((k : ℕ) → k < n → at k ≡ None) → first n at ≡ None
unfolding first
none_first zero at h = refl
none_first (suc n) at h = none_or _ _ (none_first n at (λ k l. h k (omega arith))) (h n (omega arith))

-- the first damage of two that agree at each place
pub first_same : (n : ℕ) (at by : ℕ → Option Damage) → ((k : ℕ) → k < n → at k ≡ by k) → first n at ≡ first n by
unfolding first
first_same zero at by h = refl
first_same (suc n) at by h = ap₂ or_else (first_same n at by (λ k l. h k (omega arith))) (h n (omega arith))

-- damage before which there is none is the first
pub first_found : (n : ℕ) (at : ℕ → Option Damage) (k : ℕ) (d : Damage) → k < n → first k at ≡ None → at k ≡ Some d → first n at ≡ Some d
unfolding first
first_found zero at k d h e f = absurd (omega arith)
first_found (suc n) at k d h e f = elim (cases_order k n) [
  | inl s ↦ or_second (first n at) (at n) (ap (λ x. first x at) (sym s) ∙ e) ∙ ap at (sym s) ∙ f
  | inr s ↦ elim s [ inl l ↦ or_first (first n at) (at n) d (first_found n at k d l e f) | inr g ↦ absurd (omega arith) ]
]

-- one more place without damage
pub first_step : (n : ℕ) (at : ℕ → Option Damage) → first n at ≡ None → at n ≡ None → first (n + 1) at ≡ None
unfolding first
first_step n at e f = rw add-one (none_or (first n at) (at n) e f)

-- the first damage has a place, before which there is none
pub first_some : (n : ℕ) (at : ℕ → Option Damage) (d : Damage) → first n at ≡ Some d → (k : ℕ) × (k < n) × (first k at ≡ None) × (at k ≡ Some d)
unfolding first
first_some zero at d e = absurd (none_some None d refl e)
first_some (suc n) at d e = elim (or_some (first n at) (at n) d e) [
  | inl s ↦ let r = first_some n at d s in (r.0, omega arith, r.2, r.3)
  | inr s ↦ (n, omega arith, s.0, s.1)
]

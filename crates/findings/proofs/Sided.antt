-- Two lists of ranges of one length, pair by pair. Assumes nothing.
use Rattle.std.proofs.Common.{◌≡◌, ℕ, min, max, Bool, ◌&&◌, List, [], ◌∷◌, length, nat_le, refl, ap, ◌∙◌, ap₂, arith}
use Rattle.std.specs.List.{list_all, zip}
use Rattle.packet.specs.declared.range.Range.{Range}
use Rattle.findings.specs.Overlaps.{reaches_over, shares_ranges}

abbrev pub each_over : List (Range ℕ) → List (Range ℕ) → Bool
each_over a b = list_all (λ pair. nat_le pair.0.low pair.1.low && nat_le pair.1.high pair.0.high) (zip a b)

over : (a b : List (Range ℕ)) → length a ≡ length b → each_over a b ≡ reaches_over a b
unfolding reaches_over
over [] [] e = refl
over [] (s ∷ b) e = absurd (omega arith)
over (r ∷ a) [] e = absurd (omega arith)
over (r ∷ a) (s ∷ b) e = ap (λ t. nat_le r.low s.low && nat_le s.high r.high && t) (over a b (omega arith))

abbrev pub each_shares : List (Range ℕ) → List (Range ℕ) → Bool
each_shares a b = list_all (λ pair. nat_le (max pair.0.low pair.1.low) (min pair.0.high pair.1.high)) (zip a b)

shared : (a b : List (Range ℕ)) → length a ≡ length b → each_shares a b ≡ shares_ranges a b
unfolding shares_ranges
shared [] [] e = refl
shared [] (s ∷ b) e = absurd (omega arith)
shared (r ∷ a) [] e = absurd (omega arith)
shared (r ∷ a) (s ∷ b) e = ap (λ t. nat_le (max r.low s.low) (min r.high s.high) && t) (shared a b (omega arith))

-- the same of lists that are known to be a and b
module _ (x y a b : List (Range ℕ)) (ex : x ≡ a) (ey : y ≡ b) (same : length a ≡ length b) where
  pub over_each : each_over x y ≡ reaches_over a b
  over_each = ap₂ each_over ex ey ∙ over a b same

  pub shares_each : each_shares x y ≡ shares_ranges a b
  shares_each = ap₂ each_shares ex ey ∙ shared a b same

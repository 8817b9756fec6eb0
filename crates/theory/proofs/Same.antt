-- The test `same_rows` tells equal lists of rows from different ones. Assumes nothing.
use Rattle.std.proofs.Common.{◌≡◌, ℕ, true, false, ◌≢◌, ◌⊎◌, List, [], ◌∷◌, sym, refl, ap, ◌∙◌, inl, inr, arith}
use Rattle.std.proofs.lemmas.Bool.{both_ways, cases_Bool}
use Rattle.std.proofs.lemmas.Bool.Decides.{nat_tests}
use Rattle.packet.specs.declared.range.Range.{Range}
use Rattle.theory.specs.Tables.{Row, same_ranges, same_rows}

ranges_eq : (a b : List (Range ℕ)) → same_ranges a b ≡ true → a ≡ b
ranges_eq [] [] e = refl
ranges_eq [] (b ∷ ys) e = cc
ranges_eq (a ∷ xs) [] e = cc
ranges_eq (a ∷ xs) (b ∷ ys) e = grind (arith, nat_tests, ranges_eq xs ys)

ranges_same : (a : List (Range ℕ)) → same_ranges a a ≡ true
ranges_same [] = refl
ranges_same (a ∷ xs) = grind (arith, nat_tests, ranges_same xs)

rows_eq : (a b : List Row) → same_rows a b ≡ true → a ≡ b
rows_eq [] [] e = refl
rows_eq [] (b ∷ ys) e = cc
rows_eq (a ∷ xs) [] e = cc
rows_eq (a ∷ xs) (b ∷ ys) e = grind (arith, nat_tests, ranges_eq a.ranges b.ranges, rows_eq xs ys)

pub rows_same : (a : List Row) → same_rows a a ≡ true
rows_same [] = refl
rows_same (a ∷ xs) = grind (arith, nat_tests, ranges_same a.ranges, rows_same xs)

-- either the test passes and the lists are equal, or it fails and they differ
pub same_tells : (a b : List Row) → ((same_rows a b ≡ true) × (a ≡ b)) ⊎ ((same_rows a b ≡ false) × (a ≢ b))
same_tells a b = elim (cases_Bool (same_rows a b)) [
  | inl e ↦ inl (e, rows_eq a b e)
  | inr e ↦ inr (e, λ p. both_ways _ e (ap (same_rows a) (sym p) ∙ rows_same a))
]

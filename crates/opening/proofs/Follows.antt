-- May one row stand right behind another? By the place of the first field in which they differ. Assumes nothing.
use Rattle.std.proofs.Common.{◌≡◌, ℕ, zero, suc, ◌+◌, ◌<◌, ◌≤◌, Bool, true, false, cond, not, ◌&&◌, eqb, List, [], ◌∷◌, length, get_or, drop, Some, None, refl, ap, ◌∙◌, sym, inl, inr, arith}
use Rattle.std.specs.List.{list_all, list_any, position, position_or_len, zip}
use Rattle.std.proofs.lemmas.Bool.{cases_lt, lt-ltb, ltb-true}
use Rattle.std.proofs.lemmas.Option.{none-some, cond_some}
use Rattle.packet.specs.declared.range.Range.{Range}
use Rattle.packet.specs.Regions.{reversed, any_reversed}
use Rattle.theory.specs.Steps.{follows, at_start, at_end}
use Rattle.theory.specs.Neighbours.{first_difference}

-- do the two ranges differ?
abbrev pub differ : Range ℕ × Range ℕ → Bool
differ p = not (eqb p.0.low p.1.low && eqb p.0.high p.1.high)

-- tests of all ranges
pub any_is : (rs : List (Range ℕ)) → any_reversed rs ≡ list_any reversed rs
any_is [] = refl
any_is (r ∷ rs) = rw (any_is rs)

pub start_is : (n : ℕ) (rs : List (Range ℕ)) → at_start (drop n rs) ≡ list_all (λ r. eqb r.low 0) (drop n rs)
start_is n rs = all (drop n rs)
  where
    all : (rs : List (Range ℕ)) → at_start rs ≡ list_all (λ r. eqb r.low 0) rs
    all [] = refl
    all (r ∷ rs) = rw (all rs)

pub end_is : (n : ℕ) (ts : List ℕ) (rs : List (Range ℕ)) → length rs ≡ length ts → at_end (drop n ts) (drop n rs) ≡ list_all (λ p. eqb p.0.high p.1) (drop n (zip rs ts))
end_is zero [] [] e = refl
end_is (suc n) [] [] e = refl
end_is n [] (r ∷ rs) e = absurd (omega arith)
end_is n (t ∷ ts) [] e = absurd (omega arith)
end_is zero (t ∷ ts) (r ∷ rs) e = ap (λ x. eqb r.high t && x) (end_is zero ts rs (omega arith))
end_is (suc n) (t ∷ ts) (r ∷ rs) e = end_is n ts rs (omega arith)

-- as many pairs as there are ranges
pub length_pairs : (a b : List (Range ℕ)) → length a ≡ length b → length (zip a b) ≡ length a
length_pairs [] b e = refl
length_pairs (x ∷ a) [] e = absurd (omega arith)
length_pairs (x ∷ a) (y ∷ b) e = ap suc (length_pairs a b (omega arith))

-- the place of the first two that differ
pub differ_at : (a b : List (Range ℕ)) → length a ≡ length b → position_or_len differ (zip a b) ≡ first_difference a b
differ_at [] b e = refl
differ_at (x ∷ a) [] e = absurd (omega arith)
differ_at (x ∷ a) (y ∷ b) e = go (eqb x.low y.low && eqb x.high y.high) (differ_at a b (omega arith))
  where
    go : (t : Bool) → position_or_len differ (zip a b) ≡ first_difference a b → cond (not (not t)) (1 + position_or_len differ (zip a b)) 0 ≡ cond t (suc (first_difference a b)) 0
    go true ih = omega (arith, ih)
    go false ih = refl

-- none differ
pub follows_none : (tops : List ℕ) (a b : List (Range ℕ)) → length a ≡ length tops → length b ≡ length tops → length tops ≤ first_difference a b → follows tops a b ≡ false
follows_none [] a b x y h = refl
follows_none (top ∷ rest) [] b x y h = absurd (omega arith)
follows_none (top ∷ rest) (r ∷ a) [] x y h = absurd (omega arith)
follows_none (top ∷ rest) (r ∷ a) (s ∷ b) x y h = go (eqb r.low s.low && eqb r.high s.high) h (follows_none rest a b (omega arith) (omega arith))
  where
    go : (t : Bool) → suc (length rest) ≤ cond t (suc (first_difference a b)) 0 → (length rest ≤ first_difference a b → follows rest a b ≡ false)
        → cond t (follows rest a b) (eqb s.low (suc r.high) && at_end rest a && at_start b) ≡ false
    go true k ih = ih (omega arith)
    go false k ih = absurd (omega arith)

-- what is asked of rows that first differ in a field
pub follows_at : (tops : List ℕ) (a b : List (Range ℕ)) (d : Range ℕ) → length a ≡ length tops → length b ≡ length tops → first_difference a b < length tops
    → follows tops a b
    ≡ (eqb (get_or b (first_difference a b) d).low (suc (get_or a (first_difference a b) d).high) && at_end (drop (suc (first_difference a b)) tops) (drop (suc (first_difference a b)) a)
    && at_start (drop (suc (first_difference a b)) b))
follows_at [] a b d x y h = absurd (omega arith)
follows_at (top ∷ rest) [] b d x y h = absurd (omega arith)
follows_at (top ∷ rest) (r ∷ a) [] d x y h = absurd (omega arith)
follows_at (top ∷ rest) (r ∷ a) (s ∷ b) d x y h = go (follows_at rest a b d (omega arith) (omega arith)) (eqb r.low s.low && eqb r.high s.high) h
  where
    go : (first_difference a b < length rest → follows rest a b
        ≡ (eqb (get_or b (first_difference a b) d).low (suc (get_or a (first_difference a b) d).high) && at_end (drop (suc (first_difference a b)) rest) (drop (suc (first_difference a b)) a)
        && at_start (drop (suc (first_difference a b)) b)))
        → (t : Bool) → cond t (suc (first_difference a b)) 0 < suc (length rest)
        → cond t (follows rest a b) (eqb s.low (suc r.high) && at_end rest a && at_start b)
        ≡ (eqb (get_or (s ∷ b) (cond t (suc (first_difference a b)) 0) d).low (suc (get_or (r ∷ a) (cond t (suc (first_difference a b)) 0) d).high)
        && at_end (drop (suc (cond t (suc (first_difference a b)) 0)) (top ∷ rest)) (drop (suc (cond t (suc (first_difference a b)) 0)) (r ∷ a))
        && at_start (drop (suc (cond t (suc (first_difference a b)) 0)) (s ∷ b)))
    go ih true k = ih (omega arith)
    go ih false k = refl

-- where the first two that differ stand, and what if none do
module _ (a b : List (Range ℕ)) (same : length a ≡ length b) where
  pub difference_some : (f : ℕ) → position differ (zip a b) ≡ Some f → (f < length a) × (f ≡ first_difference a b)
  difference_some f e =
      let s = cond_some _ _ _ e in
      (omega (arith, s.1, ltb-true _ _ s.0, length_pairs a b same), sym s.1 ∙ differ_at a b same)

  pub difference_none : position differ (zip a b) ≡ None → length a ≤ first_difference a b
  difference_none e = elim (cases_lt (position_or_len differ (zip a b)) (length (zip a b))) [
    | inl h ↦ let t = lt-ltb _ _ h in absurd (none-some _ (sym (rw t at e)))
    | inr h ↦ omega (arith, h, length_pairs a b same, differ_at a b same)
  ]

-- The tests on ranges mean what they say of packets. Assumes nothing.
use Rattle.std.proofs.Common.{◌≡◌, ℕ, ◌≤◌, min, max, true, false, List, [], ◌∷◌, Decides, refl, inl, inr, arith}
use Rattle.std.proofs.lemmas.Bool.{false≢true, and_parts, or_cases, or_parts, or_left, or_right, leb-true, ltb-false, cases_Bool}
use Rattle.std.proofs.lemmas.Bool.Decides.{nat_tests}
use Rattle.packet.specs.declared.range.Range.{Range}
use Rattle.packet.specs.Packets.{Within, tops}
use Rattle.packet.specs.Regions.{reversed, holds, any_reversed, Fit}
use Rattle.findings.specs.Overlaps.{Covers, Shares, reaches_over, covers_ranges, shares_ranges}

-- reversed ranges hold nothing
none_held : (rs : List (Range ℕ)) (p : List ℕ) → any_reversed rs ≡ true → holds rs p ≡ true → ⊥
none_held [] p h k = false≢true h
none_held (r ∷ rs) [] h k = false≢true k
none_held (r ∷ rs) (v ∷ p) h k = grind (arith, nat_tests, none_held rs p)

over_holds : (a b : List (Range ℕ)) (p : List ℕ) → reaches_over a b ≡ true → holds b p ≡ true → holds a p ≡ true
unfolding reaches_over
over_holds [] [] p h k = k
over_holds [] (s ∷ b) p h k = absurd (false≢true h)
over_holds (r ∷ a) [] p h k = absurd (false≢true h)
over_holds (r ∷ a) (s ∷ b) [] h k = absurd (false≢true k)
over_holds (r ∷ a) (s ∷ b) (v ∷ p) h k = grind (arith, nat_tests, over_holds a b p)

-- the packets at the low and at the high corner of ranges
lows : List (Range ℕ) → List ℕ
lows [] = []
lows (r ∷ rs) = r.low ∷ lows rs

highs : List (Range ℕ) → List ℕ
highs [] = []
highs (r ∷ rs) = r.high ∷ highs rs

forward : (r : Range ℕ) (rs : List (Range ℕ)) → any_reversed (r ∷ rs) ≡ false → (r.low ≤ r.high) × (any_reversed rs ≡ false)
forward r rs h = let p = or_parts (reversed r) (any_reversed rs) h in (ltb-false r.high r.low p.0, p.1)

lows_held : (ts : List ℕ) (rs : List (Range ℕ)) → Fit ts rs → any_reversed rs ≡ false → Within ts (lows rs) × (holds rs (lows rs) ≡ true)
unfolding lows
lows_held [] [] f h = (tt, refl)
lows_held [] (r ∷ rs) f h = absurd f
lows_held (t ∷ ts) [] f h = absurd f
lows_held (t ∷ ts) (r ∷ rs) f h =
    let fw = forward r rs h in
    let more = lows_held ts rs f.2 fw.1 in
    ((f.0, more.0), grind (arith, nat_tests, more.1))

highs_held : (ts : List ℕ) (rs : List (Range ℕ)) → Fit ts rs → any_reversed rs ≡ false → Within ts (highs rs) × (holds rs (highs rs) ≡ true)
unfolding highs
highs_held [] [] f h = (tt, refl)
highs_held [] (r ∷ rs) f h = absurd f
highs_held (t ∷ ts) [] f h = absurd f
highs_held (t ∷ ts) (r ∷ rs) f h =
    let fw = forward r rs h in
    let more = highs_held ts rs f.2 fw.1 in
    ((f.1, more.0), grind (arith, nat_tests, more.1))

-- ranges that hold both corners reach over
corners_over : (a b : List (Range ℕ)) → holds a (lows b) ≡ true → holds a (highs b) ≡ true → reaches_over a b ≡ true
unfolding lows highs reaches_over
corners_over [] [] h k = refl
corners_over [] (s ∷ b) h k = absurd (false≢true h)
corners_over (r ∷ a) [] h k = absurd (false≢true h)
corners_over (r ∷ a) (s ∷ b) h k = grind (arith, nat_tests, corners_over a b)

pub covers_means : (a b : List (Range ℕ)) → Fit tops b → Decides (covers_ranges a b) (Covers a b)
unfolding Covers
covers_means a b f = (forth, back)
  where
    forth : covers_ranges a b ≡ true → Covers a b
    forth h p w k = elim (or_cases (any_reversed b) (reaches_over a b) h) [
      | inl e ↦ absurd (none_held b p e k)
      | inr e ↦ over_holds a b p e k
    ]

    back : Covers a b → covers_ranges a b ≡ true
    back c = elim (cases_Bool (any_reversed b)) [
      | inl e ↦ or_left (any_reversed b) (reaches_over a b) e
      | inr e ↦
          let l = lows_held tops b f e in
          let u = highs_held tops b f e in
          or_right (any_reversed b) (reaches_over a b) (corners_over a b (c (lows b) l.0 l.1) (c (highs b) u.0 u.1))
    ]

-- the packet at the later starts
starts : List (Range ℕ) → List (Range ℕ) → List ℕ
starts [] b = []
starts (r ∷ a) [] = []
starts (r ∷ a) (s ∷ b) = max r.low s.low ∷ starts a b

starts_held : (ts : List ℕ) (a b : List (Range ℕ)) → Fit ts a → Fit ts b → shares_ranges a b ≡ true → Within ts (starts a b) × (holds a (starts a b) ≡ true) × (holds b (starts a b) ≡ true)
unfolding starts shares_ranges
starts_held [] [] [] f g h = (tt, refl, refl)
starts_held [] [] (s ∷ b) f g h = absurd g
starts_held [] (r ∷ a) b f g h = absurd f
starts_held (t ∷ ts) [] b f g h = absurd f
starts_held (t ∷ ts) (r ∷ a) [] f g h = absurd g
starts_held (t ∷ ts) (r ∷ a) (s ∷ b) f g h =
    let parts = and_parts _ _ h in
    let met = leb-true (max r.low s.low) (min r.high s.high) parts.0 in
    let more = starts_held ts a b f.2 g.2 parts.1 in (
      (omega (arith, f.0, g.0), more.0),
      grind (arith, nat_tests, more.1),
      grind (arith, nat_tests, more.2),
    )

held_shares : (a b : List (Range ℕ)) (p : List ℕ) → holds a p ≡ true → holds b p ≡ true → shares_ranges a b ≡ true
unfolding shares_ranges
held_shares [] [] p h k = refl
held_shares [] (s ∷ b) [] h k = absurd (false≢true k)
held_shares [] (s ∷ b) (v ∷ p) h k = absurd (false≢true h)
held_shares (r ∷ a) b [] h k = absurd (false≢true h)
held_shares (r ∷ a) [] (v ∷ p) h k = absurd (false≢true k)
held_shares (r ∷ a) (s ∷ b) (v ∷ p) h k = grind (arith, nat_tests, held_shares a b p)

pub shares_means : (a b : List (Range ℕ)) → Fit tops a → Fit tops b → Decides (shares_ranges a b) (Shares a b)
unfolding Shares
shares_means a b f g = (λ h. let s = starts_held tops a b f g h in (starts a b, s.0, s.1, s.2), λ s. held_shares a b s.0 s.2 s.3)

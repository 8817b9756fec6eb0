-- What a lookup finds in a list of groups. Assumes nothing.
use Rattle.std.proofs.Common.{◌≡◌, ℕ, ◌<◌, ◌≤◌, cond, List, [], ◌∷◌, ◌++◌, refl, ap, ◌∙◌, arith}
use mathlib.Core.Bool.{and-false}
use Rattle.std.proofs.lemmas.Bool.{le-leb, lt-leb}
use Rattle.packet.specs.Regions.{holds}
use Rattle.theory.specs.Tables.{Row, Group, lookup_or, spread, flat, Upto}

-- a lookup in two lists of rows goes on in the second where the first has no row
pub lookup-append : (d : ℕ) (xs ys : List Row) (p : List ℕ) → lookup_or d (xs ++ ys) p ≡ lookup_or (lookup_or d ys p) xs p
lookup-append d [] ys p = refl
lookup-append d (x ∷ xs) ys p = ap (cond (holds x.ranges p) x.decision) (lookup-append d xs ys p)

-- a value of a group is found in the group's rows
pub spread_in : (d low high : ℕ) (rows : List Row) (v : ℕ) (q : List ℕ) → low ≤ v → v ≤ high → lookup_or d (spread low high rows) (v ∷ q) ≡ lookup_or d rows q
spread_in d low high [] v q l h = refl
spread_in d low high (r ∷ rows) v q l h = rw (le-leb low v l, le-leb v high h, spread_in d low high rows v q l h)

spread_below : (d low high : ℕ) (rows : List Row) (v : ℕ) (q : List ℕ) → v < low → lookup_or d (spread low high rows) (v ∷ q) ≡ d
spread_below d low high [] v q l = refl
spread_below d low high (r ∷ rows) v q l = rw (lt-leb low v l, spread_below d low high rows v q l)

spread_above : (d low high : ℕ) (rows : List Row) (v : ℕ) (q : List ℕ) → high < v → lookup_or d (spread low high rows) (v ∷ q) ≡ d
spread_above d low high [] v q l = refl
spread_above d low high (r ∷ rows) v q l = rw (lt-leb v high l, and-false, spread_above d low high rows v q l)

-- a value past all groups is found in none
past : (d n : ℕ) (gs : List Group) (v : ℕ) (q : List ℕ) → Upto n gs → n ≤ v → lookup_or d (flat gs) (v ∷ q) ≡ d
past d n [] v q u h = refl
past d n (g ∷ gs) v q u h =
    lookup-append d (flat gs) (spread g.low g.high g.rows) (v ∷ q)
    ∙ past (lookup_or d (spread g.low g.high g.rows) (v ∷ q)) g.low gs v q u.2 (omega arith)
    ∙ spread_above d g.low g.high g.rows v q (omega arith)

-- a value of the last group is found there
pub in_last : (d : ℕ) (g : Group) (gs : List Group) (v : ℕ) (q : List ℕ) → Upto g.low gs → g.low ≤ v → v ≤ g.high → lookup_or d (flat (g ∷ gs)) (v ∷ q) ≡ lookup_or d g.rows q
in_last d g gs v q u l h =
    lookup-append d (flat gs) (spread g.low g.high g.rows) (v ∷ q)
    ∙ past (lookup_or d (spread g.low g.high g.rows) (v ∷ q)) g.low gs v q u l
    ∙ spread_in d g.low g.high g.rows v q l h

-- a value before the last group is found among the others
pub before_last : (d : ℕ) (g : Group) (gs : List Group) (v : ℕ) (q : List ℕ) → v < g.low → lookup_or d (flat (g ∷ gs)) (v ∷ q) ≡ lookup_or d (flat gs) (v ∷ q)
before_last d g gs v q h =
    lookup-append d (flat gs) (spread g.low g.high g.rows) (v ∷ q)
    ∙ ap (λ (e : ℕ). lookup_or e (flat gs) (v ∷ q)) (spread_below d g.low g.high g.rows v q h)

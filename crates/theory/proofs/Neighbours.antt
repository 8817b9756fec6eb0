-- Nested rows are reduced exactly if no row starts a range that is alike its left neighbour. Assumes nothing.
use Rattle.std.proofs.Common.{◌≡◌, ℕ, zero, suc, ◌<◌, Bool, true, false, not, ◌&&◌, List, [], ◌∷◌, ◌++◌, length, sym, refl, ap, ◌∙◌, ap₂, inl, inr, arith}
use mathlib.Core.Option.{Option, none, some}
use Rattle.std.proofs.lemmas.Bool.{both_ways, and_parts, not-true, cases_Bool, eq-eqb, ne_eqb}
use Rattle.std.proofs.lemmas.Bool.Decides.{nat_tests}
use Rattle.packet.specs.declared.range.Range.{Range}
use Rattle.packet.specs.Packets.{Within}
use Rattle.theory.specs.Tables.{Row, Group, lookup, spread, flat, Upto, Each, Nested, Alike, Apart, Reduced, same_rows, table}
use Rattle.theory.specs.Steps.{last}
use Rattle.theory.specs.Neighbours.{alike, alike_neighbours, ranges_at, starts_alike}
use Rattle.theory.proofs.Same.{rows_same, same_tells}
use Rattle.theory.proofs.Look.{in_last, before_last}
use Rattle.theory.proofs.Groups.{each_map, each_both}
use Rattle.theory.proofs.Theorems.{table_ext, table_decides}
use Rattle.theory.proofs.Steps.{last_append, last_spread, nested_some}
use Rattle.theory.proofs.Unique.{reduced_nested}

-- the test passes exactly if the two decide every packet alike
pub alike_tells : (tops : List ℕ) (m m' : List ℕ → ℕ)
    → (alike tops m m' ≡ true → (q : List ℕ) → Within tops q → m q ≡ m' q) × (((q : List ℕ) → Within tops q → m q ≡ m' q) → alike tops m m' ≡ true)
unfolding alike
alike_tells tops m m' = (one, λ h. rw (table_ext tops m m' h) (rows_same (table tops m')))
  where
    one : alike tops m m' ≡ true → (q : List ℕ) → Within tops q → m q ≡ m' q
    one t q w = elim (same_tells (table tops m) (table tops m')) [
      | inl e ↦ sym (table_decides tops m q w) ∙ ap (λ x. lookup x q) e.1 ∙ table_decides tops m' q w
      | inr e ↦ absurd (both_ways _ e.0 t)
    ]

alike_ext : (tops : List ℕ) (m m' k k' : List ℕ → ℕ) → ((q : List ℕ) → m q ≡ k q) → ((q : List ℕ) → m' q ≡ k' q) → alike tops m m' ≡ alike tops k k'
unfolding alike
alike_ext tops m m' k k' e e' = ap₂ same_rows (table_ext tops m k (λ q _. e q)) (table_ext tops m' k' (λ q _. e' q))

-- may ranges b come after the row before, so that P is false of the two?
abbrev may : (List (Range ℕ) → List (Range ℕ) → Bool) → Option (List (Range ℕ)) → List (Range ℕ) → Bool
may P none b = true
may P (some a) b = not (P a b)

-- is P false of each two rows of which one follows the other, after the row before?
abbrev calm : (List (Range ℕ) → List (Range ℕ) → Bool) → Option (List (Range ℕ)) → List Row → Bool
calm P o [] = true
calm P o (r ∷ rows) = may P o r.ranges && calm P (some r.ranges) rows

calm-append : (P : List (Range ℕ) → List (Range ℕ) → Bool) (o : Option (List (Range ℕ))) (xs ys : List Row) → calm P o (xs ++ ys) ≡ (calm P o xs && calm P (last o xs) ys)
calm-append P o [] ys = refl
calm-append P o (x ∷ xs) ys = grind (arith, nat_tests, calm-append P (some x.ranges) xs ys)

-- the rows under one range
module _ (P P' : List (Range ℕ) → List (Range ℕ) → Bool) (r : Range ℕ) (same : (a b : List (Range ℕ)) → P (r ∷ a) (r ∷ b) ≡ P' a b) where
  calm-spread : (a : List (Range ℕ)) (rows : List Row) → calm P (some (r ∷ a)) (spread r.low r.high rows) ≡ calm P' (some a) rows
  calm-spread a [] = refl
  calm-spread a (x ∷ rows) = grind (arith, nat_tests, same a x.ranges, calm-spread x.ranges rows)

  calm_enter : (o : Option (List (Range ℕ))) (rows : List Row) → 0 < length rows → calm P o (spread r.low r.high rows) ≡ (may P o (r ∷ ranges_at rows 0) && calm P' none rows)
  calm_enter o [] h = absurd (omega arith)
  calm_enter o (x ∷ rows) h = ap (λ b. may P o (r ∷ x.ranges) && b) (calm-spread x.ranges rows)

-- rows that follow one another in one group are alike as in the group's rows
within_group : (top : ℕ) (rest : List ℕ) (rows inner : List Row) (r : Range ℕ) → ((q : List ℕ) → lookup rows (r.low ∷ q) ≡ lookup inner q)
    → (a b : List (Range ℕ)) → alike_neighbours (top ∷ rest) rows (r ∷ a) (r ∷ b) ≡ alike_neighbours rest inner a b
within_group top rest rows inner r e a b = rw (eq-eqb r.low r.low refl, eq-eqb r.high r.high refl) (alike_ext _ _ _ _ _ (λ q. e _) (λ q. e _))

-- rows that follow one another in two groups are alike if the groups' rows are
across_groups : (top : ℕ) (rest : List ℕ) (rows xs ys : List Row) (r s : Range ℕ) (a b : List (Range ℕ)) → r.low < s.low
    → ((q : List ℕ) → lookup rows (r.low ∷ q) ≡ lookup xs q) → ((q : List ℕ) → lookup rows (s.low ∷ q) ≡ lookup ys q)
    → alike_neighbours (top ∷ rest) rows (r ∷ a) (s ∷ b) ≡ alike rest (lookup xs) (lookup ys)
across_groups top rest rows xs ys r s a b h e e' = rw (ne_eqb r.low s.low (omega arith)) (alike_ext _ _ _ _ _ e e')

-- is the last group g not alike the one before it?
abbrev differs : List ℕ → Group → List Group → Bool
differs rest g [] = true
differs rest g (h ∷ gs) = not (alike rest (lookup h.rows) (lookup g.rows))

-- is no group alike the one before it, and each group's rows calm?
abbrev calm_groups : List ℕ → List Group → Bool
calm_groups rest [] = true
calm_groups rest (g ∷ gs) = calm_groups rest gs && (differs rest g gs && calm (alike_neighbours rest g.rows) none g.rows)

last_there : (a : List (Range ℕ)) (rows : List Row) → (b : List (Range ℕ)) × (last (some a) rows ≡ some b)
last_there a [] = (a, refl)
last_there a (r ∷ rows) = last_there r.ranges rows

last_of : (rows : List Row) → 0 < length rows → (b : List (Range ℕ)) × (last none rows ≡ some b)
last_of [] h = absurd (omega arith)
last_of (r ∷ rows) h = last_there r.ranges rows

-- groups that decide their values as the whole rows do
module _ (top : ℕ) (rest : List ℕ) (whole : List Row) where
  abbrev Agree : ℕ → List Group → Type 0
  Agree n gs = (v : ℕ) (q : List ℕ) → v < n → lookup whole (v ∷ q) ≡ lookup (flat gs) (v ∷ q)

  -- the last group's rows are what the whole says of its values
  last_agrees : (n : ℕ) (g : Group) (gs : List Group) → Upto n (g ∷ gs) → Agree n (g ∷ gs) → (q : List ℕ) → lookup whole (g.low ∷ q) ≡ lookup g.rows q
  last_agrees n g gs u k q = k g.low q (omega arith) ∙ in_last 0 g gs g.low q u.2 (omega arith) u.1

  enter_calm : (g : Group) (gs : List Group) (b : List (Range ℕ)) → Upto g.low gs → Each (λ g. 0 < length g.rows) gs → Agree g.low gs → ((q : List ℕ) → lookup whole (g.low ∷ q) ≡ lookup g.rows q)
      → may (alike_neighbours (top ∷ rest) whole) (last none (flat gs)) (record { low = g.low; high = g.high } ∷ b) ≡ differs rest g gs
  enter_calm g [] b u e k here = refl
  enter_calm g (h ∷ gs) b u e k here =
      let l = last_of h.rows e.0 in
      rw (last_append none (flat gs) (spread h.low h.high h.rows), last_spread h.low h.high (last none (flat gs)) l.0 h.rows l.1)
      (ap not (across_groups top rest whole h.rows g.rows (record { low = h.low; high = h.high }) (record { low = g.low; high = g.high }) l.0 b (omega arith) (last_agrees g.low h gs u k) here))

  flat_calm : (n : ℕ) (gs : List Group) → Upto n gs → Each (λ g. 0 < length g.rows) gs → Agree n gs → calm (alike_neighbours (top ∷ rest) whole) none (flat gs) ≡ calm_groups rest gs
  flat_calm n [] u e k = refl
  flat_calm n (g ∷ gs) u e k =
      let r : Range ℕ = record { low = g.low; high = g.high } in
      let here = last_agrees n g gs u k in
      let fewer : Agree g.low gs = λ v q h. k v q (omega arith) ∙ before_last 0 g gs v q h in
      calm-append (alike_neighbours (top ∷ rest) whole) none (flat gs) (spread g.low g.high g.rows)
      ∙ ap₂ (λ a b. a && b) (flat_calm g.low gs u.2 e.1 fewer)
      (calm_enter _ _ r (within_group top rest whole g.rows r here) (last none (flat gs)) g.rows e.0
      ∙ ap (λ b. b && calm (alike_neighbours rest g.rows) none g.rows) (enter_calm g gs (ranges_at g.rows 0) u.2 e.1 fewer here))

-- no group is alike the one before it, and each group's rows are calm
abbrev Calm : List ℕ → List Group → Type 0
Calm rest gs = Apart rest gs × Each (λ g. calm (alike_neighbours rest g.rows) none g.rows ≡ true) gs

alike_false : (rest : List ℕ) (a b : List Row) → ¬ (Alike rest a b) → alike rest (lookup a) (lookup b) ≡ false
alike_false rest a b n = elim (cases_Bool (alike rest (lookup a) (lookup b))) [
  | inl t ↦ absurd (n ((alike_tells rest (lookup a) (lookup b)).0 t))
  | inr f ↦ f
]

from_calm : (rest : List ℕ) (gs : List Group) → calm_groups rest gs ≡ true → Calm rest gs
from_calm rest [] e = (tt, tt)
from_calm rest (g ∷ []) e = (tt, (e, tt))
from_calm rest (g ∷ h ∷ gs) e =
    let p = and_parts _ _ e in
    let q = and_parts _ _ p.1 in
    let c = from_calm rest (h ∷ gs) p.0 in
    let apart : ¬ (Alike rest h.rows g.rows) = λ a. both_ways _ (not-true _ q.0) ((alike_tells rest (lookup h.rows) (lookup g.rows)).1 a) in
    ((apart, c.0), (q.1, c.1))

to_calm : (rest : List ℕ) (gs : List Group) → Calm rest gs → calm_groups rest gs ≡ true
to_calm rest [] c = refl
to_calm rest (g ∷ []) c = c.1.0
to_calm rest (g ∷ h ∷ gs) c = grind (arith, nat_tests, to_calm rest (h ∷ gs) (c.0.1, c.1.1), alike_false rest h.rows g.rows c.0.0, c.1.0)

calm_reduced : (tops : List ℕ) (rows : List Row) → Nested tops rows → calm (alike_neighbours tops rows) none rows ≡ true → Reduced tops rows
calm_reduced [] rows n c = n
calm_reduced (top ∷ rest) rows n c =
    let some_rows = each_map (λ g. Nested rest g.rows) (λ g. 0 < length g.rows) (λ g. nested_some rest g.rows) n.0 n.3 in
    let d = from_calm rest n.0 (sym (flat_calm top rest (flat n.0) (suc top) n.0 n.2 some_rows (λ v q h. refl)) ∙ (rw n.1 at c)) in
    (n.0, n.1, n.2, d.0, each_map _ _ (λ g e. calm_reduced rest g.rows e.0 e.1) n.0 (each_both _ _ n.0 n.3 d.1))

reduced_calm : (tops : List ℕ) (rows : List Row) → Reduced tops rows → calm (alike_neighbours tops rows) none rows ≡ true
reduced_calm [] rows r = rw r.1
reduced_calm (top ∷ rest) rows r =
    let some_rows = each_map (λ g. Reduced rest g.rows) (λ g. 0 < length g.rows) (λ g e. nested_some rest g.rows (reduced_nested rest g.rows e)) r.0 r.4 in
    rw r.1 (flat_calm top rest (flat r.0) (suc top) r.0 r.2 some_rows (λ v q h. refl) ∙ to_calm rest r.0 (r.3, each_map _ _ (λ g. reduced_calm rest g.rows) r.0 r.4))

calm-place : (P : List (Range ℕ) → List (Range ℕ) → Bool) (o : Option (List (Range ℕ))) (rows : List Row) → calm P o rows ≡ true → (i : ℕ) → suc i < length rows → P (ranges_at rows i) (ranges_at rows (suc i)) ≡ false
calm-place P o [] c i h = absurd (omega arith)
calm-place P o (r ∷ []) c i h = absurd (omega arith)
calm-place P o (r ∷ s ∷ rows) c zero h = grind (arith, nat_tests)
calm-place P o (r ∷ s ∷ rows) c (suc i) h = calm-place P (some r.ranges) (s ∷ rows) (and_parts _ _ c).1 i (omega arith)

place_calm : (P : List (Range ℕ) → List (Range ℕ) → Bool) (r : Row) (rows : List Row) → ((i : ℕ) → i < length rows → P (ranges_at (r ∷ rows) i) (ranges_at (r ∷ rows) (suc i)) ≡ false) → calm P (some r.ranges) rows ≡ true
place_calm P r [] h = refl
place_calm P r (s ∷ rows) h = grind (arith, nat_tests, h 0 (omega arith), place_calm P s rows (λ i l. h (suc i) (omega arith)))

tested_calm : (P : List (Range ℕ) → List (Range ℕ) → Bool) (rows : List Row) → ((i : ℕ) → suc i < length rows → P (ranges_at rows i) (ranges_at rows (suc i)) ≡ false) → calm P none rows ≡ true
tested_calm P [] h = refl
tested_calm P (r ∷ rows) h = place_calm P r rows (λ i l. h i (omega arith))

-- nested rows are reduced if no row starts a range that is alike its left neighbour
pub tested_reduced : (tops : List ℕ) (rows : List Row) → Nested tops rows → ((i : ℕ) → i < length rows → starts_alike tops rows i ≡ false) → Reduced tops rows
tested_reduced tops rows n h = calm_reduced tops rows n (tested_calm (alike_neighbours tops rows) rows (λ i l. h (suc i) l))

-- in reduced rows no row starts a range that is alike its left neighbour
pub reduced_tested : (tops : List ℕ) (rows : List Row) → Reduced tops rows → (i : ℕ) → i < length rows → starts_alike tops rows i ≡ false
reduced_tested tops rows r zero h = refl
reduced_tested tops rows r (suc i) h = calm-place (alike_neighbours tops rows) none rows (reduced_calm tops rows r) i h

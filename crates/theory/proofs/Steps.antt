-- The stepwise test passes exactly the nested rows. Assumes nothing.
use Rattle.std.proofs.Common.{◌≡◌, ℕ, zero, suc, ◌<◌, ◌≤◌, true, ◌&&◌, ◌⊎◌, List, [], ◌∷◌, ◌++◌, length, get_or, take, sym, refl, ap, ◌∙◌, subst, ap₂, inl, inr, append_assoc, append-nil, arith, take-suc}
use mathlib.Core.List.{map-append}
use mathlib.Core.Bool.{and-true}
use mathlib.Core.Option.{Option, none, some}
use Rattle.std.proofs.lemmas.List.{take_all}
use Rattle.std.proofs.lemmas.Bool.{false≢true, cases_lt, and_parts, and_from, eqb-true, leb-true}
use Rattle.std.proofs.lemmas.Bool.Decides.{nat_tests}
use Rattle.packet.specs.declared.range.Range.{Range}
use Rattle.theory.specs.Tables.{Row, Group, spread, flat, Upto, Each, Nested, table}
use Rattle.theory.specs.Steps.{fits, at_start, at_end, follows, may_come, walk, last, finished, begins, passes}
use Rattle.theory.specs.Neighbours.{ranges_at}
use Rattle.theory.proofs.Groups.{each_map}
use Rattle.theory.proofs.Theorems.{table_nested}

walk-append : (tops : List ℕ) (o : Option (List (Range ℕ))) (xs ys : List Row) → walk tops o (xs ++ ys) ≡ (walk tops o xs && walk tops (last o xs) ys)
walk-append tops o [] ys = refl
walk-append tops o (x ∷ xs) ys = grind (arith, nat_tests, walk-append tops (some x.ranges) xs ys)

-- the last row of two lists
pub last_append : (o : Option (List (Range ℕ))) (xs ys : List Row) → last o (xs ++ ys) ≡ last (last o xs) ys
last_append o [] ys = refl
last_append o (x ∷ xs) ys = last_append (some x.ranges) xs ys

-- rows under one range step as they do with the range taken off
module _ (top : ℕ) (rest : List ℕ) (low high : ℕ) (l : low ≤ high) (h : high ≤ top) where
  walk-spread : (a : List (Range ℕ)) (rows : List Row) → walk (top ∷ rest) (some (record { low = low; high = high } ∷ a)) (spread low high rows) ≡ walk rest (some a) rows
  walk-spread a [] = refl
  walk-spread a (r ∷ rows) = grind (arith, nat_tests, walk-spread r.ranges rows)

last_under : (low high : ℕ) (a b : List (Range ℕ)) (rows : List Row) → last (some b) rows ≡ some a → last (some (record { low = low; high = high } ∷ b)) (spread low high rows) ≡ some (record { low = low; high = high } ∷ a)
last_under low high a b [] e = cc
last_under low high a b (r ∷ rows) e = last_under low high a r.ranges rows e

-- the last row under one range
pub last_spread : (low high : ℕ) (o : Option (List (Range ℕ))) (a : List (Range ℕ)) (rows : List Row) → last none rows ≡ some a → last o (spread low high rows) ≡ some (record { low = low; high = high } ∷ a)
last_spread low high o a [] e = cc
last_spread low high o a (r ∷ rows) e = last_under low high a r.ranges rows e

-- what stands before the value n of the first field: nothing, or a row that ends at n-1 and is at its end in the later fields
abbrev Reached : List ℕ → ℕ → Option (List (Range ℕ)) → Type 0
Reached rest n none = n ≡ 0
Reached rest n (some []) = ⊥
Reached rest n (some (x ∷ a)) = (n ≡ suc x.high) × (x.low ≤ x.high) × (at_end rest a ≡ true)

may_enter : (top : ℕ) (rest : List ℕ) (o : Option (List (Range ℕ))) (low high : ℕ) (b : List (Range ℕ)) → Reached rest low o → at_start b ≡ true → may_come (top ∷ rest) o (record { low = low; high = high } ∷ b) ≡ true
may_enter top rest none low high b r s = grind (arith, nat_tests)
may_enter top rest (some []) low high b r s = absurd r
may_enter top rest (some (x ∷ a)) low high b r s = grind (arith, nat_tests)

walk_enter : (top : ℕ) (rest : List ℕ) (o : Option (List (Range ℕ))) (low high : ℕ) (rows : List Row) → Reached rest low o → low ≤ high → high ≤ top → walk rest none rows ≡ true → walk (top ∷ rest) o (spread low high rows) ≡ true
walk_enter top rest o low high [] r l h w = refl
walk_enter top rest o low high (x ∷ rows) r l h w = grind (arith, nat_tests, may_enter top rest o low high x.ranges r, walk-spread top rest low high l h x.ranges rows)

-- the rows step from the first, and end at the end
abbrev Full : List ℕ → List Row → Type 0
Full tops rows = (walk tops none rows ≡ true) × ((a : List (Range ℕ)) × (last none rows ≡ some a) × (at_end tops a ≡ true))

full_groups : (top : ℕ) (rest : List ℕ) (n : ℕ) (gs : List Group) → Upto n gs → n ≤ suc top → Each (λ g. Full rest g.rows) gs → (walk (top ∷ rest) none (flat gs) ≡ true) × Reached rest n (last none (flat gs))
full_groups top rest n [] u h e = (refl, u)
full_groups top rest n (g ∷ gs) u h e =
    let ih = full_groups top rest g.low gs u.2 (omega arith) e.1 in
    let f = e.0 in (
      walk-append (top ∷ rest) none (flat gs) (spread g.low g.high g.rows) ∙ and_from _ _ ih.0 (walk_enter top rest (last none (flat gs)) g.low g.high g.rows ih.1 u.1 (omega arith) f.0),
      rw (last_append none (flat gs) (spread g.low g.high g.rows), last_spread g.low g.high (last none (flat gs)) f.1.0 g.rows f.1.1) (u.0, u.1, f.1.2),
    )

-- at a value past the top, the row before is at its end
reached_end : (top : ℕ) (rest : List ℕ) (o : Option (List (Range ℕ))) → Reached rest (suc top) o → (a : List (Range ℕ)) × (o ≡ some a) × (at_end (top ∷ rest) a ≡ true)
reached_end top rest none r = absurd (omega arith)
reached_end top rest (some []) r = absurd r
reached_end top rest (some (x ∷ a)) r = (x ∷ a, refl, grind (arith, nat_tests))

full : (tops : List ℕ) (rows : List Row) → Nested tops rows → Full tops rows
full [] rows n = rw n.1 (refl, ([], refl, refl))
full (top ∷ rest) rows n =
    let g = full_groups top rest (suc top) n.0 n.2 (omega arith) (each_map (λ g. Nested rest g.rows) (λ g. Full rest g.rows) (λ g. full rest g.rows) n.0 n.3) in
    rw n.1 (g.0, reached_end top rest (last none (flat n.0)) g.1)

-- nested rows pass
pub nested_passes : (tops : List ℕ) (rows : List Row) → Nested tops rows → passes tops rows ≡ true
nested_passes tops rows n = let f = full tops rows n in and_from _ _ f.0 (rw f.1.1 f.1.2)

-- the rows read so far, with the first field top: nothing, or whole groups and then a group that is begun
record Read (top : ℕ) (rest : List ℕ) (ranges : List (Range ℕ)) (rows : List Row) : Type 0 where
  pub low : ℕ
  pub high : ℕ
  pub later : List (Range ℕ)
  pub groups : List Group
  pub begun : List Row
  pub ranges_are : ranges ≡ record { low = low; high = high } ∷ later
  pub rows_are : rows ≡ flat groups ++ spread low high begun
  pub follow : Upto low groups
  pub each : Each (λ g. Nested rest g.rows) groups
  pub up : low ≤ high
  pub within : high ≤ top
  pub walks : walk rest none begun ≡ true
  pub ends : last none begun ≡ some later

abbrev State : ℕ → List ℕ → Option (List (Range ℕ)) → List Row → Type 0
State top rest none rows = rows ≡ []
State top rest (some a) rows = Read top rest a rows

-- either the ranges on the first field are the same, or the second begins one past the end of the first
follows_cases : (top : ℕ) (rest : List ℕ) (x y : Range ℕ) (a b : List (Range ℕ)) → follows (top ∷ rest) (x ∷ a) (y ∷ b) ≡ true
    → ((x.low ≡ y.low) × (x.high ≡ y.high) × (follows rest a b ≡ true)) ⊎ ((y.low ≡ suc x.high) × (at_end rest a ≡ true) × (at_start b ≡ true))
follows_cases top rest x y a b f = grind (arith, nat_tests)

module _ (top : ℕ) (rest : List ℕ) (ih : (rows : List Row) → passes rest rows ≡ true → Nested rest rows) where
  -- a group that is at its end is nested
  closed : (a : List (Range ℕ)) (rows : List Row) → walk rest none rows ≡ true → last none rows ≡ some a → at_end rest a ≡ true → Nested rest rows
  closed a rows w l e = ih rows (and_from _ _ w (rw l e))

  step : (o : Option (List (Range ℕ))) (rows : List Row) (x : Range ℕ) (b : List (Range ℕ)) (d : ℕ)
      → State top rest o rows → fits (top ∷ rest) (x ∷ b) ≡ true → may_come (top ∷ rest) o (x ∷ b) ≡ true → State top rest (some (x ∷ b)) (rows ++ record { ranges = x ∷ b; decision = d } ∷ [])
  step none rows x b d s f m =
      let p = and_parts _ _ f in
      let q = and_parts _ _ p.0 in
      let t = and_parts _ _ m in
      record {
        low = x.low;
        high = x.high;
        later = b;
        groups = [];
        begun = record { ranges = b; decision = d } ∷ [];
        ranges_are = refl;
        rows_are = rw s;
        follow = eqb-true _ _ t.0;
        each = tt;
        up = leb-true _ _ q.0;
        within = leb-true _ _ q.1;
        walks = and_from _ _ (and_from _ _ p.1 t.1) refl;
        ends = refl;
      }
  step (some a) rows x b d s f m =
      let p = and_parts _ _ f in
      let q = and_parts _ _ p.0 in
      let up : x.low ≤ x.high = leb-true _ _ q.0 in
      let within : x.high ≤ top = leb-true _ _ q.1 in
      elim (follows_cases top rest (record { low = s.low; high = s.high }) x s.later b (subst (λ r. follows (top ∷ rest) r (x ∷ b) ≡ true) s.ranges_are m)) [
        | inl t ↦ record {
          low = x.low;
          high = x.high;
          later = b;
          groups = s.groups;
          begun = s.begun ++ record { ranges = b; decision = d } ∷ [];
          ranges_are = refl;
          rows_are = ap (λ r. r ++ record { ranges = x ∷ b; decision = d } ∷ []) s.rows_are
              ∙ append_assoc (flat s.groups) _ _
              ∙ ap (λ z. flat s.groups ++ z) (ap₂ (λ l h. spread l h s.begun ++ record { ranges = x ∷ b; decision = d } ∷ []) t.0 t.1
              ∙ sym (map-append _ s.begun (record { ranges = b; decision = d } ∷ [])));
          follow = rw t.0 at s.follow;
          each = s.each;
          up = up;
          within = within;
          walks = walk-append rest none s.begun _ ∙ and_from _ _ s.walks (rw s.ends (and_from _ _ (and_from _ _ p.1 t.2) refl));
          ends = last_append none s.begun _;
        }
        | inr t ↦ record {
          low = x.low;
          high = x.high;
          later = b;
          groups = record { low = s.low; high = s.high; rows = s.begun } ∷ s.groups;
          begun = record { ranges = b; decision = d } ∷ [];
          ranges_are = refl;
          rows_are = ap (λ r. r ++ record { ranges = x ∷ b; decision = d } ∷ []) s.rows_are;
          follow = (t.0, s.up, s.follow);
          each = (closed s.later s.begun s.walks s.ends t.1, s.each);
          up = up;
          within = within;
          walks = and_from _ _ (and_from _ _ p.1 t.2) refl;
          ends = refl;
        }
      ]

  -- one row more
  take_one : (o : Option (List (Range ℕ))) (rows : List Row) (b : List (Range ℕ)) (d : ℕ)
      → State top rest o rows → fits (top ∷ rest) b ≡ true → may_come (top ∷ rest) o b ≡ true → State top rest (some b) (rows ++ record { ranges = b; decision = d } ∷ [])
  take_one o rows [] d s f m = absurd (false≢true f)
  take_one o rows (x ∷ b) d s f m = step o rows x b d s f m

  read : (o : Option (List (Range ℕ))) (done rows : List Row) → State top rest o done → walk (top ∷ rest) o rows ≡ true → State top rest (last o rows) (done ++ rows)
  read o done [] s w = rw append-nil s
  read o done (r ∷ rows) s w =
      let p = and_parts _ _ w in
      let q = and_parts _ _ p.0 in
      subst (State top rest (last (some r.ranges) rows)) (append_assoc done (r ∷ []) rows)
      (read (some r.ranges) (done ++ r ∷ []) rows (take_one o done r.ranges r.decision s q.0 q.1) p.1)

  -- rows that are read to the end are nested
  complete : (o : Option (List (Range ℕ))) (rows : List Row) → State top rest o rows → finished (top ∷ rest) o ≡ true → Nested (top ∷ rest) rows
  complete none rows s f = absurd (false≢true f)
  complete (some a) rows s f =
      let p = and_parts _ _ (subst (λ r. at_end (top ∷ rest) r ≡ true) s.ranges_are f) in
      let e = eqb-true _ _ p.0 in (
        record { low = s.low; high = s.high; rows = s.begun } ∷ s.groups,
        s.rows_are,
        (ap suc (sym e), s.up, s.follow),
        (closed s.later s.begun s.walks s.ends p.1, s.each),
      )

no_ranges : (a : List (Range ℕ)) → fits [] a ≡ true → a ≡ []
no_ranges [] f = refl
no_ranges (x ∷ a) f = absurd (false≢true f)

-- with no field there is at most one row
at_most_one : (rows : List Row) → walk [] none rows ≡ true → (rows ≡ []) ⊎ Nested [] rows
at_most_one [] w = inl refl
at_most_one (r ∷ []) w =
    let e = no_ranges r.ranges (and_parts _ _ (and_parts _ _ w).0).0 in
    inr (r.decision, λ i. record { ranges = e i; decision = r.decision } ∷ [])
at_most_one (r ∷ s ∷ rows) w = absurd (grind (arith, nat_tests))

-- rows that pass are nested
pub passes_nested : (tops : List ℕ) (rows : List Row) → passes tops rows ≡ true → Nested tops rows
passes_nested [] rows p =
    let q = and_parts _ _ p in
    elim (at_most_one rows q.0) [ inl e ↦ absurd (false≢true (rw e at q.1)) | inr n ↦ n ]
passes_nested (top ∷ rest) rows p =
    let q = and_parts _ _ p in
    complete top rest (passes_nested rest) (last none rows) rows (read top rest (passes_nested rest) none [] rows refl q.0) q.1

-- the rows can be completed
abbrev More : List ℕ → List Row → Type 0
More tops rows = (more : List Row) × Nested tops (rows ++ more)

some_nested : (tops : List ℕ) (rows : List Row) → rows ≡ [] → More tops rows
some_nested tops rows e = (table tops (λ _. 0), rw e (table_nested tops (λ _. 0)))

complete_group : (top : ℕ) (rest : List ℕ) (a : List (Range ℕ)) (rows : List Row) (s : Read top rest a rows) → More rest s.begun → More (top ∷ rest) rows
complete_group top rest a rows s m =
    let g : Group = record { low = s.low; high = s.high; rows = s.begun ++ m.0 } in
    let filled : rows ++ spread s.low s.high m.0 ≡ flat (g ∷ s.groups) =
    ap (λ r. r ++ spread s.low s.high m.0) s.rows_are ∙ append_assoc (flat s.groups) _ _ ∙ ap (λ z. flat s.groups ++ z) (sym (map-append _ s.begun m.0)) in
    elim (cases_lt s.high top) [
      | inl h ↦ (
        spread s.low s.high m.0 ++ spread (suc s.high) top (table rest (λ _. 0)),
        (
          record { low = suc s.high; high = top; rows = table rest (λ _. 0) } ∷ g ∷ s.groups,
          sym (append_assoc rows _ _) ∙ ap (λ r. r ++ spread (suc s.high) top (table rest (λ _. 0))) filled,
          (refl, h, (refl, s.up, s.follow)),
          (table_nested rest (λ _. 0), (m.1, s.each)),
        ),
      )
      | inr h ↦ (
        spread s.low s.high m.0,
        (g ∷ s.groups, filled, (omega (arith, s.within), s.up, s.follow), (m.1, s.each)),
      )
    ]

-- rows that are begun can be completed
pub begins_more : (tops : List ℕ) (rows : List Row) → begins tops rows ≡ true → (more : List Row) × Nested tops (rows ++ more)
begins_more [] rows b = elim (at_most_one rows b) [ inl e ↦ some_nested [] rows e | inr n ↦ ([], rw append-nil n) ]
begins_more (top ∷ rest) rows b = go (begins_more rest) (last none rows) (read top rest (passes_nested rest) none [] rows refl b)
  where
    go : ((xs : List Row) → begins rest xs ≡ true → More rest xs) → (o : Option (List (Range ℕ))) → State top rest o rows → More (top ∷ rest) rows
    go ih none s = some_nested (top ∷ rest) rows s
    go ih (some a) s = complete_group top rest a rows s (ih s.begun s.walks)

-- and rows that can be completed are begun
pub more_begins : (tops : List ℕ) (rows more : List Row) → Nested tops (rows ++ more) → begins tops rows ≡ true
more_begins tops rows more n = (and_parts _ _ (sym (walk-append tops none rows more) ∙ (full tops (rows ++ more) n).0)).0

-- the first row's step: its ranges fit and are at the start
pub begins_first : (tops : List ℕ) (rows : List Row) → 0 < length rows → begins tops (take 1 rows) ≡ (fits tops (ranges_at rows 0) && at_start (ranges_at rows 0))
begins_first tops [] h = absurd (omega arith)
begins_first tops (r ∷ rows) h = and-true (fits tops r.ranges && at_start r.ranges)

last_take : (o : Option (List (Range ℕ))) (rows : List Row) (i : ℕ) → i < length rows → last o (take (suc i) rows) ≡ some (ranges_at rows i)
last_take o [] i h = absurd (omega arith)
last_take o (r ∷ rows) zero h = refl
last_take o (r ∷ rows) (suc i) h = last_take (some r.ranges) rows i (omega arith)

-- a later row's step: its ranges fit and follow those of the row before
pub begins_step : (tops : List ℕ) (rows : List Row) (i : ℕ) → suc i < length rows → begins tops (take (suc i) rows) ≡ true
    → begins tops (take (suc (suc i)) rows) ≡ (fits tops (ranges_at rows (suc i)) && follows tops (ranges_at rows i) (ranges_at rows (suc i)))
begins_step tops rows i h b =
    let d : Row = record { ranges = []; decision = 0 } in
    ap (begins tops) (take-suc rows (suc i) d h)
    ∙ walk-append tops none (take (suc i) rows) (get_or rows (suc i) d ∷ [])
    ∙ rw (b, last_take none rows i (omega arith)) (and-true _)

-- rows that are begun pass if the last one is at its end
pub passes_end : (tops : List ℕ) (rows : List Row) (i : ℕ) → length rows ≡ suc i → begins tops rows ≡ true → passes tops rows ≡ at_end tops (ranges_at rows i)
passes_end tops rows i e b =
    let l : last none rows ≡ some (ranges_at rows i) = ap (last none) (sym (take_all (suc i) rows (omega arith))) ∙ last_take none rows i (omega arith) in
    rw (b, l)

walk-fits : (tops : List ℕ) (o : Option (List (Range ℕ))) (rows : List Row) (i : ℕ) → walk tops o rows ≡ true → i < length rows → fits tops (ranges_at rows i) ≡ true
walk-fits tops o [] i w h = absurd (omega arith)
walk-fits tops o (r ∷ rows) zero w h = grind (arith, nat_tests)
walk-fits tops o (r ∷ rows) (suc i) w h = walk-fits tops (some r.ranges) rows i (and_parts _ _ w).1 (omega arith)

-- each row of nested rows has its ranges in order and within the fields
pub nested_fits : (tops : List ℕ) (rows : List Row) → Nested tops rows → (i : ℕ) → i < length rows → fits tops (ranges_at rows i) ≡ true
nested_fits tops rows n i h = walk-fits tops none rows i (full tops rows n).0 h

last_some : (a : List (Range ℕ)) (rows : List Row) → last none rows ≡ some a → 0 < length rows
last_some a [] e = let z : ◌≡◌ {A = ℕ} 0 1 = cc in omega arith
last_some a (r ∷ rows) e = omega arith

-- nested rows are at least one
pub nested_some : (tops : List ℕ) (rows : List Row) → Nested tops rows → 0 < length rows
nested_some tops rows n = let f = full tops rows n in last_some f.1.0 rows f.1.1

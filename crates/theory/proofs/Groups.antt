-- The groups of a function of the value: what they cover, what they hold, and how long they are. Assumes nothing.
use Rattle.std.proofs.Common.{◌≡◌, ℕ, zero, suc, ◌+◌, ◌<◌, ◌≤◌, ◌≢◌, List, [], ◌∷◌, length, sym, refl, ap, ◌∙◌, inl, inr, arith, length-append}
use native.Mathlib.Decide.{le_ind}
use lib.ListN.{length-map}
use Rattle.theory.specs.Tables.{Row, Group, spread, flat, Upto, Each, join, groups}
use Rattle.theory.proofs.Same.{rows_same, same_tells}

-- the groups, with t joined or new
pub joined : (P : List Group → Type 0) (low high : ℕ) (t : List Row) (g : Group) (gs : List Group)
    → (g.rows ≡ t → P (record { low = g.low; high = high; rows = t } ∷ gs))
    → (g.rows ≢ t → P (record { low = low; high = high; rows = t } ∷ g ∷ gs))
    → P (join low high t (g ∷ gs))
joined P low high t g gs a b = elim (same_tells g.rows t) [
  | inl h ↦ rw h.0 (a h.1)
  | inr h ↦ rw h.0 (b h.1)
]

-- joining covers the new values too
join_upto : (low high : ℕ) (t : List Row) (gs : List Group) → Upto low gs → low ≤ high → Upto (suc high) (join low high t gs)
join_upto low high t [] u h = (refl, h, u)
join_upto low high t (g ∷ gs) u h = joined (Upto (suc high)) low high t g gs (λ _. (refl, omega arith, u.2)) (λ _. (refl, h, u))

pub groups_upto : (n : ℕ) (f : ℕ → List Row) → Upto n (groups n f)
unfolding groups
groups_upto zero f = refl
groups_upto (suc n) f = join_upto n n (f n) (groups n f) (groups_upto n f) (omega arith)

-- what holds of each sub-table holds of each group's rows
join_each : (P : List Row → Type 0) (low high : ℕ) (t : List Row) (gs : List Group) → P t → Each (λ g. P g.rows) gs → Each (λ g. P g.rows) (join low high t gs)
join_each P low high t [] p e = (p, tt)
join_each P low high t (g ∷ gs) p e = joined (Each (λ g. P g.rows)) low high t g gs (λ _. (p, e.1)) (λ _. (p, e))

pub groups_each : (P : List Row → Type 0) (f : ℕ → List Row) (n : ℕ) → ((v : ℕ) → v < n → P (f v)) → Each (λ g. P g.rows) (groups n f)
unfolding groups
groups_each P f zero h = tt
groups_each P f (suc n) h = join_each P n n (f n) (groups n f) (h n (omega arith)) (groups_each P f n (λ v l. h v (omega arith)))

-- neighbours differ
abbrev pub Differ : List Group → Type 0
Differ [] = Unit {0}
Differ (g ∷ []) = Unit {0}
Differ (g ∷ h ∷ gs) = (h.rows ≢ g.rows) × Differ (h ∷ gs)

-- the last group's range does not matter
differ_at : (g h : Group) (gs : List Group) → g.rows ≡ h.rows → Differ (g ∷ gs) → Differ (h ∷ gs)
differ_at g h [] e d = tt
differ_at g h (k ∷ gs) e d = (λ x. d.0 (x ∙ sym e), d.1)

join_differ : (low high : ℕ) (t : List Row) (gs : List Group) → Differ gs → Differ (join low high t gs)
join_differ low high t [] d = tt
join_differ low high t (g ∷ gs) d = joined Differ low high t g gs (λ e. differ_at g (record { low = g.low; high = high; rows = t }) gs e d) (λ ne. (ne, d))

pub groups_differ : (n : ℕ) (f : ℕ → List Row) → Differ (groups n f)
unfolding groups
groups_differ zero f = tt
groups_differ (suc n) f = join_differ n n (f n) (groups n f) (groups_differ n f)

-- only the values below n count
pub groups_ext : (f f' : ℕ → List Row) (n : ℕ) → ((v : ℕ) → v < n → f v ≡ f' v) → groups n f ≡ groups n f'
unfolding groups
groups_ext f f' zero h = refl
groups_ext f f' (suc n) h = rw (h n (omega arith), groups_ext f f' n (λ v l. h v (omega arith)))

-- one value more, with the same sub-table, widens the last group
join_again : (low high : ℕ) (t : List Row) (gs : List Group) → join (suc high) (suc high) t (join low high t gs) ≡ join low (suc high) t gs
join_again low high t [] = rw (rows_same t)
join_again low high t (g ∷ gs) = elim (same_tells g.rows t) [
  | inl h ↦ rw (h.0, rows_same t)
  | inr h ↦ rw (h.0, rows_same t)
]

-- a run of values with one sub-table is joined all at once
pub groups_run : (f : ℕ → List Row) (t : List Row) (low high : ℕ) → low ≤ high → ((v : ℕ) → low ≤ v → v ≤ high → f v ≡ t) → groups (suc high) f ≡ join low high t (groups low f)
unfolding groups
groups_run f t low high h same = le_ind (λ k. ((v : ℕ) → low ≤ v → v ≤ k → f v ≡ t) → groups (suc k) f ≡ join low k t (groups low f))
    (λ s. rw (s low (omega arith) (omega arith)))
    (λ k l ih s. rw (s (suc k) (omega arith) (omega arith), ih (λ v a b. s v a (omega arith)), join_again low k t (groups low f)))
    high h same

length-spread : (low high : ℕ) (rows : List Row) → length (spread low high rows) ≡ length rows
length-spread low high rows = length-map rows _

length-flat : (g : Group) (gs : List Group) → length (flat (g ∷ gs)) ≡ length (flat gs) + length g.rows
length-flat g gs = length-append (flat gs) (spread g.low g.high g.rows) ∙ ap (λ k. length (flat gs) + k) (length-spread g.low g.high g.rows)

join_least : (low high : ℕ) (t : List Row) (gs : List Group) → (length (flat gs) ≤ length (flat (join low high t gs))) × (length t ≤ length (flat (join low high t gs)))
join_least low high t [] = omega (arith, length-spread low high t)
join_least low high t (g ∷ gs) = joined (λ x. (length (flat (g ∷ gs)) ≤ length (flat x)) × (length t ≤ length (flat x))) low high t g gs
    (λ e. omega (arith, length-flat g gs, length-flat (record { low = g.low; high = high; rows = t }) gs, ap length e))
    (λ _. omega (arith, length-flat (record { low = low; high = high; rows = t }) (g ∷ gs)))

-- more values never make fewer rows, and each value's sub-table counts
pub groups_longer : (f : ℕ → List Row) (n k : ℕ) → n ≤ k → length (flat (groups n f)) ≤ length (flat (groups k f))
unfolding groups
groups_longer f n k h = le_ind (λ k. length (flat (groups n f)) ≤ length (flat (groups k f))) (omega arith)
    (λ k l ih. omega (arith, ih, (join_least k k (f k) (groups k f)).0)) k h

pub groups_counts : (f : ℕ → List Row) (v n : ℕ) → v < n → length (f v) ≤ length (flat (groups n f))
unfolding groups
groups_counts f v n h = omega (arith, (join_least v v (f v) (groups v f)).1, groups_longer f (suc v) n h)

-- what follows of each group
pub each_map : (P Q : Group → Type 0) → ((g : Group) → P g → Q g) → (gs : List Group) → Each P gs → Each Q gs
each_map P Q f [] e = tt
each_map P Q f (g ∷ gs) e = (f g e.0, each_map P Q f gs e.1)

-- two facts of each group
pub each_both : (P Q : Group → Type 0) (gs : List Group) → Each P gs → Each Q gs → Each (λ g. P g × Q g) gs
each_both P Q [] a b = tt
each_both P Q (g ∷ gs) a b = ((a.0, b.0), each_both P Q gs a.1 b.1)

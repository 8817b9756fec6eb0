-- The table of a meaning is nested, has no two neighbours alike, and decides every packet as the meaning does. Assumes nothing.
use Rattle.std.proofs.Common.{◌≡◌, ℕ, zero, suc, ◌<◌, ◌≤◌, List, [], ◌∷◌, sym, refl, ap, ◌∙◌, inl, inr, arith}
use Rattle.std.proofs.lemmas.Bool.{cases_lt}
use Rattle.packet.specs.Packets.{Within}
use Rattle.theory.specs.Tables.{Row, Group, lookup_or, lookup, DecidesAs, flat, Upto, Each, Nested, Alike, Apart, Reduced, Canonical, join, groups, table, sub_table}
use Rattle.theory.proofs.Look.{in_last, before_last}
use Rattle.theory.proofs.Groups.{joined, groups_upto, groups_each, Differ, groups_differ, groups_ext}

-- meanings that agree on every packet have one table
pub table_ext : (tops : List ℕ) (m m' : List ℕ → ℕ) → ((p : List ℕ) → Within tops p → m p ≡ m' p) → table tops m ≡ table tops m'
unfolding table
table_ext [] m m' h = ap (λ (d : ℕ). record { ranges = []; decision = d } ∷ []) (h [] tt)
table_ext (top ∷ rest) m m' h = ap flat (groups_ext (sub_table rest m) (sub_table rest m') (suc top)
    (λ v l. table_ext rest (λ q. m (v ∷ q)) (λ q. m' (v ∷ q)) (λ q w. h (v ∷ q) (omega arith, w))))

-- a lookup in the groups below n finds what the value's sub-table says
module _ (d : ℕ) (v : ℕ) (q : List ℕ) where
  joined_new : (low high : ℕ) (t : List Row) (gs : List Group) → Upto low gs → low ≤ v → v ≤ high → lookup_or d (flat (join low high t gs)) (v ∷ q) ≡ lookup_or d t q
  joined_new low high t [] u l h = in_last d (record { low = low; high = high; rows = t }) [] v q u l h
  joined_new low high t (g ∷ gs) u l h = joined (λ x. lookup_or d (flat x) (v ∷ q) ≡ lookup_or d t q) low high t g gs
      (λ _. in_last d (record { low = g.low; high = high; rows = t }) gs v q u.2 (omega arith) h)
      (λ _. in_last d (record { low = low; high = high; rows = t }) (g ∷ gs) v q u l h)

  joined_old : (low high : ℕ) (t : List Row) (gs : List Group) → Upto low gs → v < low → low ≤ high → lookup_or d (flat (join low high t gs)) (v ∷ q) ≡ lookup_or d (flat gs) (v ∷ q)
  joined_old low high t [] u l h = absurd (omega arith)
  joined_old low high t (g ∷ gs) u l h = joined (λ x. lookup_or d (flat x) (v ∷ q) ≡ lookup_or d (flat (g ∷ gs)) (v ∷ q)) low high t g gs
      (λ e. elim (cases_lt v g.low) [
        | inl b ↦ before_last d (record { low = g.low; high = high; rows = t }) gs v q b ∙ sym (before_last d g gs v q b)
        | inr b ↦ in_last d (record { low = g.low; high = high; rows = t }) gs v q u.2 b (omega arith)
            ∙ ap (λ x. lookup_or d x q) (sym e) ∙ sym (in_last d g gs v q u.2 b (omega arith))
      ])
      (λ _. before_last d (record { low = low; high = high; rows = t }) (g ∷ gs) v q l)

  groups_look : (f : ℕ → List Row) (n : ℕ) → v < n → lookup_or d (flat (groups n f)) (v ∷ q) ≡ lookup_or d (f v) q
  unfolding groups
  groups_look f zero h = absurd (omega arith)
  groups_look f (suc n) h = elim (cases_lt v n) [
    | inl b ↦ joined_old n n (f n) (groups n f) (groups_upto n f) b (omega arith) ∙ groups_look f n b
    | inr b ↦ let e : n ≡ v = omega arith in joined_new n n (f n) (groups n f) (groups_upto n f) b (omega arith) ∙ ap (λ x. lookup_or d (f x) q) e
  ]

pub table_decides : (tops : List ℕ) (m : List ℕ → ℕ) → DecidesAs tops m (table tops m)
unfolding table
table_decides [] m [] w = refl
table_decides [] m (v ∷ p) w = absurd w
table_decides (top ∷ rest) m [] w = absurd w
table_decides (top ∷ rest) m (v ∷ q) w = groups_look 0 v q (sub_table rest m) (suc top) (omega arith) ∙ table_decides rest (λ q. m (v ∷ q)) q w.1

pub table_nested : (tops : List ℕ) (m : List ℕ → ℕ) → Nested tops (table tops m)
unfolding table
table_nested [] m = (m [], refl)
table_nested (top ∷ rest) m = (
  groups (suc top) (sub_table rest m),
  refl,
  groups_upto (suc top) (sub_table rest m),
  groups_each (Nested rest) (sub_table rest m) (suc top) (λ v _. table_nested rest (λ q. m (v ∷ q))),
)

-- differing sub-tables of m are not alike
apart : (rest : List ℕ) (m : List ℕ → ℕ) (gs : List Group) → Each (λ g. (v : ℕ) × (g.rows ≡ sub_table rest m v)) gs → Differ gs → Apart rest gs
apart rest m [] e d = tt
apart rest m (g ∷ []) e d = tt
apart rest m (g ∷ h ∷ gs) e d = (differs, apart rest m (h ∷ gs) e.1 d.1)
  where
    v : ℕ
    v = e.0.0

    w : ℕ
    w = e.1.0.0

    differs : ¬ (Alike rest h.rows g.rows)
    differs a = d.0 (e.1.0.1 ∙ table_ext rest (λ q. m (w ∷ q)) (λ q. m (v ∷ q)) (λ q i.
        sym (table_decides rest (λ q. m (w ∷ q)) q i) ∙ ap (λ x. lookup x q) (sym e.1.0.1) ∙ a q i ∙ ap (λ x. lookup x q) e.0.1 ∙ table_decides rest (λ q. m (v ∷ q)) q i) ∙ sym e.0.1)

pub table_reduced : (tops : List ℕ) (m : List ℕ → ℕ) → Reduced tops (table tops m)
unfolding table
table_reduced [] m = (m [], refl)
table_reduced (top ∷ rest) m = (
  groups (suc top) (sub_table rest m),
  refl,
  groups_upto (suc top) (sub_table rest m),
  apart rest m (groups (suc top) (sub_table rest m)) (groups_each (λ t. (v : ℕ) × (t ≡ sub_table rest m v)) (sub_table rest m) (suc top) (λ v _. (v, refl))) (groups_differ (suc top) (sub_table rest m)),
  groups_each (Reduced rest) (sub_table rest m) (suc top) (λ v _. table_reduced rest (λ q. m (v ∷ q))),
)

-- the table of m is what it is to be one
pub table_canonical : (tops : List ℕ) (m : List ℕ → ℕ) → Canonical tops m (table tops m)
table_canonical tops m = record { nested = table_nested tops m; reduced = table_reduced tops m; decides = table_decides tops m }

-- The table of a meaning is the only list of rows that is nested, has no two neighbours alike, and decides as the meaning does. Assumes nothing.
use Rattle.std.proofs.Common.{◌≡◌, ℕ, suc, ◌<◌, ◌≤◌, List, [], ◌∷◌, sym, refl, ap, ◌∙◌, subst, inl, inr, arith}
use Rattle.packet.specs.Packets.{Within}
use Rattle.theory.specs.Tables.{Row, Group, lookup, DecidesAs, flat, Upto, Each, Nested, Apart, Reduced, join, groups, table, sub_table}
use Rattle.theory.proofs.Same.{same_tells}
use Rattle.theory.proofs.Look.{in_last, before_last}
use Rattle.theory.proofs.Groups.{Differ, groups_run, each_map}

-- a group that differs from the one before it is a new group
join_new : (g : Group) (gs : List Group) → Differ (g ∷ gs) → join g.low g.high g.rows gs ≡ g ∷ gs
join_new g [] d = refl
join_new g (h ∷ gs) d = elim (same_tells h.rows g.rows) [
  | inl s ↦ absurd (d.0 s.1)
  | inr s ↦ rw s.0
]

differ_fewer : (g : Group) (gs : List Group) → Differ (g ∷ gs) → Differ gs
differ_fewer g [] d = tt
differ_fewer g (h ∷ gs) d = d.1

apart_differ : (rest : List ℕ) (gs : List Group) → Apart rest gs → Differ gs
apart_differ rest [] a = tt
apart_differ rest (g ∷ []) a = tt
apart_differ rest (g ∷ h ∷ gs) a = (λ e. a.0 (λ q w. ap (λ x. lookup x q) e), apart_differ rest (h ∷ gs) a.1)

-- groups that have f's sub-tables, and differ from their neighbours, are the groups of f
groups_unique : (f : ℕ → List Row) (n : ℕ) (gs : List Group) → Upto n gs → Each (λ g. (v : ℕ) → g.low ≤ v → v ≤ g.high → f v ≡ g.rows) gs → Differ gs → gs ≡ groups n f
unfolding groups
groups_unique f n [] u e d = rw u
groups_unique f n (g ∷ gs) u e d = rw (u.0, groups_run f g.rows g.low g.high u.1 e.0, ← groups_unique f g.low gs u.2 e.1 (differ_fewer g gs d)) (sym (join_new g gs d))

-- `Below n rows` says that the rows decide as m the packets whose first value is below n
module _ (rest : List ℕ) (m : List ℕ → ℕ) where
  abbrev Below : ℕ → List Row → Type 0
  Below n rows = (v : ℕ) → v < n → (q : List ℕ) → Within rest q → lookup rows (v ∷ q) ≡ m (v ∷ q)

  -- the groups before the last one decide as m
  below_fewer : (g : Group) (gs : List Group) → g.low ≤ g.high → Below (suc g.high) (flat (g ∷ gs)) → Below g.low (flat gs)
  below_fewer g gs h b v l q w = sym (before_last 0 g gs v q l) ∙ b v (omega arith) q w

  -- the last group's rows decide as m at each of its values
  below_last : (g : Group) (gs : List Group) → Upto g.low gs → Below (suc g.high) (flat (g ∷ gs)) → (v : ℕ) → g.low ≤ v → v ≤ g.high → DecidesAs rest (λ q. m (v ∷ q)) g.rows
  below_last g gs u b v l h q w = sym (in_last 0 g gs v q u l h) ∙ b v (omega arith) q w

  -- and so each group has the sub-table of each of its values
  unique_groups : ((k : List ℕ → ℕ) (rows : List Row) → Reduced rest rows → DecidesAs rest k rows → rows ≡ table rest k)
      → (n : ℕ) (gs : List Group) → Upto n gs → Each (λ g. Reduced rest g.rows) gs → Below n (flat gs)
      → Each (λ g. (v : ℕ) → g.low ≤ v → v ≤ g.high → sub_table rest m v ≡ g.rows) gs
  unique_groups ih n [] u e b = tt
  unique_groups ih n (g ∷ gs) u e b =
      let b' : Below (suc g.high) (flat (g ∷ gs)) = subst (λ k. Below k (flat (g ∷ gs))) u.0 b in (
        (λ v l h. sym (ih (λ q. m (v ∷ q)) g.rows e.0 (below_last g gs u.2 b' v l h))),
        unique_groups ih g.low gs u.2 e.1 (below_fewer g gs u.1 b'),
      )

-- reduced rows that decide as m are the table of m
pub table_unique : (tops : List ℕ) (m : List ℕ → ℕ) (rows : List Row) → Reduced tops rows → DecidesAs tops m rows → rows ≡ table tops m
unfolding table
table_unique [] m rows r d = r.1 ∙ ap (λ (k : ℕ). record { ranges = []; decision = k } ∷ []) (rw r.1 at (d [] tt))
table_unique (top ∷ rest) m rows r d =
    r.1 ∙ ap flat (groups_unique (sub_table rest m) (suc top) r.0 r.2
    (unique_groups rest m (table_unique rest) (suc top) r.0 r.2 r.4 (λ v l q w. rw r.1 at (d (v ∷ q) (omega arith, w))))
    (apart_differ rest r.0 r.3))

-- reduced rows are nested
pub reduced_nested : (tops : List ℕ) (rows : List Row) → Reduced tops rows → Nested tops rows
reduced_nested [] rows r = r
reduced_nested (top ∷ rest) rows r = (r.0, r.1, r.2, each_map _ _ (λ g. reduced_nested rest g.rows) r.0 r.4)

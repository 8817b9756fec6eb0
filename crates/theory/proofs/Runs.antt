-- The table from left to right. Assumes nothing.
use Rattle.std.proofs.Common.{◌≡◌, ℕ, suc, ◌≤◌, ◌≢◌, List, ◌∷◌, length, refl, ap, ◌∙◌, arith}
use Rattle.packet.specs.Packets.{Within}
use Rattle.theory.specs.Tables.{Row, Group, join, groups, table, sub_table, part}
use Rattle.theory.proofs.Groups.{joined, groups_run, groups_longer, groups_counts}
use Rattle.theory.proofs.Theorems.{table_ext}

-- the table is the part for all values of the first field
pub whole_part : (top : ℕ) (rest : List ℕ) (m : List ℕ → ℕ) → table (top ∷ rest) m ≡ part rest m (suc top)
unfolding table
whole_part top rest m = refl

-- a value's sub-table has no more rows than the table
pub sub_table_counts : (top : ℕ) (rest : List ℕ) (m : List ℕ → ℕ) (v : ℕ) → v ≤ top → length (sub_table rest m v) ≤ length (table (top ∷ rest) m)
unfolding table
sub_table_counts top rest m v h = groups_counts (sub_table rest m) v (suc top) (omega arith)

-- the part for the values 0..n has no more rows than the table
pub part_counts : (top : ℕ) (rest : List ℕ) (m : List ℕ → ℕ) (n : ℕ) → n ≤ top → length (part rest m (suc n)) ≤ length (table (top ∷ rest) m)
unfolding table
part_counts top rest m n h = groups_longer (sub_table rest m) (suc n) (suc top) (omega arith)

-- m does not tell the values v..e of the first field apart
abbrev pub Constant : List ℕ → (List ℕ → ℕ) → ℕ → ℕ → Type 0
Constant rest m v e = (w : ℕ) → v ≤ w → w ≤ e → (q : List ℕ) → Within rest q → m (w ∷ q) ≡ m (v ∷ q)

-- a run of values is joined to the groups before it
pub run_join : (rest : List ℕ) (m : List ℕ → ℕ) (v e : ℕ) → v ≤ e → Constant rest m v e → groups (suc e) (sub_table rest m) ≡ join v e (sub_table rest m v) (groups v (sub_table rest m))
run_join rest m v e h k = groups_run (sub_table rest m) (sub_table rest m v) v e h (λ w a b. table_ext rest (λ q. m (w ∷ q)) (λ q. m (v ∷ q)) (k w a b))

join_same : (low high : ℕ) (t : List Row) (g : Group) (gs : List Group) → g.rows ≡ t → join low high t (g ∷ gs) ≡ record { low = g.low; high = high; rows = g.rows } ∷ gs
join_same low high t g gs e = joined (λ x. x ≡ record { low = g.low; high = high; rows = g.rows } ∷ gs) low high t g gs (λ _. rw e) (λ n. absurd (n e))

join_other : (low high : ℕ) (t : List Row) (g : Group) (gs : List Group) → g.rows ≢ t → join low high t (g ∷ gs) ≡ record { low = low; high = high; rows = t } ∷ g ∷ gs
join_other low high t g gs n = joined (λ x. x ≡ record { low = low; high = high; rows = t } ∷ g ∷ gs) low high t g gs (λ e. absurd (n e)) (λ _. refl)

-- after the last group g, the values v..e are joined to it where it has their sub-table, and else are a new group
pub run : (rest : List ℕ) (m : List ℕ → ℕ) (v e : ℕ) (g : Group) (gs : List Group) → v ≤ e → Constant rest m v e → groups v (sub_table rest m) ≡ g ∷ gs
    → (g.rows ≡ sub_table rest m v → groups (suc e) (sub_table rest m) ≡ record { low = g.low; high = e; rows = g.rows } ∷ gs)
    × (g.rows ≢ sub_table rest m v → groups (suc e) (sub_table rest m) ≡ record { low = v; high = e; rows = sub_table rest m v } ∷ g ∷ gs)
run rest m v e g gs h k i =
    let all = run_join rest m v e h k in (
      (λ s. all ∙ ap (join v e (sub_table rest m v)) i ∙ join_same v e (sub_table rest m v) g gs s),
      (λ n. all ∙ ap (join v e (sub_table rest m v)) i ∙ join_other v e (sub_table rest m v) g gs n),
    )

-- Nested tables, over any list of the fields' largest values. Cited by crate table's src/rows.rt. Assumes nothing.
use Rattle.std.specs.Prelude.{◌≡◌, ℕ, zero, suc, ◌≤◌, Bool, true, false, cond, ◌&&◌, List, [], ◌∷◌, ◌++◌, map, ◌==◌}
use Rattle.packet.specs.declared.range.Range.{Range}
use Rattle.packet.specs.Packets.{Within}
use Rattle.packet.specs.Regions.{holds}

-- a row: one range for each field, and what is decided of the packets in them
pub record Row : Type 0 where
  pub ranges : List (Range ℕ)
  pub decision : ℕ

-- the decision of the first row that holds the packet, or d if none does
abbrev pub lookup_or : ℕ → List Row → List ℕ → ℕ
lookup_or d [] p = d
lookup_or d (row ∷ rows) p = cond (holds row.ranges p) row.decision (lookup_or d rows p)

abbrev pub lookup : List Row → List ℕ → ℕ
lookup rows p = lookup_or 0 rows p

-- the rows decide every packet as m does
abbrev pub DecidesAs : List ℕ → (List ℕ → ℕ) → List Row → Type 0
DecidesAs tops m rows = (p : List ℕ) → Within tops p → lookup rows p ≡ m p

-- the rows of a table that share one range on the first field; `rows` has them with that range taken off
pub record Group : Type 0 where
  pub low : ℕ
  pub high : ℕ
  pub rows : List Row

-- a group's rows as they stand in the table, with the range on the first field
abbrev pub spread : ℕ → ℕ → List Row → List Row
spread low high rows = map (λ (r : Row). record { ranges = record { low = low; high = high } ∷ r.ranges; decision = r.decision }) rows

-- the rows of all groups. A list of groups has the LAST group first, since tables are built from left to right
abbrev pub flat : List Group → List Row
flat [] = []
flat (g ∷ gs) = flat gs ++ spread g.low g.high g.rows

-- the groups' ranges follow one another, with no gap and no overlap, from 0 up to all values below n
abbrev pub Upto : ℕ → List Group → Type 0
Upto n [] = n ≡ 0
Upto n (g ∷ gs) = (n ≡ suc g.high) × (g.low ≤ g.high) × Upto g.low gs

-- P holds of each group
abbrev pub Each : (Group → Type 0) → List Group → Type 0
Each P [] = Unit {0}
Each P (g ∷ gs) = P g × Each P gs

-- the rows are nested. With no field left: exactly one row. Otherwise they fall into consecutive groups that share a range
-- on the first field; these ranges follow one another from 0 to top; and each group's rows are nested in the fields that are left
abbrev pub Nested : List ℕ → List Row → Type 0
Nested [] rows = (d : ℕ) × (rows ≡ record { ranges = []; decision = d } ∷ [])
Nested (top ∷ rest) rows = (gs : List Group) × (rows ≡ flat gs) × Upto (suc top) gs × Each (λ g. Nested rest g.rows) gs

-- two groups' rows are alike: all values of the later fields get equal decisions
abbrev pub Alike : List ℕ → List Row → List Row → Type 0
Alike rest a b = (q : List ℕ) → Within rest q → lookup a q ≡ lookup b q

-- no two neighbouring groups are alike
abbrev pub Apart : List ℕ → List Group → Type 0
Apart rest [] = Unit {0}
Apart rest (g ∷ []) = Unit {0}
Apart rest (g ∷ h ∷ gs) = ¬ (Alike rest h.rows g.rows) × Apart rest (h ∷ gs)

-- the rows are nested, and at each field no two neighbouring ranges, under the same ranges of the earlier fields, are alike
abbrev pub Reduced : List ℕ → List Row → Type 0
Reduced [] rows = (d : ℕ) × (rows ≡ record { ranges = []; decision = d } ∷ [])
Reduced (top ∷ rest) rows = (gs : List Group) × (rows ≡ flat gs) × Upto (suc top) gs × Apart rest gs × Each (λ g. Reduced rest g.rows) gs

-- what it is to be the table of m: nested, no two neighbours alike, and deciding every packet as m does
pub record Canonical (tops : List ℕ) (m : List ℕ → ℕ) (rows : List Row) : Type 0 where
  pub nested : Nested tops rows
  pub reduced : Reduced tops rows
  pub decides : DecidesAs tops m rows

-- are two lists of ranges the same?
abbrev pub same_ranges : List (Range ℕ) → List (Range ℕ) → Bool
same_ranges [] [] = true
same_ranges [] (b ∷ ys) = false
same_ranges (a ∷ xs) [] = false
same_ranges (a ∷ xs) (b ∷ ys) = a.low == b.low && a.high == b.high && same_ranges xs ys

-- are two lists of rows the same?
abbrev pub same_rows : List Row → List Row → Bool
same_rows [] [] = true
same_rows [] (b ∷ ys) = false
same_rows (a ∷ xs) [] = false
same_rows (a ∷ xs) (b ∷ ys) = a.decision == b.decision && same_ranges a.ranges b.ranges && same_rows xs ys

-- the values low..high, whose sub-table is t, are joined to the last group if it has the same sub-table, or are a new group
abbrev pub join : ℕ → ℕ → List Row → List Group → List Group
join low high t [] = record { low = low; high = high; rows = t } ∷ []
join low high t (g ∷ gs) = cond (same_rows g.rows t)
    (record { low = g.low; high = high; rows = t } ∷ gs)
    (record { low = low; high = high; rows = t } ∷ g ∷ gs)

-- the groups of the values below n, where f has the sub-table of each value
unfoldable pub groups : ℕ → (ℕ → List Row) → List Group
groups zero f = []
groups (suc n) f = join n n (f n) (groups n f)

-- the table of m: for each value of the first field the sub-table of the later fields, equal neighbours joined
unfoldable pub table : List ℕ → (List ℕ → ℕ) → List Row
table [] m = record { ranges = []; decision = m [] } ∷ []
table (top ∷ rest) m = flat (groups (suc top) (λ v. table rest (λ q. m (v ∷ q))))

-- the sub-table of the value v of the first field
abbrev pub sub_table : List ℕ → (List ℕ → ℕ) → ℕ → List Row
sub_table rest m v = table rest (λ q. m (v ∷ q))

-- the part of the table for the values below n of the first field
abbrev pub part : List ℕ → (List ℕ → ℕ) → ℕ → List Row
part rest m n = flat (groups n (sub_table rest m))

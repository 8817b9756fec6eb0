-- The rows of a meaning's table have the meaning's decisions. Assumes nothing.
use Rattle.std.proofs.Common.{ℕ, suc, ◌<◌, List, [], ◌∷◌, length, get_or, arith}
use Rattle.std.specs.List.{AllByRecursion}
use Rattle.std.proofs.ByRecursion.{All-get_or, All-append, All-map}
use Rattle.packet.specs.Packets.{Within}
use Rattle.theory.specs.Tables.{Row, Group, spread, flat, Each, groups, table, sub_table}
use Rattle.theory.proofs.Groups.{groups_each}

-- P holds of each row's decision
abbrev Decisions : (ℕ → Type 0) → List Row → Type 0
Decisions P rows = AllByRecursion (λ (r : Row). P r.decision) rows

decisions_flat : (P : ℕ → Type 0) (gs : List Group) → Each (λ g. Decisions P g.rows) gs → Decisions P (flat gs)
decisions_flat P [] e = tt
decisions_flat P (g ∷ gs) e = All-append _ (flat gs) (spread g.low g.high g.rows) (decisions_flat P gs e.1) (All-map _ _ g.rows e.0)

decisions_all : (P : ℕ → Type 0) (tops : List ℕ) (m : List ℕ → ℕ) → ((q : List ℕ) → Within tops q → P (m q)) → Decisions P (table tops m)
unfolding table
decisions_all P [] m h = (h [] tt, tt)
decisions_all P (top ∷ rest) m h = decisions_flat P (groups (suc top) (sub_table rest m))
    (groups_each (Decisions P) (sub_table rest m) (suc top) (λ v l. decisions_all P rest (λ q. m (v ∷ q)) (λ q w. h (v ∷ q) (omega arith, w))))

-- what holds of whatever m decides of a packet holds of the decision of each row of its table
pub table_decisions : (P : ℕ → Type 0) (tops : List ℕ) (m : List ℕ → ℕ) → ((q : List ℕ) → Within tops q → P (m q))
    → (i : ℕ) (d : Row) → i < length (table tops m) → P (get_or (table tops m) i d).decision
table_decisions P tops m h i d l = All-get_or (λ (r : Row). P r.decision) (table tops m) i d l (decisions_all P tops m h)

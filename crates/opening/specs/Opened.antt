-- What opening packed bytes answers, and what an opened table decides. Cited by src/packed_table/opened.rt and
-- src/packed_table/source.rt. Assumes nothing.
use Rattle.std.specs.Prelude.{◌≡◌, ℕ, ◌<◌, ◌≤◌, List, length, Some, None, Ok, Err, vec_items, Result}
use Rattle.packet.specs.Packets.{tops, Within}
use Rattle.packet.specs.Regions.{range_at}
use Rattle.decision.specs.Kinds.{known}
use Rattle.theory.specs.Tables.{lookup, table}
use Rattle.theory.specs.Holding.{held}
use Rattle.table.specs.Rows.{most_rows}
use Rattle.blocks.specs.Writing.{packed}
use Rattle.blocks.specs.Reading.{rows_in}
use Rattle.damage.specs.declared.refusal.OpenRefusal.{OpenRefusal}
use Rattle.damage.specs.declared.refusal.OpenRefusal.TheVariants.{Damaged, Memory}
use Rattle.opening.specs.declared.packed_table.Table.{Table}
use Rattle.opening.specs.Damages.{damage_of}

-- the bytes of a table
abbrev pub bytes_of : {K : Type 0} → Table K → List ℕ
bytes_of t = vec_items t.bytes

-- what packed bytes decide: the decision of the row that holds the packet. A number that is no decision of the kind counts as the silent
-- one; open lets no such number in
abbrev pub meant : ℕ → ℕ → List ℕ → List ℕ → ℕ
meant size silent bytes p = known size silent (lookup (rows_in bytes) p)

-- where the range that holds the packet's value of a field, under the ranges of the earlier fields that hold its values, ends
abbrev pub range_end : List ℕ → ℕ → List ℕ → ℕ
range_end bytes f p = (range_at (held (rows_in bytes) p) f).high

-- the answer: a table of these very bytes if they have no damage; else the first damage. Want of memory comes after all damage
abbrev pub Opens : {K : Type 0} → ℕ → ℕ → List ℕ → Result (Table K) OpenRefusal → Type 0
Opens label size bytes (Ok t) = (bytes_of t ≡ bytes) × (damage_of label size bytes ≡ None)
Opens label size bytes (Err (Damaged damage)) = damage_of label size bytes ≡ Some damage
Opens label size bytes (Err Memory) = damage_of label size bytes ≡ None

-- every packet gets a decision of the kind
abbrev pub Decided : ℕ → (List ℕ → ℕ) → Type 0
Decided size m = (p : List ℕ) → Within tops p → m p < size

-- an opened table decides every packet as m does; there is no damage
abbrev pub OpenedAs : {K : Type 0} → ℕ → ℕ → (List ℕ → ℕ) → Result (Table K) OpenRefusal → Type 0
OpenedAs size silent m (Ok t) = (p : List ℕ) → Within tops p → meant size silent (bytes_of t) p ≡ m p
OpenedAs size silent m (Err (Damaged damage)) = ⊥
OpenedAs size silent m (Err Memory) = Unit {0}

-- a packed table, opened, decides as its source did: whatever m decides, if the bytes are the packed form of m's table
abbrev pub DecidesAsPacked : {K : Type 0} → ℕ → ℕ → ℕ → List ℕ → Result (Table K) OpenRefusal → Type 0
DecidesAsPacked label size silent bytes r = (m : List ℕ → ℕ) → Decided size m → length (table tops m) ≤ most_rows → bytes ≡ packed label (table tops m) → OpenedAs size silent m r

-- an opened table packs to its own bytes: what it decides has a table of at most 1,152 rows, whose packed form they are
abbrev pub PacksToItself : {K : Type 0} → ℕ → ℕ → ℕ → List ℕ → Result (Table K) OpenRefusal → Type 0
PacksToItself label size silent bytes (Ok t) = (length (table tops (meant size silent (bytes_of t))) ≤ most_rows) × (packed label (table tops (meant size silent (bytes_of t))) ≡ bytes)
PacksToItself label size silent bytes (Err refusal) = Unit {0}

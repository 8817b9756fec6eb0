-- What an opened table decides, and what opening answers. Assumes nothing.
use Rattle.std.specs.Prelude.{◌≡◌, ℕ, ◌<◌, ◌≤◌, true, List, length, Some, None, Err, Result}
use Rattle.std.proofs.Common.{sym, ap, ◌∙◌, subst, arith}
use Rattle.std.proofs.lemmas.Bool.{lt-ltb, cond-true}
use Rattle.packet.specs.Packets.{tops, Within}
use Rattle.policy.specs.Edges.{Edge, Alike}
use Rattle.decision.specs.Kinds.{known}
use Rattle.theory.specs.Tables.{lookup, table}
use Rattle.theory.specs.Steps.{passes}
use Rattle.theory.proofs.Steps.{passes_nested}
use Rattle.theory.proofs.Theorems.{table_ext}
use Rattle.theory.proofs.Holding.{reaches}
use Rattle.table.specs.Rows.{most_rows}
use Rattle.blocks.specs.Numbers.{Bytes}
use Rattle.blocks.specs.Writing.{packed}
use Rattle.blocks.specs.Reading.{row_count, rows_in}
use Rattle.damage.specs.declared.damage.Damage.{Damage}
use Rattle.damage.specs.declared.refusal.OpenRefusal.{OpenRefusal}
use Rattle.damage.specs.declared.refusal.OpenRefusal.TheVariants.{Damaged}
use Rattle.opening.specs.declared.packed_table.Table.{Table}
use Rattle.opening.specs.Damages.{damage_of}
use Rattle.opening.specs.Opened.{Decided, meant, range_end, Opens, DecidesAsPacked, PacksToItself}
use Rattle.opening.specs.Searching.{HoldsNested}
use Rattle.opening.specs.Firsts.{none_some}
use Rattle.opening.specs.Undone.{packs_back, opens_packed, clean_nested, clean_room, clean_decided}

-- the end of the range that holds a packet is an edge
pub range_end_edge : (size silent : ℕ) (bytes : List ℕ) → passes tops (rows_in bytes) ≡ true → (f : ℕ) (p : List ℕ) (r : ℕ) → f < length tops → Within tops p → r ≡ range_end bytes f p → Edge (meant size silent bytes) p f r
unfolding Alike
range_end_edge size silent bytes n f p r h w e =
    let reach = reaches tops (rows_in bytes) (passes_nested tops (rows_in bytes) n) p w f h in
    record {
      from = omega (arith, reach.high, e);
      most = omega (arith, reach.most, e);
      alike = λ x y rest i a b c d. ap (known size silent) (reach.alike x y rest i (omega (arith, reach.low, a)) (omega (arith, e, b)) (omega (arith, reach.low, c)) (omega (arith, e, d)));
    }

-- bytes without damage hold nested rows
pub clean_holds : (label size : ℕ) (bytes : List ℕ) (rows : ℕ) → damage_of label size bytes ≡ None → rows ≡ row_count bytes → HoldsNested bytes rows
clean_holds label size bytes rows n e = record { count = e; room = omega (arith, (clean_room label size bytes n).0, e); nested = clean_nested label size bytes n }

-- what rows without damage decide is of the kind, so nothing counts as silent
all_known : (label size silent : ℕ) (bytes : List ℕ) → damage_of label size bytes ≡ None → (p : List ℕ) → Within tops p → meant size silent bytes p ≡ lookup (rows_in bytes) p
all_known label size silent bytes n p w = cond-true _ _ _ (lt-ltb _ _ (clean_decided label size bytes n p w))

module _ (label size silent : ℕ) (byte : label ≤ 255) (few : size ≤ 16) (bytes : List ℕ) where
  -- what opening promises of an answer
  abbrev pub Told : {K : Type 0} → Result (Table K) OpenRefusal → Type 0
  Told r = Opens label size bytes r × DecidesAsPacked label size silent bytes r × PacksToItself label size silent bytes r

  pub told_damaged : {K : Type 0} (r : Result (Table K) OpenRefusal) (d : Damage) → r ≡ Err (Damaged d) → damage_of label size bytes ≡ Some d → Told r
  told_damaged r d e n = subst Told (sym e) (n, (λ m a b i. none_some _ _ (opens_packed label size bytes byte few m a b i).0 n), tt)

  -- what is promised of a table with these bytes
  pub told_opened : (items : List ℕ) → items ≡ bytes → damage_of label size bytes ≡ None → Bytes bytes
      → ((items ≡ bytes) × (damage_of label size bytes ≡ None))
      × ((m : List ℕ → ℕ) → Decided size m → length (table tops m) ≤ most_rows → bytes ≡ packed label (table tops m) → (p : List ℕ) → Within tops p → meant size silent items p ≡ m p)
      × ((length (table tops (meant size silent items)) ≤ most_rows) × (packed label (table tops (meant size silent items)) ≡ bytes))
  told_opened items e n b =
      let back = packs_back label size bytes b n in
      let same : table tops (meant size silent items) ≡ table tops (lookup (rows_in bytes)) = ap (λ (x : List ℕ). table tops (meant size silent x)) e ∙ table_ext tops _ _ (all_known label size silent bytes n) in (
        (e, n),
        (λ m a k i p w. ap (λ (x : List ℕ). meant size silent x p) e ∙ all_known label size silent bytes n p w ∙ (opens_packed label size bytes byte few m a k i).1 p w),
        (omega (arith, ap length same, back.1), ap (packed label) same ∙ back.2),
      )

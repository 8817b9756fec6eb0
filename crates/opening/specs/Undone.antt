-- Packing and opening undo each other, and what bytes without damage hold. Assumes nothing.
use Rattle.std.specs.Prelude.{◌≡◌, ℕ, suc, ◌+◌, ◌-◌, ◌*◌, ◌/◌, ◌%◌, ◌<◌, ◌≤◌, true, false, not, ◌||◌, List, [], length, get_or, None, ◌==◌, nat_lt, slice_index_or, refl}
use Rattle.std.proofs.Common.{sym, ap, ◌∙◌, subst, inl, inr, arith}
use Rattle.std.proofs.lemmas.Bool.{cases_lt, eqb-true, eqb-false, eq-eqb, ne_eqb, le-ltb, ltb-false, or_parts, or_from, not-false, not_from_true}
use Rattle.packet.specs.Packets.{tops}
use Rattle.theory.specs.Tables.{Row, lookup, DecidesAs, Nested, Reduced, table}
use Rattle.theory.specs.Steps.{passes}
use Rattle.theory.proofs.Steps.{passes_nested, nested_fits, nested_some}
use Rattle.theory.proofs.Unique.{table_unique}
use Rattle.theory.proofs.Holding as holding
use Rattle.theory.proofs.Theorems.{table_nested, table_reduced, table_decides}
use Rattle.theory.proofs.Decisions.{table_decisions}
use Rattle.table.specs.Rows.{most_rows}
use Rattle.blocks.specs.Numbers.{Bytes}
use Rattle.blocks.specs.Writing.{block_count, packed}
use Rattle.blocks.specs.Reading.{row_of, block_at, count_in, row_slice, blocks_in, row_count, rows_in, Formed}
use Rattle.blocks.proofs.Formed.{length-rows, row_at, formed_packed, packed_formed}
use Rattle.damage.specs.declared.damage.Damage.TheVariants.{Length}
use Rattle.opening.specs.Damages.{found, first, wrong_length, block_damage, nesting_damage, neighbour_damage, damage_of}
use Rattle.opening.specs.Opened.{Decided}
use Rattle.opening.specs.Firsts.{found_none, none_found, or_none, none_or, first_none, none_first}
use Rattle.opening.specs.WordsLemmas.{nesting_passes, nested_undamaged, neighbours_reduced, reduced_undamaged}
use Rattle.opening.specs.Sound.{Native, Sound, sound_block, block_sound}

-- whatever m decides: if the bytes are the packed form of its table, they have no damage, and their rows decide every packet as m does
abbrev pub OpensPacked : ℕ → ℕ → List ℕ → Type 0
OpensPacked label size bytes = (m : List ℕ → ℕ) → Decided size m → length (table tops m) ≤ most_rows → bytes ≡ packed label (table tops m)
    → (damage_of label size bytes ≡ None) × DecidesAs tops m (rows_in bytes)

-- if bytes have no damage, what their rows decide is of the kind, and its table has at most 1,152 rows and packs to these very bytes
abbrev pub PacksBack : ℕ → ℕ → List ℕ → Type 0
PacksBack label size bytes = damage_of label size bytes ≡ None
    → Decided size (lookup (rows_in bytes)) × (length (table tops (lookup (rows_in bytes))) ≤ most_rows) × (packed label (table tops (lookup (rows_in bytes))) ≡ bytes)

-- the length is that of 1 to 64 whole blocks
record Whole (bytes : List ℕ) : Type 0 where
  whole : length bytes ≡ 512 * blocks_in bytes
  some : 1 ≤ blocks_in bytes
  most : blocks_in bytes ≤ 64

right_whole : (bytes : List ℕ) → wrong_length bytes ≡ false → Whole bytes
right_whole bytes e =
    let n = length bytes in
    let o = or_parts (n == 0 || not (n % 512 == 0)) (nat_lt 32768 n) e in
    let p = or_parts (n == 0) (not (n % 512 == 0)) o.0 in
    let z = eqb-false n 0 p.0 in
    let m = eqb-true (n % 512) 0 (not-false _ p.1) in
    let l = ltb-false 32768 n o.1 in
    record { whole = omega arith; some = omega arith; most = omega arith }

whole_right : (bytes : List ℕ) → Whole bytes → wrong_length bytes ≡ false
whole_right bytes w =
    or_from _ _ (or_from _ _ (ne_eqb _ 0 (λ e. omega arith)) (not_from_true _ (eq-eqb (length bytes % 512) 0 (omega arith)))) (le-ltb 32768 (length bytes) (omega arith))

-- a block that no other follows has the count of the last
last_count : (bytes : List ℕ) (k : ℕ) → k < blocks_in bytes → blocks_in bytes ≤ suc k → count_in (block_at bytes k) ≡ count_in (block_at bytes (blocks_in bytes - 1))
last_count bytes k h b = let e : k ≡ blocks_in bytes - 1 = omega arith in ap (λ (x : ℕ). count_in (block_at bytes x)) e

-- what it is to have no damage: whole blocks, each of them right, and rows that are nested and reduced
record Clean (label size : ℕ) (bytes : List ℕ) : Type 0 where
  whole : Whole bytes
  sound : (k : ℕ) → k < blocks_in bytes → Sound label size bytes k
  passed : passes tops (rows_in bytes) ≡ true
  nested : Nested tops (rows_in bytes)
  reduced : Reduced tops (rows_in bytes)

module _ (label size : ℕ) (bytes : List ℕ) where
  clean : damage_of label size bytes ≡ None → Clean label size bytes
  unfolding damage_of
  clean e =
      let a = or_none (found (wrong_length bytes) Length) _ e in
      let b = or_none (first (blocks_in bytes) (block_damage label size bytes)) _ a.1 in
      let c = or_none (nesting_damage (rows_in bytes)) (neighbour_damage (rows_in bytes)) b.1 in
      let p = nesting_passes (rows_in bytes) c.0 in
      let n = passes_nested tops (rows_in bytes) p in
      record {
        whole = right_whole bytes (found_none _ _ a.0);
        sound = λ k h. sound_block label size bytes k (first_none (blocks_in bytes) (block_damage label size bytes) b.0 k h);
        passed = p;
        nested = n;
        reduced = neighbours_reduced (rows_in bytes) n c.1;
      }

  undamaged : Whole bytes → ((k : ℕ) → k < blocks_in bytes → Sound label size bytes k) → Nested tops (rows_in bytes) → Reduced tops (rows_in bytes) → damage_of label size bytes ≡ None
  unfolding damage_of
  undamaged w s n r = none_or _ _ (none_found _ _ (whole_right bytes w))
      (none_or _ _ (none_first (blocks_in bytes) (block_damage label size bytes) (λ k h. block_sound label size bytes k (s k h)))
      (none_or _ _ (nested_undamaged (rows_in bytes) n) (reduced_undamaged (rows_in bytes) r)))

  -- the blocks of well-formed bytes whose decisions are of the kind
  formed_sound : Formed label bytes → ((i : ℕ) → i < row_count bytes → (row_of (row_slice bytes i)).decision < size) → (k : ℕ) → k < blocks_in bytes → Sound label size bytes k
  formed_sound f decisions k h =
      let in_rows : (j : ℕ) → j < count_in (block_at bytes k) → 18 * k + j < row_count bytes = λ j l. elim (cases_lt (suc k) (blocks_in bytes)) [
        | inl b ↦ omega (arith, f.full k b)
        | inr b ↦ omega (arith, last_count bytes k h b)
      ] in
      record {
        check = f.checks k h;
        full = λ b. f.full k b;
        last = λ b. (omega (arith, last_count bytes k h b, f.last_some), omega (arith, last_count bytes k h b, f.last_most));
        number = f.numbers k h;
        unused = λ j l. f.unused k j h l;
        rows = λ j l. record { kind = f.kinds (18 * k + j) (in_rows j l); decision = decisions (18 * k + j) (in_rows j l) };
      }

  -- each row of bytes without damage is of the kind, and its decision one of the kind's
  clean_native : damage_of label size bytes ≡ None → (i : ℕ) → i < row_count bytes → Native label size bytes i
  clean_native e i h =
      let c = clean e in
      let k : ℕ = i / 18 in
      let j : ℕ = i % 18 in
      let s = c.whole.some in
      let last = (c.sound (blocks_in bytes - 1) (omega arith)).last (omega arith) in
      let l : k < blocks_in bytes = omega arith in
      let m : j < count_in (block_at bytes k) = elim (cases_lt (suc k) (blocks_in bytes)) [
        | inl b ↦ omega (arith, (c.sound k l).full b)
        | inr b ↦ omega (arith, last_count bytes k l b)
      ] in
      let f : 18 * k + j ≡ i = omega arith in
      subst (Native label size bytes) f ((c.sound k l).rows j m)

  -- bytes without damage are well-formed
  clean_formed : damage_of label size bytes ≡ None → Formed label bytes
  clean_formed e =
      let c = clean e in
      let s = c.whole.some in
      let last = (c.sound (blocks_in bytes - 1) (omega arith)).last (omega arith) in
      record {
        whole = c.whole.whole;
        some = s;
        checks = λ k h. (c.sound k h).check;
        full = λ k h. (c.sound k (omega arith)).full h;
        last_some = last.0;
        last_most = last.1;
        numbers = λ k h. (c.sound k h).number;
        unused = λ k j h l. (c.sound k h).unused j l;
        kinds = λ i h. (clean_native e i h).kind;
      }

  -- their rows pass as nested
  pub clean_nested : damage_of label size bytes ≡ None → passes tops (rows_in bytes) ≡ true
  clean_nested e = (clean e).passed

  -- there is at least one row, and no more than the blocks have room for, or than are ever packed
  pub clean_room : damage_of label size bytes ≡ None → (row_count bytes ≤ 18 * (length bytes / 512)) × (row_count bytes ≤ 1152) × (1 ≤ row_count bytes)
  clean_room e =
      let w = (clean e).whole in
      let f = clean_formed e in
      let a = f.last_some in
      let b = f.last_most in
      (omega arith, omega arith, omega arith)

  -- what their rows decide is of the kind
  pub clean_decided : damage_of label size bytes ≡ None → Decided size (lookup (rows_in bytes))
  clean_decided e p w =
      let d : Row = record { ranges = []; decision = 0 } in
      let f = holding.found tops (rows_in bytes) (clean e).nested p w in
      let i : ℕ = f.place in
      let h : i < row_count bytes = omega (arith, f.within, length-rows bytes) in
      subst (λ (x : ℕ). x < size) (ap (λ (r : Row). r.decision) (sym (row_at bytes i d h)) ∙ f.decides d) (clean_native e i h).decision

  -- their rows are the table of what they decide
  clean_table : damage_of label size bytes ≡ None → rows_in bytes ≡ table tops (lookup (rows_in bytes))
  clean_table e = table_unique tops (lookup (rows_in bytes)) (rows_in bytes) (clean e).reduced (λ p w. refl)

  -- if bytes have no damage, what their rows decide is of the kind, and its table packs to these very bytes
  pub packs_back : Bytes bytes → PacksBack label size bytes
  packs_back b e =
      let t = clean_table e in
      let n = ap length t in
      let r = clean_room e in
      (clean_decided e, omega (arith, length-rows bytes), ap (packed label) (sym t) ∙ formed_packed label bytes (clean_formed e) b)

  -- the packed form of a table of the kind has no damage, and its rows decide every packet as the table does
  pub opens_packed : label ≤ 255 → size ≤ 16 → OpensPacked label size bytes
  opens_packed small few m decided most e =
      let none : Row = record { ranges = []; decision = 0 } in
      let rows : List Row = table tops m in
      let n = table_nested tops m in
      let below : (i : ℕ) (d : Row) → i < length rows → (get_or rows i d).decision < size = table_decisions (λ (x : ℕ). x < size) tops m decided in
      let f = packed_formed label rows (omega arith) (nested_some tops rows n) most (λ i h. (nested_fits tops rows n i h, omega (arith, below i none h))) in
      let formed : Formed label bytes = subst (Formed label) (sym e) f.0 in
      let are : rows_in bytes ≡ rows = ap rows_in e ∙ f.1 in
      let count : row_count bytes ≡ length rows = ap row_count e ∙ f.2 in
      let blocks : blocks_in bytes ≡ block_count (length rows) = ap blocks_in e ∙ f.3 in
      let here : (i : ℕ) → slice_index_or rows i none ≡ get_or (rows_in bytes) i none = λ i. ap (λ (x : List Row). get_or x i none) (sym are) in
      let decisions : (i : ℕ) → i < row_count bytes → (row_of (row_slice bytes i)).decision < size = λ i h. subst (λ (r : Row). r.decision < size) (here i ∙ row_at bytes i none h) (below i none (omega arith)) in
      let whole : Whole bytes = record { whole = formed.whole; some = formed.some; most = omega arith } in
      (undamaged whole (formed_sound formed decisions) (rw are n) (rw are (table_reduced tops m)), rw are (table_decides tops m))

-- How the rows of a source grow while the values of one field are gone through. Assumes nothing.
use Rattle.std.proofs.Common.{◌≡◌, ℕ, ◌+◌, ◌<◌, ◌≤◌, min, Bool, true, false, List, [], ◌∷◌, ◌++◌, length, length-drop, get_or, take, drop, set, Decides, sym, refl, ap, ◌∙◌, subst, ap₂, add-one, arith}
use Rattle.std.specs.List.{between, slice_range}
use Rattle.std.proofs.lemmas.List.{append-nil, append_assoc, drop_more, drop_all, map_push, take_all, take_rest, take_at, take-set, take_more_set, get_or-set_same}
use Rattle.packet.specs.declared.range.Range.{Range}
use Rattle.packet.specs.declared.packet.Packet.{Packet}
use Rattle.packet.specs.declared.field.Field.{Field}
use Rattle.packet.specs.declared.field.Field.TheVariants.{Source, SourcePort, Destination, DestinationPort, Protocol}
use Rattle.packet.specs.Regions.{ranges}
use Rattle.packet.specs.Packets.{values, tops, place, Within, fields as all_fields}
use Rattle.packet.proofs.Values.{place_few}
use Rattle.policy.specs.Edges.{Edge, Alike}
use Rattle.theory.specs.Tables.{Row, table, sub_table}
use Rattle.theory.proofs.Runs.{Constant, sub_table_counts}
use Rattle.table.specs.declared.row.Row as code
use Rattle.table.specs.Rows.{plain, view}
use Rattle.table.specs.Parts.{before, AreLast, table_from, whole, uncut, cut_between}
use Rattle.table.proofs.Built.{Built, built_first, built_next, built_whole, new_counts}

-- before the first field there is nothing to cut
pub uncut_none : (t : List Row) → uncut 0 t ≡ t
uncut_none [] = refl
uncut_none (r ∷ t) = ap (λ (a : List Row). r ∷ a) (uncut_none t)

-- with no field left, one row is put behind the others
pub leaf : (m : List ℕ → ℕ) (f : ℕ) (at : Packet) → length tops ≤ f → (row : code.Row) → ranges row.region ≡ whole → row.decision ≡ m (values at)
    → (rows all : List code.Row) → all ≡ rows ++ row ∷ []
    → view all ≡ view rows ++ uncut f (table_from m f (values at))
unfolding table
leaf m f at h row w e rows all i =
    let p = values at in
    let R : List (Range ℕ) → ℕ → List Row = λ a x. view rows ++ record { ranges = a; decision = x } ∷ [] in
    ap view i ∙ map_push plain rows row
    ∙ ap₂ R (w ∙ sym (append-nil (take f whole) ∙ take_all f whole h)) (e ∙ sym (ap m (append-nil (take f p) ∙ take_all f p h)))
    ∙ sym (ap (λ (a : List ℕ). view rows ++ uncut f (table a (λ q. m (take f p ++ q)))) (drop_all f tops h))

-- the first of the last fields has its place, and those behind it are the last ones too
pub next_place : (h : Field) (later : List Field) → AreLast (h ∷ later) → (place h ≡ before (h ∷ later)) × (before later ≡ before (h ∷ later) + 1) × AreLast later
next_place h [] e = let k : h ≡ Protocol = cc in (ap place k, refl, refl)
next_place h (a ∷ []) e = let k : h ≡ DestinationPort = cc in (ap place k, refl, cc)
next_place h (a ∷ b ∷ []) e = let k : h ≡ Destination = cc in (ap place k, refl, cc)
next_place h (a ∷ b ∷ c ∷ []) e = let k : h ≡ SourcePort = cc in (ap place k, refl, cc)
next_place h (a ∷ b ∷ c ∷ d ∷ []) e = let k : h ≡ Source = cc in (ap place k, refl, cc)
next_place h (a ∷ b ∷ c ∷ d ∷ k ∷ later) e = absurd (omega (arith, ap length e, length-drop (before (h ∷ a ∷ b ∷ c ∷ d ∷ k ∷ later)) all_fields))

-- the same where those behind the first are a slice
pub next_field : (fields : List Field) (d : Field) → 1 ≤ length fields → AreLast fields
    → (place (get_or fields 0 d) ≡ before fields) × (before (slice_range fields 1 (length fields)) ≡ before fields + 1) × AreLast (slice_range fields 1 (length fields))
next_field [] d l e = absurd (omega arith)
next_field (h ∷ later) d l e =
    subst (λ (x : List Field). (place h ≡ before (h ∷ later)) × (before x ≡ before (h ∷ later) + 1) × AreLast x) (sym (take_rest (h ∷ later) 1)) (next_place h later e)

-- what is put behind rows for the fields from k on, where k is f + 1
module _ (k f : ℕ) (m : List ℕ → ℕ) where
  pub rows_at : (was : List Row) (at : Packet) → k ≡ f + 1 → (was ++ uncut k (table_from m k (values at))) ≡ (was ++ uncut (f + 1) (table_from m (f + 1) (values at)))
  rows_at was at e = ap (λ n. was ++ uncut n (table_from m n (values at))) e

  pub counts_at : (at : Packet) → k ≡ f + 1 → length (table_from m k (values at)) ≡ length (table_from m (f + 1) (values at))
  counts_at at e = ap (λ n. length (table_from m n (values at))) e

-- the field h has the place f, and the fields before it have the values of `at`; `left` is what m then decides
module _ (m : List ℕ → ℕ) (h : Field) (f : ℕ) (e : place h ≡ f) (at : Packet) where
  abbrev pub left : List ℕ → ℕ
  left q = m (take f (values at) ++ q)

  abbrev pub later : List ℕ
  later = drop (f + 1) tops

  below : f < length tops
  below = omega (arith, place_few h)

  -- the packet `next` is `at` with the value v of the field
  abbrev pub Has : Packet → ℕ → Type 0
  Has next v = (v ≤ get_or tops (place h) 0) × (values next ≡ set (values at) (place h) (min v (get_or tops (place h) 0)))

  module _ (next : Packet) (v : ℕ) (has : Has next v) where
    most : v ≤ get_or tops f 0
    most = subst (λ n. v ≤ get_or tops n 0) e has.0

    is_set : values next ≡ set (values at) f v
    is_set =
        let k : min v (get_or tops f 0) ≡ v = omega (arith, most) in
        has.1 ∙ ap (λ n. set (values at) n (min v (get_or tops n 0))) e ∙ ap (set (values at) f) k

    same_before : take f (values next) ≡ take f (values at)
    same_before = ap (take f) is_set ∙ take-set (values at) f v

    value_here : get_or (values next) f 0 ≡ v
    value_here = ap (λ a. get_or a f 0) is_set ∙ get_or-set_same (values at) f v 0 below

    -- what is left of `next` is what is left of `at` at the value v
    cell_table : table_from m (f + 1) (values next) ≡ sub_table later left v
    cell_table =
        let k = ap (take (f + 1)) is_set ∙ take_more_set (values at) f v below in
        λ i. table later (λ q. m ((ap (λ a. a ++ q) k ∙ append_assoc (take f (values at)) (v ∷ []) q) i))

    -- its table has no more rows
    pub cell_counts : length (table_from m (f + 1) (values next)) ≤ length (table_from m f (values at))
    cell_counts = omega (arith, ap length cell_table, ap (λ a. length (table a left)) (drop_more tops f 0 below), sub_table_counts (get_or tops f 0) later left v most)

    module _ (r : ℕ) (edge : Edge m (values next) (place h) r) where
      edge_here : Edge m (values next) f r
      edge_here = subst (λ n. Edge m (values next) n r) e edge

      pub edge_from : v ≤ r
      edge_from = omega (arith, value_here, edge_here.from)

      edge_constant : Constant later left v r
      unfolding Alike
      edge_constant w l u q i =
          ap (λ a. m (a ++ (w ∷ q))) (sym same_before)
          ∙ edge_here.alike w v q (subst (λ n. Within (drop n tops) q) (add-one f) i) (omega (arith, value_here)) u (omega (arith, value_here)) (omega (arith, value_here, edge_from))
          ∙ ap (λ a. m (a ++ (v ∷ q))) same_before

  -- the rows of the values 0..r are there
  pub first_step : (next : Packet) (has : Has next 0) (r : ℕ) → Edge m (values next) (place h) r
      → (was now : List Row) (base : ℕ) → now ≡ was ++ uncut (f + 1) (table_from m (f + 1) (values next)) → length was ≡ base
      → Built left later f (take base now) now base 0 r
  first_step next has r edge was now base i n =
      subst (λ (x : List Row). Built left later f x now base 0 r) (sym (ap (take base) i ∙ take_at was (uncut (f + 1) (table_from m (f + 1) (values next))) base n))
      (built_first left later f was now base r (edge_constant next 0 has r edge) (i ∙ ap (λ (x : List Row). was ++ uncut (f + 1) x) (cell_table next 0 has)) n)

  module _ (old now : List Row) (start low high : ℕ) (b : Built left later f old now start low high) where
    -- the rows of the next value stand behind them, and a test tells whether they are the last group's
    module _ (next : Packet) (has : Has next (high + 1)) (all : List Row) (i : all ≡ now ++ uncut (f + 1) (table_from m (f + 1) (values next)))
        (end : ℕ) (n : length now ≡ end) (same : Bool) (d : Decides same (between start end all ≡ drop end all)) where
      with_next : all ≡ now ++ uncut (f + 1) (sub_table later left (high + 1))
      with_next = i ∙ ap (λ (x : List Row). now ++ uncut (f + 1) x) (cell_table next (high + 1) has)

      pub next_step : (r : ℕ) → Edge m (values next) (place h) r
          → (same ≡ true → Built left later f old (take end all) start low r)
          × (same ≡ false → Built left later f old (cut_between start end (place h) (record { low = low; high = high }) all) end (high + 1) r)
      next_step r edge =
          let two = built_next left later f old now start low high b r (edge_from next (high + 1) has r edge) (edge_constant next (high + 1) has r edge) below
          (omega (arith, most next (high + 1) has)) all end with_next n same d in
          (two.0, λ t. subst (λ x. Built left later f old (cut_between start end x (record { low = low; high = high }) all) end (high + 1) r) (sym e) (two.1 t))

      -- so many rows the table has, if they are not
      pub all_count : same ≡ false → length all ≤ length old + length (table_from m f (values at))
      all_count t = omega (arith, new_counts left later f old now start low high b below (most next (high + 1) has) all end with_next n same d t, ap (λ a. length (table a left)) (drop_more tops f 0 below))

    -- at the top the table is complete, once the last group has its range
    pub last_step : high ≡ get_or tops (place h) 0 → (end : ℕ) → length now ≡ end
        → cut_between start end (place h) (record { low = low; high = high }) now ≡ old ++ uncut f (table_from m f (values at))
    last_step t end n =
        ap (λ x. cut_between start end x (record { low = low; high = high }) now) e
        ∙ built_whole left later f old now start low high b below (t ∙ ap (λ x. get_or tops x 0) e) end n
        ∙ ap (λ (a : List ℕ). old ++ uncut f (table a left)) (sym (drop_more tops f 0 below))

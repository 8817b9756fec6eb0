-- Rows that are built from left to right. Assumes nothing.
use Rattle.std.proofs.Common.{◌≡◌, ℕ, suc, ◌+◌, ◌-◌, ◌<◌, ◌≤◌, min, Bool, true, false, ◌≢◌, List, [], ◌∷◌, ◌++◌, map, length, get_or, take, drop, set, Decides, sym, refl, ap, ◌∙◌, subst, ap₂, add-one, arith}
use Rattle.std.proofs.lemmas.List.{append-nil, append_assoc, map-append, length-append, length-map, length-take-le, take_more, take_at, drop_at, set_at}
use Rattle.std.specs.List.{between}
use Rattle.std.proofs.lemmas.Bool.{both_ways}
use Rattle.packet.specs.declared.range.Range.{Range}
use Rattle.packet.specs.Packets.{tops}
use Rattle.packet.specs.Regions.{clamped}
use Rattle.theory.specs.Tables.{Row, Group, spread, flat, Upto, groups, table, sub_table, part}
use Rattle.theory.proofs.Groups.{groups_upto}
use Rattle.theory.proofs.Runs.{Constant, run, run_join, whole_part, part_counts}
use Rattle.table.specs.Parts.{whole, uncut_row, uncut, cut, cut_between}

-- one range on field f of a row whose fields up to f are whole
cut_row : (f : ℕ) (range : Range ℕ) (r : Row) → f < length tops → range.low ≤ get_or tops f 0 → range.high ≤ get_or tops f 0
    → cut f range (uncut_row (f + 1) r) ≡ uncut_row f (record { ranges = range ∷ r.ranges; decision = r.decision })
cut_row f range r h l u =
    let d : Range ℕ = record { low = 0; high = 0 } in
    let lo : min range.low (get_or tops f 0) ≡ range.low = omega arith in
    let hi : min range.high (get_or tops f 0) ≡ range.high = omega arith in
    let c : clamped (get_or tops f 0) range ≡ range = λ i. record { low = lo i; high = hi i } in
    let k = ap (λ (a : List (Range ℕ)). a ++ r.ranges) (take_more whole f d h) ∙ append_assoc (take f whole) (get_or whole f d ∷ []) r.ranges in
    ap (λ (a : List (Range ℕ)). record { ranges = a; decision = r.decision })
    (ap₂ (λ (a : List (Range ℕ)) (b : Range ℕ). set a f b) k c
    ∙ set_at (take f whole) (get_or whole f d) r.ranges range f (length-take-le f whole (omega arith)))

-- so rows of a group get the group's range
cut_group : (f low high : ℕ) (t : List Row) → f < length tops → low ≤ get_or tops f 0 → high ≤ get_or tops f 0 → map (cut f (record { low = low; high = high })) (uncut (f + 1) t) ≡ uncut f (spread low high t)
cut_group f low high [] h l u = refl
cut_group f low high (r ∷ t) h l u = ap₂ (λ (a : Row) (b : List Row). a ∷ b) (cut_row f (record { low = low; high = high }) r h l u) (cut_group f low high t h l u)

-- rows that are the same with whole ranges before them are the same
module _ (f : ℕ) where
  abbrev strip : List Row → List Row
  strip rows = map (λ (r : Row). record { ranges = drop (length (take f whole)) r.ranges; decision = r.decision }) rows

  stripped : (rows : List Row) → strip (uncut f rows) ≡ rows
  stripped [] = refl
  stripped (r ∷ rows) = λ i. record { ranges = drop_at (take f whole) r.ranges (length (take f whole)) refl i; decision = r.decision } ∷ stripped rows i

  uncut_tells : (a b : List Row) → uncut f a ≡ uncut f b → a ≡ b
  uncut_tells a b e = sym (stripped a) ∙ ap strip e ∙ stripped b

-- `now` is `old` and behind it the rows of m's table for the values 0..high of field f. The last group, of the values low..high,
-- stands from `start` on, and has not got its range yet
pub record Built (m : List ℕ → ℕ) (rest : List ℕ) (f : ℕ) (old now : List Row) (start low high : ℕ) : Type 0 where
  pub ends : groups (high + 1) (sub_table rest m) ≡ record { low = low; high = high; rows = sub_table rest m low } ∷ groups low (sub_table rest m)
  pub shows : now ≡ old ++ uncut f (part rest m low) ++ uncut (f + 1) (sub_table rest m low)
  pub begins : length (old ++ uncut f (part rest m low)) ≡ start

-- the same, of what is equal
pub built_as : (m : List ℕ → ℕ) (rest : List ℕ) (f : ℕ) (old now now' : List Row) (start start' low low' high : ℕ) → now' ≡ now → start' ≡ start → low' ≡ low
    → Built m rest f old now start low high → Built m rest f old now' start' low' high
built_as m rest f old now now' start start' low low' high n s l b =
    subst (λ (x : ℕ). Built m rest f old now' start' x high) (sym l)
    (subst (λ (x : ℕ). Built m rest f old now' x low high) (sym s)
    (subst (λ (x : List Row). Built m rest f old x start low high) (sym n) b))

module _ (m : List ℕ → ℕ) (rest : List ℕ) (f : ℕ) (old : List Row) where
  at_one : (e : ℕ) → groups (e + 1) (sub_table rest m) ≡ groups (suc e) (sub_table rest m)
  at_one e = ap (λ n. groups n (sub_table rest m)) (add-one e)

  -- the rows before the last group, which begins with the value low, and the last group's
  abbrev pub before : ℕ → List Row
  before low = old ++ uncut f (part rest m low)

  abbrev pub last : ℕ → List Row
  last low = uncut (f + 1) (sub_table rest m low)

  -- the values 0..e are the first group
  pub built_first : (now : List Row) (start e : ℕ) → Constant rest m 0 e → now ≡ old ++ uncut (f + 1) (sub_table rest m 0) → length old ≡ start → Built m rest f old now start 0 e
  unfolding groups
  built_first now start e k v s = record {
    ends = at_one e ∙ run_join rest m 0 e (omega arith) k;
    shows = v ∙ ap (λ (a : List Row). a ++ uncut (f + 1) (sub_table rest m 0)) (sym (append-nil old));
    begins = ap length (append-nil old) ∙ s;
  }

  module _ (now : List Row) (start low high : ℕ) (b : Built m rest f old now start low high) where
    ordered : low ≤ high
    ordered = (subst (Upto (high + 1)) b.ends (groups_upto (high + 1) (sub_table rest m))).1

    -- the rows with the last group's range are the part of the table for 0..high
    closed : f < length tops → high ≤ get_or tops f 0 → before low ++ map (cut f (record { low = low; high = high })) (last low) ≡ old ++ uncut f (part rest m (high + 1))
    closed h u =
        ap (λ (a : List Row). before low ++ a) (cut_group f low high (sub_table rest m low) h (omega (arith, ordered)) u)
        ∙ append_assoc old (uncut f (part rest m low)) (uncut f (spread low high (sub_table rest m low)))
        ∙ ap (λ (a : List Row). old ++ a) (sym (map-append (uncut_row f) (part rest m low) (spread low high (sub_table rest m low))) ∙ ap (λ (gs : List Group). uncut f (flat gs)) (sym b.ends))

    -- the next values have the last group's rows, and are joined to it
    built_same : (e : ℕ) → high + 1 ≤ e → Constant rest m (high + 1) e → sub_table rest m low ≡ sub_table rest m (high + 1) → Built m rest f old now start low e
    built_same e h k i = record { ends = at_one e ∙ (run rest m (high + 1) e _ _ h k b.ends).0 i; shows = b.shows; begins = b.begins }

    -- they have others, and are a new group
    built_other : (e : ℕ) → high + 1 ≤ e → Constant rest m (high + 1) e → sub_table rest m low ≢ sub_table rest m (high + 1) → f < length tops → high ≤ get_or tops f 0
        → Built m rest f old (before low ++ map (cut f (record { low = low; high = high })) (last low) ++ last (high + 1)) (length now) (high + 1) e
    built_other e h k n l u = record {
      ends = at_one e ∙ (run rest m (high + 1) e _ _ h k b.ends).1 n ∙ ap (λ (gs : List Group). record { low = high + 1; high = e; rows = sub_table rest m (high + 1) } ∷ gs) (sym b.ends);
      shows = ap (λ (a : List Row). a ++ last (high + 1)) (closed l u);
      begins = ap length (sym (closed l u)) ∙ length-append (before low) (map (cut f (record { low = low; high = high })) (last low))
          ∙ ap (λ n. length (before low) + n) (length-map (last low) (cut f (record { low = low; high = high })))
          ∙ sym (ap length b.shows ∙ length-append (before low) (last low));
    }

    -- the parts of the rows once more rows stand behind them
    module _ (more : List Row) where
      all_parts : now ++ more ≡ before low ++ (last low ++ more)
      all_parts = ap (λ (a : List Row). a ++ more) b.shows ∙ append_assoc (before low) (last low) more

      part_before : take start (now ++ more) ≡ before low
      part_before = ap (take start) all_parts ∙ take_at (before low) (last low ++ more) start b.begins

      part_last : between start (length now) (now ++ more) ≡ last low
      part_last =
          let n : length (last low) ≡ length now - start = omega (arith, ap length b.shows, length-append (before low) (last low), b.begins) in
          ap (λ (a : List Row). take (length now - start) a) (ap (drop start) all_parts ∙ drop_at (before low) (last low ++ more) start b.begins)
          ∙ take_at (last low) more (length now - start) n

      part_cut : (range : Range ℕ) → cut_between start (length now) f range (now ++ more) ≡ before low ++ map (cut f range) (last low) ++ more
      part_cut range = ap₂ (λ (a c : List Row). a ++ c)
          (ap₂ (λ (a c : List Row). a ++ map (cut f range) c) part_before part_last)
          (drop_at now more (length now) refl)

    -- the next values' rows stand behind: where a test tells that they are the last group's, they are dropped; else it gets its range
    pub built_next : (e : ℕ) → high + 1 ≤ e → Constant rest m (high + 1) e → f < length tops → high ≤ get_or tops f 0
        → (all : List Row) (end : ℕ) → all ≡ now ++ last (high + 1) → length now ≡ end
        → (r : Bool) → Decides r (between start end all ≡ drop end all)
        → (r ≡ true → Built m rest f old (take end all) start low e) × (r ≡ false → Built m rest f old (cut_between start end f (record { low = low; high = high }) all) end (high + 1) e)
    built_next e h k l u all end i n r d = (
      (λ t. subst (λ (a : List Row). Built m rest f old a start low e) (sym left_of) (built_same e h k (uncut_tells (f + 1) _ _ (sym last_of ∙ d.0 t ∙ next_of)))),
      (λ t. subst (λ (a : List Row). Built m rest f old a end (high + 1) e) (sym cut_of)
          (subst (λ (x : ℕ). Built m rest f old (before low ++ map (cut f (record { low = low; high = high })) (last low) ++ last (high + 1)) x (high + 1) e) n
          (built_other e h k (λ q. both_ways r t (d.1 (last_of ∙ ap (uncut (f + 1)) q ∙ sym next_of))) l u))),
    )
      where
        last_of : between start end all ≡ last low
        last_of = ap₂ (λ (a : List Row) (x : ℕ). between start x a) i (sym n) ∙ part_last (last (high + 1))

        next_of : drop end all ≡ last (high + 1)
        next_of = ap₂ (λ (a : List Row) (x : ℕ). drop x a) i (sym n) ∙ drop_at now (last (high + 1)) (length now) refl

        left_of : take end all ≡ now
        left_of = ap₂ (λ (a : List Row) (x : ℕ). take x a) i (sym n) ∙ take_at now (last (high + 1)) (length now) refl

        cut_of : cut_between start end f (record { low = low; high = high }) all ≡ before low ++ map (cut f (record { low = low; high = high })) (last low) ++ last (high + 1)
        cut_of = ap₂ (λ (a : List Row) (x : ℕ). cut_between start x f (record { low = low; high = high }) a) i (sym n) ∙ part_cut (last (high + 1)) (record { low = low; high = high })

    -- at the top the table is complete, once the last group has its range
    pub built_whole : f < length tops → high ≡ get_or tops f 0 → (end : ℕ) → length now ≡ end
        → cut_between start end f (record { low = low; high = high }) now ≡ old ++ uncut f (table (get_or tops f 0 ∷ rest) m)
    built_whole l e end n =
        let range : Range ℕ = record { low = low; high = high } in
        ap₂ (λ (a : List Row) (x : ℕ). cut_between start x f range a) (sym (append-nil now)) (sym n) ∙ part_cut [] range ∙ append-nil (before low ++ map (cut f range) (last low))
        ∙ closed l (omega arith) ∙ ap (λ (t : List Row). old ++ uncut f t) (ap (part rest m) (ap (λ n. n + 1) e ∙ add-one (get_or tops f 0)) ∙ sym (whole_part (get_or tops f 0) rest m))

    -- and before that the table has no fewer rows
    pub built_counts : f < length tops → high ≤ get_or tops f 0 → length now ≤ length old + length (table (get_or tops f 0 ∷ rest) m)
    built_counts l u = omega (
      arith,
      ap length b.shows,
      length-append (before low) (last low),
      length-append (before low) (map (cut f (record { low = low; high = high })) (last low)),
      length-map (last low) (cut f (record { low = low; high = high })),
      ap length (closed l u),
      length-append old (uncut f (part rest m (high + 1))),
      length-map (part rest m (high + 1)) (uncut_row f),
      ap length (ap (part rest m) (add-one high)),
      part_counts (get_or tops f 0) rest m high u,
    )

  -- so it has no fewer rows than there are with those of a new group
  pub new_counts : (now : List Row) (start low high : ℕ) (b : Built m rest f old now start low high)
      → f < length tops → high + 1 ≤ get_or tops f 0
      → (all : List Row) (end : ℕ) → all ≡ now ++ last (high + 1) → length now ≡ end
      → (r : Bool) → Decides r (between start end all ≡ drop end all) → r ≡ false
      → length all ≤ length old + length (table (get_or tops f 0 ∷ rest) m)
  new_counts now start low high b l u all end i n r d t =
      let one : Constant rest m (high + 1) (high + 1) = λ w x y q _. let k : w ≡ high + 1 = omega arith in ap (λ v. m (v ∷ q)) k in
      let new = (built_next now start low high b (high + 1) (omega arith) one l (omega arith) all end i n r d).1 t in
      omega (arith, built_counts _ _ _ _ new l u, ap length new.shows, length-append (before (high + 1)) (last (high + 1)), new.begins, ap length i, length-append now (last (high + 1)))

-- In nested rows one row holds a packet, and the packet comes before exactly the later rows. Assumes nothing.
use Rattle.std.proofs.Common.{◌≡◌, ℕ, zero, suc, ◌<◌, ◌≤◌, true, false, ltb, List, [], ◌∷◌, ◌++◌, length, get_or, take, drop, sym, refl, ap, ◌∙◌, subst, inl, inr, append_assoc, append-nil, arith, length-append}
use mathlib.Core.List.{map-append}
use Rattle.std.specs.List.{AllByRecursion}
use Rattle.std.proofs.ByRecursion.{All-append, All-weaker, All-map}
use Rattle.std.proofs.lemmas.List.{get_or_at}
use Rattle.std.proofs.lemmas.List.Elements.{recursion_from_All}
use Rattle.std.proofs.lemmas.Bool.Decides.{nat_tests}
use Rattle.std.proofs.lemmas.Bool.{cases_lt, le-leb, le-ltb, lt-ltb}
use Rattle.packet.specs.declared.range.Range.{Range}
use Rattle.packet.specs.Packets.{Within}
use Rattle.packet.specs.Regions.{holds, range_at}
use Rattle.theory.specs.Tables.{Row, Group, lookup_or, lookup, spread, flat, Upto, Each, Nested}
use Rattle.theory.specs.Holding.{held, before}
use Rattle.theory.specs.Neighbours.{ranges_at}
use Rattle.theory.proofs.Look.{lookup-append, spread_in}

-- P holds of each row's ranges
abbrev Every : (List (Range ℕ) → Type 0) → List Row → Type 0
Every P rows = AllByRecursion (λ (r : Row). P r.ranges) rows

every_append : (P : List (Range ℕ) → Type 0) (xs ys : List Row) → Every P xs → Every P ys → Every P (xs ++ ys)
every_append P = All-append (λ (r : Row). P r.ranges)

every_map : (P Q : List (Range ℕ) → Type 0) → ((rs : List (Range ℕ)) → P rs → Q rs) → (rows : List Row) → Every P rows → Every Q rows
every_map P Q f = All-weaker (λ (r : Row). P r.ranges) (λ (r : Row). Q r.ranges) (λ r. f r.ranges)

every_spread : (P Q : List (Range ℕ) → Type 0) (low high : ℕ) → ((rs : List (Range ℕ)) → P rs → Q (record { low = low; high = high } ∷ rs)) → (rows : List Row) → Every P rows → Every Q (spread low high rows)
every_spread P Q low high f rows e = All-map (λ (r : Row). Q r.ranges) _ rows (All-weaker (λ (r : Row). P r.ranges) _ (λ r. f r.ranges) rows e)

all : (rows : List Row) → Every (λ _. Unit {0}) rows
all rows = recursion_from_All (λ _. Unit {0}) rows (λ _ _ _. tt)

-- the packet lies past the ranges
abbrev Past : List ℕ → List (Range ℕ) → Type 0
Past p rs = (before rs p ≡ false) × (holds rs p ≡ false)

-- the packet comes before the ranges
abbrev Ahead : List ℕ → List (Range ℕ) → Type 0
Ahead p rs = (before rs p ≡ true) × (holds rs p ≡ false)

-- the first range ends below n
abbrev Left : ℕ → List (Range ℕ) → Type 0
Left n [] = ⊥
Left n (r ∷ rs) = (r.low ≤ r.high) × (r.high < n)

-- the first range begins above n
abbrev Right : ℕ → List (Range ℕ) → Type 0
Right n [] = ⊥
Right n (r ∷ rs) = n < r.low

left_past : (n v : ℕ) (q : List ℕ) → n ≤ v → (rs : List (Range ℕ)) → Left n rs → Past (v ∷ q) rs
left_past n v q h [] l = absurd l
left_past n v q h (r ∷ rs) l = (grind (arith, nat_tests), grind (arith, nat_tests))

right_ahead : (n v : ℕ) (q : List ℕ) → v ≤ n → (rs : List (Range ℕ)) → Right n rs → Ahead (v ∷ q) rs
right_ahead n v q h [] l = absurd l
right_ahead n v q h (r ∷ rs) l = (grind (arith, nat_tests), grind (arith, nat_tests))

upto_left : (n : ℕ) (gs : List Group) → Upto n gs → (k : ℕ) → n ≤ k → Every (Left k) (flat gs)
upto_left n [] u k h = tt
upto_left n (g ∷ gs) u k h = every_append (Left k) (flat gs) (spread g.low g.high g.rows) (upto_left g.low gs u.2 k (omega arith))
    (every_spread (λ _. Unit {0}) (Left k) g.low g.high (λ _ _. (u.1, omega arith)) g.rows (all g.rows))

-- the group of the value v, and what stands before and after it
record In (P : List Row → Type 0) (n : ℕ) (rows : List Row) (v : ℕ) : Type 0 where
  pub low : ℕ
  pub high : ℕ
  pub front : List Row
  pub inner : List Row
  pub back : List Row
  pub are : rows ≡ front ++ (spread low high inner ++ back)
  pub has : P inner
  pub from : low ≤ v
  pub to : v ≤ high
  pub most : high < n
  pub earlier : Every (Left low) front
  pub later : Every (Right high) back

group_of : (P : List Row → Type 0) (n : ℕ) (gs : List Group) (v : ℕ) → Upto n gs → v < n → Each (λ g. P g.rows) gs → In P n (flat gs) v
group_of P n [] v u h e = absurd (omega arith)
group_of P n (g ∷ gs) v u h e = elim (cases_lt v g.low) [
  | inl l ↦
      let i = group_of P g.low gs v u.2 l e.1 in
      record {
        low = i.low;
        high = i.high;
        front = i.front;
        inner = i.inner;
        back = i.back ++ spread g.low g.high g.rows;
        are = ap (λ x. x ++ spread g.low g.high g.rows) i.are ∙ append_assoc i.front _ _ ∙ ap (λ x. i.front ++ x) (append_assoc (spread i.low i.high i.inner) _ _);
        has = i.has;
        from = i.from;
        to = i.to;
        most = omega (arith, i.most);
        earlier = i.earlier;
        later = every_append (Right i.high) i.back (spread g.low g.high g.rows) i.later
            (every_spread (λ _. Unit {0}) (Right i.high) g.low g.high (λ _ _. i.most) g.rows (all g.rows));
      }
  | inr l ↦ record {
    low = g.low;
    high = g.high;
    front = flat gs;
    inner = g.rows;
    back = [];
    are = ap (λ x. flat gs ++ x) (sym (append-nil (spread g.low g.high g.rows)));
    has = e.0;
    from = l;
    to = omega arith;
    most = omega arith;
    earlier = upto_left g.low gs u.2 g.low (omega arith);
    later = tt;
  }
]

in_nested : (top : ℕ) (rest : List ℕ) (rows : List Row) → Nested (top ∷ rest) rows → (v : ℕ) → v ≤ top → In (Nested rest) (suc top) rows v
in_nested top rest rows n v h = subst (λ x. In (Nested rest) (suc top) x v) (sym n.1) (group_of (Nested rest) (suc top) n.0 v n.2 (omega arith) n.3)

-- the row that holds the packet, and what stands before and after it
record Split (rows : List Row) (p : List ℕ) : Type 0 where
  pub front : List Row
  pub row : Row
  pub back : List Row
  pub are : rows ≡ front ++ row ∷ back
  pub here : holds row.ranges p ≡ true
  pub earlier : Every (Past p) front
  pub later : Every (Ahead p) back

-- in the group of its first value
abbrev lift : (P : List Row → Type 0) (n : ℕ) (rows : List Row) (v : ℕ) (q : List ℕ) (i : In P n rows v) → Split i.inner q → Split rows (v ∷ q)
lift P n rows v q i s =
    let put : List Row → List Row = λ x. spread i.low i.high x in
    record {
      front = i.front ++ put s.front;
      row = record { ranges = record { low = i.low; high = i.high } ∷ s.row.ranges; decision = s.row.decision };
      back = put s.back ++ i.back;
      are = i.are ∙ ap (λ x. i.front ++ (put x ++ i.back)) s.are
          ∙ ap (λ x. i.front ++ (x ++ i.back)) (map-append _ s.front (s.row ∷ s.back))
          ∙ ap (λ x. i.front ++ x) (append_assoc (put s.front) _ i.back)
          ∙ sym (append_assoc i.front (put s.front) _);
      here = rw (le-leb i.low v i.from, le-leb v i.high i.to) s.here;
      earlier = every_append (Past (v ∷ q)) i.front (put s.front) (every_map (Left i.low) (Past (v ∷ q)) (left_past i.low v q i.from) i.front i.earlier)
          (every_spread (Past q) (Past (v ∷ q)) i.low i.high (λ rs x. rw (le-leb i.low v i.from, le-leb v i.high i.to, le-ltb v i.low i.from) x) s.front s.earlier);
      later = every_append (Ahead (v ∷ q)) (put s.back) i.back
          (every_spread (Ahead q) (Ahead (v ∷ q)) i.low i.high (λ rs x. rw (le-leb i.low v i.from, le-leb v i.high i.to, le-ltb v i.low i.from) x) s.back s.later)
          (every_map (Right i.high) (Ahead (v ∷ q)) (right_ahead i.high v q i.to) i.back i.later);
    }

split : (tops : List ℕ) (rows : List Row) → Nested tops rows → (p : List ℕ) → Within tops p → Split rows p
split [] rows n [] w = record { front = []; row = record { ranges = []; decision = n.0 }; back = []; are = n.1; here = refl; earlier = tt; later = tt }
split [] rows n (v ∷ q) w = absurd w
split (top ∷ rest) rows n [] w = absurd w
split (top ∷ rest) rows n (v ∷ q) w =
    let i = in_nested top rest rows n v w.0 in
    lift (Nested rest) (suc top) rows v q i (split rest i.inner i.has q w.1)

holds_before : (rs : List (Range ℕ)) (p : List ℕ) → holds rs p ≡ true → before rs p ≡ false
holds_before [] p e = refl
holds_before (r ∷ rs) [] e = refl
holds_before (r ∷ rs) (v ∷ p) e = grind (arith, nat_tests, holds_before rs p)

ltb_suc : (a b : ℕ) → ltb a b ≡ ltb (suc a) (suc b)
ltb_suc a b = grind (arith, nat_tests)

-- what the split rows show, by place
module _ (p : List ℕ) (row : Row) (back : List Row) (here : holds row.ranges p ≡ true) where
  back_orders : (rows : List Row) → Every (Ahead p) rows → (j : ℕ) → j < length rows → before (ranges_at rows j) p ≡ true
  back_orders [] e j h = absurd (omega arith)
  back_orders (r ∷ rows) e zero h = e.0.0
  back_orders (r ∷ rows) e (suc j) h = back_orders rows e.1 j (omega arith)

  split_orders : (front : List Row) → Every (Past p) front → Every (Ahead p) back → (j : ℕ) → j < length (front ++ row ∷ back) → before (ranges_at (front ++ row ∷ back) j) p ≡ ltb (length front) j
  split_orders [] a b zero h = holds_before row.ranges p here ∙ sym (le-ltb 0 0 (omega arith))
  split_orders [] a b (suc j) h = back_orders back b j (omega arith) ∙ sym (lt-ltb 0 (suc j) (omega arith))
  split_orders (r ∷ front) a b zero h = a.0.0 ∙ sym (le-ltb (suc (length front)) 0 (omega arith))
  split_orders (r ∷ front) a b (suc j) h = split_orders front a.1 b j (omega arith) ∙ ltb_suc (length front) j

  split_held : (front : List Row) → Every (Past p) front → held (front ++ row ∷ back) p ≡ row.ranges
  split_held [] a = rw here
  split_held (r ∷ front) a = rw a.0.1 (split_held front a.1)

  split_lookup : (front : List Row) → Every (Past p) front → lookup (front ++ row ∷ back) p ≡ row.decision
  split_lookup [] a = rw here
  split_lookup (r ∷ front) a = rw a.0.1 (split_lookup front a.1)

-- the row that holds the packet, by its place: the packet comes before exactly the later rows
pub record Found (rows : List Row) (p : List ℕ) : Type 0 where
  pub place : ℕ
  pub within : place < length rows
  pub orders : (j : ℕ) → j < length rows → before (ranges_at rows j) p ≡ ltb place j
  pub holder : ranges_at rows place ≡ held rows p
  pub decides : (d : Row) → (get_or rows place d).decision ≡ lookup rows p

split_found : (p : List ℕ) (front : List Row) (row : Row) (back : List Row) → holds row.ranges p ≡ true → Every (Past p) front → Every (Ahead p) back → Found (front ++ row ∷ back) p
split_found p front row back h a b = record {
  place = length front;
  within = simp length-append (omega arith);
  orders = split_orders p row back h front a b;
  holder = ap (λ (r : Row). r.ranges) (get_or_at front row back _ (length front) refl) ∙ sym (split_held p row back h front a);
  decides = λ d. ap (λ (r : Row). r.decision) (get_or_at front row back d (length front) refl) ∙ sym (split_lookup p row back h front a);
}

-- every packet is found in nested rows
pub found : (tops : List ℕ) (rows : List Row) → Nested tops rows → (p : List ℕ) → Within tops p → Found rows p
found tops rows n p w =
    let s = split tops rows n p w in
    rw s.are (split_found p s.front s.row s.back s.here s.earlier s.later)

held_split : (rows : List Row) (p : List ℕ) (s : Split rows p) → held rows p ≡ s.row.ranges
held_split rows p s = ap (λ x. held x p) s.are ∙ split_held p s.row s.back s.here s.front s.earlier

look_none : (d : ℕ) (p : List ℕ) (rows : List Row) → Every (λ rs. holds rs p ≡ false) rows → lookup_or d rows p ≡ d
look_none d p [] e = refl
look_none d p (r ∷ rows) e = rw e.0 (look_none d p rows e.1)

module _ (P : List Row → Type 0) (n : ℕ) (rows : List Row) (v : ℕ) (i : In P n rows v) where
  -- what is held in the group
  in_held : (q : List ℕ) → Split i.inner q → held rows (v ∷ q) ≡ record { low = i.low; high = i.high } ∷ held i.inner q
  in_held q s = held_split rows (v ∷ q) (lift P n rows v q i s) ∙ ap (λ x. record { low = i.low; high = i.high } ∷ x) (sym (held_split i.inner q s))

  -- what is decided in the group
  in_look : (x : ℕ) (q : List ℕ) → i.low ≤ x → x ≤ i.high → lookup rows (x ∷ q) ≡ lookup i.inner q
  in_look x q l h =
      let p : List ℕ = x ∷ q in
      let none : List Row → Type 0 = λ r. Every (λ rs. holds rs p ≡ false) r in
      let a : none i.front = every_map (Left i.low) (λ rs. holds rs p ≡ false) (λ rs k. (left_past i.low x q l rs k).1) i.front i.earlier in
      let b : none i.back = every_map (Right i.high) (λ rs. holds rs p ≡ false) (λ rs k. (right_ahead i.high x q h rs k).1) i.back i.later in
      ap (λ r. lookup r p) i.are ∙ lookup-append 0 i.front _ p ∙ look_none _ p i.front a ∙ lookup-append 0 (spread i.low i.high i.inner) i.back p
      ∙ ap (λ (d : ℕ). lookup_or d (spread i.low i.high i.inner) p) (look_none 0 p i.back b) ∙ spread_in 0 i.low i.high i.inner x q l h

-- how far the row that holds a packet reaches on field f: around the packet's value, within the field, and over values of f that
-- are decided alike, the values before f being the packet's and those after it any
pub record Reaches (tops : List ℕ) (rows : List Row) (p : List ℕ) (f : ℕ) : Type 0 where
  pub low : (range_at (held rows p) f).low ≤ get_or p f 0
  pub high : get_or p f 0 ≤ (range_at (held rows p) f).high
  pub most : (range_at (held rows p) f).high ≤ get_or tops f 0
  pub alike : (x y : ℕ) (rest : List ℕ) → Within (drop (suc f) tops) rest
      → (range_at (held rows p) f).low ≤ x → x ≤ (range_at (held rows p) f).high
      → (range_at (held rows p) f).low ≤ y → y ≤ (range_at (held rows p) f).high
      → lookup rows (take f p ++ (x ∷ rest)) ≡ lookup rows (take f p ++ (y ∷ rest))

-- in nested rows it reaches so far on each field
pub reaches : (tops : List ℕ) (rows : List Row) → Nested tops rows → (p : List ℕ) → Within tops p → (f : ℕ) → f < length tops → Reaches tops rows p f
reaches [] rows n p w f h = absurd (omega arith)
reaches (top ∷ rest) rows n [] w f h = absurd w
reaches (top ∷ rest) rows n (v ∷ q) w zero h =
    let i = in_nested top rest rows n v w.0 in
    let e = in_held (Nested rest) (suc top) rows v i q (split rest i.inner i.has q w.1) in
    record {
      low = rw e i.from;
      high = rw e i.to;
      most = rw e (omega (arith, i.most));
      alike = rw e (λ x y r _ a b c d. in_look (Nested rest) (suc top) rows v i x r a b ∙ sym (in_look (Nested rest) (suc top) rows v i y r c d));
    }
reaches (top ∷ rest) rows n (v ∷ q) w (suc f) h =
    let i = in_nested top rest rows n v w.0 in
    let e = in_held (Nested rest) (suc top) rows v i q (split rest i.inner i.has q w.1) in
    let look = in_look (Nested rest) (suc top) rows v i v in
    let k = reaches rest i.inner i.has q w.1 f (omega arith) in
    record {
      low = rw e k.low;
      high = rw e k.high;
      most = rw e k.most;
      alike = rw e (λ x y r z a b c d. look (take f q ++ (x ∷ r)) i.from i.to ∙ k.alike x y r z a b c d ∙ sym (look (take f q ++ (y ∷ r)) i.from i.to));
    }

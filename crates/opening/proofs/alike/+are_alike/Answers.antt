use Rattle.std.proofs.Common.{rules, ◌≡◌, ℕ, suc, ◌+◌, ◌<◌, ◌≤◌, min, eqb, true, false, List, ◌++◌, length, get_or, set, take, drop, sym, ap, ◌∙◌, subst, ap₂, add-one, arith}
use Rattle.packet.specs.declared.field.Field.{Field}
use Rattle.packet.proofs.Values.{place_few}
use Rattle.packet.specs.Packets.{values, tops, place, Within}
use Rattle.packet.specs.Regions.{range_at}
use Rattle.theory.specs.Tables.{Nested, lookup}
use Rattle.theory.specs.Steps.{passes}
use Rattle.theory.specs.Holding.{held}
use Rattle.theory.specs.Neighbours.{alike}
use Rattle.theory.proofs.Steps.{passes_nested}
use Rattle.blocks.specs.Reading.{rows_in}
use Rattle.opening.proofs.Walk.{Agrees, left_of, at_leaf, all_agree, not_alike, agree_more, end_from}
use Rattle.opening.proofs.alike.+are_alike.Goals as goal

-- a packet with another value of a field
changed : (ps : List ℕ) (qs : List ℕ) (here : Field) (field v : ℕ) → place here ≡ field → v ≤ get_or tops field 0 → qs ≡ set ps (place here) (min v (get_or tops (place here) 0)) → qs ≡ set ps field v
changed ps qs here field v h k e =
    let most : min v (get_or tops field 0) ≡ v = omega arith in
    e ∙ ap (λ n. set ps n (min v (get_or tops n 0))) h ∙ ap (set ps field) most

-- a step of the walk over the values of a field
module _ (bytes : List ℕ) (passed : passes tops (rows_in bytes) ≡ true) (here : Field) (field : ℕ) (is : place here ≡ field) (p q : List ℕ) (w : Within tops p) (u : Within tops q) (v : ℕ) (most : v ≤ get_or tops field 0)
    (first second : List ℕ) (a : first ≡ set p (place here) (min v (get_or tops (place here) 0))) (b : second ≡ set q (place here) (min v (get_or tops (place here) 0))) where
  below : field < length tops
  below = omega (arith, place_few here, is)

  nested : Nested tops (rows_in bytes)
  nested = passes_nested tops (rows_in bytes) passed

  abbrev tail : List ℕ → List ℕ → ℕ
  tail r s = lookup (rows_in bytes) (take (field + 1) r ++ s)

  unlike : alike (drop (field + 1) tops) (tail first) (tail second) ≡ false → alike (drop field tops) (left_of (rows_in bytes) field p q p) (left_of (rows_in bytes) field p q q) ≡ false
  unlike = not_alike (rows_in bytes) field p q below nested w u v most first second (changed p first here field v is most a) (changed q second here field v is most b)

  module _ (agree : Agrees (rows_in bytes) field p q v) (same : alike (drop (field + 1) tops) (tail first) (tail second) ≡ true) (left right end : ℕ)
      (l : left ≡ (range_at (held (rows_in bytes) first) (place here)).high) (r : right ≡ (range_at (held (rows_in bytes) second) (place here)).high) (e : end ≡ min left right) where
    end_is : end ≡ min (range_at (held (rows_in bytes) first) field).high (range_at (held (rows_in bytes) second) field).high
    end_is = e ∙ ap₂ min (l ∙ ap (λ f. (range_at (held (rows_in bytes) first) f).high) is) (r ∙ ap (λ f. (range_at (held (rows_in bytes) second) f).high) is)

    ends : (v ≤ end) × (end ≤ get_or tops field 0)
    ends = end_from (rows_in bytes) field p q below nested w u v most first second (changed p first here field v is most a) (changed q second here field v is most b) end end_is

    more : Agrees (rows_in bytes) field p q (suc end)
    more = agree_more (rows_in bytes) field p q below nested w u v most first second (changed p first here field v is most a) (changed q second here field v is most b) agree same end end_is

    all : get_or tops field 0 ≤ end → alike (drop field tops) (left_of (rows_in bytes) field p q p) (left_of (rows_in bytes) field p q q) ≡ true
    all h = let last : suc end ≡ suc (get_or tops field 0) = omega (arith, ends.1) in all_agree (rows_in bytes) field p q below (subst (Agrees (rows_in bytes) field p q) last more)

pub returns-in_default : goal.returns-in_default
returns-in_default t c =
    let w : Within tops (values c.args.left) = search rules in
    let u : Within tops (values c.args.right) = search rules in
    ap₂ eqb c.decision.ensures c.decision-in_default.ensures ∙ at_leaf (rows_in c.args.nested.now.rows.bytes.now) c.args.field (values c.args.left) (values c.args.right) w u c.in_default.ensures

pub returns-then-not-are_alike : goal.returns-then-not-are_alike
returns-then-not-are_alike t c =
    let nested = c.args.nested.now in
    let w : Within tops (values c.args.left) = search rules in
    let u : Within tops (values c.args.right) = search rules in
    sym (unlike nested.rows.bytes.now nested.nested c.in-Some.here c.args.field c.in-Some.ensures (values c.args.left) (values c.args.right) w u c.loop-left.value c.loop-left.invariant.below
    (values c.with-first.result) (values c.with-second.result) c.with-first.ensures c.with-second.ensures (sym c.if-not-are_alike.ensures))

pub returns-then-end-top : goal.returns-then-end-top
returns-then-end-top t c =
    let nested = c.args.nested.now in
    let w : Within tops (values c.args.left) = search rules in
    let u : Within tops (values c.args.right) = search rules in
    sym (all nested.rows.bytes.now nested.nested c.in-Some.here c.args.field c.in-Some.ensures (values c.args.left) (values c.args.right) w u c.loop-left.value c.loop-left.invariant.below
    (values c.with-first.result) (values c.with-second.result) c.with-first.ensures c.with-second.ensures c.loop-left.invariant.agree (sym c.if-not-are_alike.ensures)
    c.end.result c.end-in-loop-left.result c.min-end.result c.end.ensures c.end-in-loop-left.ensures c.min-end.ensures
    (omega (arith, c.if-end-top.true, c.top.ensures, ap (λ f. get_or tops f 0) c.in-Some.ensures)))

pub loop-left-smaller : goal.loop-left-smaller
loop-left-smaller t c =
    let nested = c.args.nested.now in
    let w : Within tops (values c.args.left) = search rules in
    let u : Within tops (values c.args.right) = search rules in
    let e = ends nested.rows.bytes.now nested.nested c.in-Some.here c.args.field c.in-Some.ensures (values c.args.left) (values c.args.right) w u c.loop-left.value c.loop-left.invariant.below
    (values c.with-first.result) (values c.with-second.result) c.with-first.ensures c.with-second.ensures c.loop-left.invariant.agree (sym c.if-not-are_alike.ensures)
    c.end.result c.end-in-loop-left.result c.min-end.result c.end.ensures c.end-in-loop-left.ensures c.min-end.ensures in
    omega (arith, e.0, c.if-end-top.false, c.top.ensures, ap (λ f. get_or tops f 0) c.in-Some.ensures)

pub loop-left-preserved : goal.loop-left-preserved
loop-left-preserved t c =
    let nested = c.args.nested.now in
    let w : Within tops (values c.args.left) = search rules in
    let u : Within tops (values c.args.right) = search rules in
    let m = more nested.rows.bytes.now nested.nested c.in-Some.here c.args.field c.in-Some.ensures (values c.args.left) (values c.args.right) w u c.loop-left.value c.loop-left.invariant.below
    (values c.with-first.result) (values c.with-second.result) c.with-first.ensures c.with-second.ensures c.loop-left.invariant.agree (sym c.if-not-are_alike.ensures)
    c.end.result c.end-in-loop-left.result c.min-end.result c.end.ensures c.end-in-loop-left.ensures c.min-end.ensures in
    record {
      below = omega (arith, c.if-end-top.false, c.top.ensures, ap (λ f. get_or tops f 0) c.in-Some.ensures);
      agree = subst (Agrees (rows_in nested.rows.bytes.now) c.args.field (values c.args.left) (values c.args.right)) (sym (add-one c.min-end.result)) m;
    }

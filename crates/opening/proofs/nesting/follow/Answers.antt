use Rattle.std.proofs.Common.{◌≡◌, ℕ, suc, ◌+◌, Bool, true, false, ◌&&◌, eqb, List, length, get_or, drop, Some, sym, refl, ap, ◌∙◌, ap₂, add-one, arith}
use Rattle.std.specs.List.{list_all, zip, position}
use Rattle.std.proofs.lemmas.Bool.{ne_eqb, eq-eqb}
use Rattle.packet.specs.declared.range.Range.{Range}
use Rattle.packet.specs.Packets.{tops}
use Rattle.theory.specs.Steps.{follows, at_start, at_end}
use Rattle.opening.proofs.Follows.{differ, difference_some, difference_none, follows_none, follows_at, start_is, end_is}
use Rattle.opening.proofs.nesting.follow.Goals as goal

module _ (a b : List (Range ℕ)) (x : length a ≡ length tops) (y : length b ≡ length tops) where
  module _ (f : ℕ) (e : Some f ≡ position differ (zip a b)) where
    abbrev none : Range ℕ
    none = record { low = 0; high = 0 }

    abbrev end : ℕ
    end = (get_or a f none).high

    abbrev start : ℕ
    start = (get_or b f none).low

    asked : follows tops a b ≡ (eqb start (suc end) && at_end (drop (suc f) tops) (drop (suc f) a) && at_start (drop (suc f) b))
    asked =
        let d = difference_some a b (omega arith) f (sym e) in
        follows_at tops a b none x y (omega (arith, d.0, d.1))
        ∙ sym (ap (λ n. eqb (get_or b n none).low (suc (get_or a n none).high) && at_end (drop (suc n) tops) (drop (suc n) a) && at_start (drop (suc n) b)) d.1)

    -- the range does not begin one past the other's end
    apart : (start ≡ suc end → ⊥) → false ≡ follows tops a b
    apart n = sym (asked ∙ ap (λ t. t && at_end (drop (suc f) tops) (drop (suc f) a) && at_start (drop (suc f) b)) (ne_eqb start (suc end) n))

    -- it does, and the later fields decide
    next : end + 1 ≡ start → (s t : Bool) → s ≡ list_all (λ p. eqb p.0.high p.1) (drop (f + 1) (zip a tops)) → t ≡ list_all (λ r. eqb r.low 0) (drop (f + 1) b) → (s && t) ≡ follows tops a b
    next l s t u v =
        ap₂ (λ m n. m && n)
        (u ∙ sym (end_is (f + 1) tops a x) ∙ ap (λ n. at_end (drop n tops) (drop n a)) (add-one f))
        (v ∙ sym (start_is (f + 1) b) ∙ ap (λ n. at_start (drop n b)) (add-one f))
        ∙ sym (asked ∙ ap (λ t. t && at_end (drop (suc f) tops) (drop (suc f) a) && at_start (drop (suc f) b)) (eq-eqb start (suc end) (omega arith)))

pub returns-in_default : goal.returns-in_default
returns-in_default c =
    let left = c.args.left.now in
    let right = c.args.right.now in
    sym (follows_none tops left right c.told-left c.told-right (omega (arith, difference_none left right (omega (arith, c.told-left, c.told-right)) (sym c.first_difference.ensures.value ∙ c.in_default.is))))

pub returns-then-from : goal.returns-then-from
returns-then-from c = apart c.args.left.now c.args.right.now c.told-left c.told-right c.in-Some.field c.in-Some.ensures.value (λ e. c.if-from.true (omega (arith, e, c.from.ensures, c.from-2.ensures)))

pub returns-then-end_at_largest : goal.returns-then-end_at_largest
returns-then-end_at_largest c =
    next c.args.left.now c.args.right.now c.told-left c.told-right c.in-Some.field c.in-Some.ensures.value (omega (arith, c.if-from.false, c.from.ensures, c.from-2.ensures))
    true c.start_at_zero.result c.if-end_at_largest.ensures c.start_at_zero.ensures

pub returns-else-end_at_largest : goal.returns-else-end_at_largest
returns-else-end_at_largest c =
    let right = c.args.right.now in
    c.if-end_at_largest.false
    ∙ next c.args.left.now right c.told-left c.told-right c.in-Some.field c.in-Some.ensures.value (omega (arith, c.if-from.false, c.from.ensures, c.from-2.ensures))
    false (list_all (λ r. eqb r.low 0) (drop (c.in-Some.field + 1) right)) c.if-end_at_largest.ensures refl

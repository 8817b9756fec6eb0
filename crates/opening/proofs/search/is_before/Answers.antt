use Rattle.std.proofs.lemmas.Slice.Zip.{either_empty_from_Zip}
use Rattle.opening.proofs.Tests.{before_low, before_high, before_inside, before_end}
use Rattle.opening.proofs.search.is_before.Goals as goal

pub returns-then-value-range : goal.returns-then-value-range
returns-then-value-range c = before_low _ _ _ _ _ _ _ c.loop-range.invariant c.in-Some.ensures.steps.0 c.in-Some.ensures.steps.1 c.if-value-range.true

pub returns-then-value-range-2 : goal.returns-then-value-range-2
returns-then-value-range-2 c = before_high _ _ _ _ _ _ _ c.loop-range.invariant c.in-Some.ensures.steps.0 c.in-Some.ensures.steps.1 c.if-value-range.false c.if-value-range-2.true

pub loop-range-preserved : goal.loop-range-preserved
loop-range-preserved c = before_inside _ _ _ _ _ _ _ c.loop-range.invariant c.in-Some.ensures.steps.0 c.in-Some.ensures.steps.1 c.if-value-range.false c.if-value-range-2.false

pub returns : goal.returns
returns c = before_end _ _ _ c.loop-range.invariant (either_empty_from_Zip c.loop-range.range-iterator c.next.new.self _ c.in-None.is c.next.ensures.steps)

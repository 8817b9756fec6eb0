use Rattle.std.proofs.Common.{◌+◌, ◌-◌, eqb, length, Err, sym, ap, ◌∙◌}
use Rattle.text.specs.declared.faults.LineFault.TheVariants.{Words}
use Rattle.text.specs.Words.{words_from}
use Rattle.text.proofs.Counted.{words_few, words_empty, words_more, words_six, words_many, stands_column}
use Rattle.text.proofs.words.six_words.Goals as goal

pub returns-in_default : goal.returns-in_default
returns-in_default c =
    sym (c.loop.invariant ∙ ap (words_from (length c.args.line.bytes.now + 1) (6 - c.loop.counter) c.loop.words.column) c.in_default.ensures.steps.0
    ∙ words_few _ _ _ c.loop-test.true)

pub returns-then-is_empty : goal.returns-then-is_empty
returns-then-is_empty c =
    let taken = c.in-Some.ensures.steps in
    let at = c.column.ensures ∙ stands_column _ _ _ taken.stands in
    let empty = words_empty (length c.args.line.bytes.now + 1) c.loop.words.column c.loop.counter c.loop-test.true _ _ (c.if-is_empty.ensures ∙ ap (λ w. eqb (length w) 0) c.text.ensures) in
    sym (c.loop.invariant ∙ ap (words_from _ _ _) taken.words_are ∙ empty ∙ ap (λ n. Err (Words n)) (sym at))

pub loop-preserved : goal.loop-preserved
loop-preserved c =
    let taken = c.in-Some.ensures.steps in
    let more = words_more (length c.args.line.bytes.now + 1) c.loop.words.column c.loop.counter c.loop-test.true _ _ _ (c.if-is_empty.ensures ∙ ap (λ w. eqb (length w) 0) c.text.ensures) taken.moved in
    c.loop.invariant ∙ ap (words_from _ _ _) taken.words_are ∙ more

pub returns-in-None : goal.returns-in-None
returns-in-None c =
    sym (c.loop.invariant ∙ ap (words_from (length c.args.line.bytes.now + 1) (6 - c.loop.counter) c.loop.words.column) c.in-None.ensures.steps.0
    ∙ words_six _ _ _ c.loop-test.false)

pub returns-in-Some-next : goal.returns-in-Some-next
returns-in-Some-next c =
    let taken = c.in-Some-next.ensures.steps in
    let at = c.column-in-Some-next.ensures ∙ stands_column _ _ _ taken.stands in
    sym (c.loop.invariant ∙ ap (words_from _ _ _) taken.words_are ∙ words_many _ _ _ c.loop-test.false _ _ ∙ ap (λ n. Err (Words n)) (sym at))

use Rattle.std.proofs.Common.{ℕ, Ok, sym, ap, ◌∙◌, subst}
use Rattle.text.specs.Tokens.{Stands}
use Rattle.text.specs.Ranges.{written_range}
use Rattle.text.proofs.Spans.{range_star, range_word}
use Rattle.text.proofs.ranges.range.Goals as goal

pub returns-in-Star : goal.returns-in-Star
returns-in-Star c = λ word column stands.
    let s = subst (λ t. Stands t word column) c.in-Star.is stands in
    ap (λ (n : ℕ). Ok (record { low = 0; high = n })) c.top.ensures ∙ sym (range_star c.args.field column word s.0)

pub returns-in-Word : goal.returns-in-Word
returns-in-Word c = λ word column stands.
    let s = subst (λ t. Stands t word column) c.in-Word.is stands in
    c.written.ensures ∙ ap (λ t. written_range c.args.field c.in-Word.column t) s.0 ∙ ap (λ n. written_range c.args.field n word) s.1 ∙ sym (range_word c.args.field column word s.2)

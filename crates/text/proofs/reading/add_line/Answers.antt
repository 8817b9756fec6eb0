use Rattle.std.proofs.Common.{◌≡◌, length, Some, Ok, Option, Result, sym, ap, ◌∙◌, rules}
use Rattle.text.specs.Reads.{reads}
use Rattle.book.specs.declared.rule.Rule.{Rule}
use Rattle.text.specs.declared.faults.ReadFault.{ReadFault}
use Rattle.text.specs.declared.faults.ReadFault.TheVariants.{Line}
use Rattle.text.specs.Lines.{line_of}
use Rattle.text.specs.Steps.{carried}
use Rattle.text.proofs.Said.{add_said}
use Rattle.text.proofs.reading.add_line.Goals as goal

pub returns-clause-answer : goal.returns-clause-answer
returns-clause-answer g c =
    let told = c.in_ok-rule.ensures in
    let says : ◌≡◌ {A = Result (Option Rule) ReadFault} (Ok (Some c.in-Some.rule)) (carried (Line c.args.line.number) (line_of (reads g.K.Kind) c.args.line.bytes.now)) = cc in
    let said = add_said g.K.Kind.COUNT g.K.Kind.SILENT g.K.Kind.word c.args.line.number c.args.line.bytes.now _ c.in-Some.rule _ says (ap length c.rules.ensures) in
    search (rules, said.0)

pub returns-clause-rules : goal.returns-clause-rules
returns-clause-rules g c =
    let told = c.in_ok-rule.ensures in
    let says : ◌≡◌ {A = Result (Option Rule) ReadFault} (Ok (Some c.in-Some.rule)) (carried (Line c.args.line.number) (line_of (reads g.K.Kind) c.args.line.bytes.now)) = cc in
    let said = add_said g.K.Kind.COUNT g.K.Kind.SILENT g.K.Kind.word c.args.line.number c.args.line.bytes.now _ c.in-Some.rule _ says (ap length c.rules.ensures) in
    c.add.ensures.rules ∙ sym said.1

use Rattle.std.proofs.Common.{sym, ◌∙◌}
use Rattle.std.proofs.lemmas.Slice.Zip.{either_empty_from_Zip}
use Rattle.cases.proofs.Fields.{at_end}
use Rattle.cases.proofs.words.packet.Goals as goal

pub returns : goal.returns
returns c = sym (at_end _ _ _ (either_empty_from_Zip c.fields.field-iterator c.next.new.self _ c.in-None.is c.next.ensures.steps)) ∙ c.fields.invariant

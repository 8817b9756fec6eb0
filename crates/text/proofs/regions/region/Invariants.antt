use Rattle.std.proofs.Common.{◌≡◌, take, drop}
use Rattle.packet.specs.Regions.{ranges}
use Rattle.text.specs.Pieces.{left}
use Rattle.text.specs.Fields.{fields, ranges_from}
use Rattle.text.proofs.Placed.{before}
use Rattle.text.proofs.regions.region.Given as goal

abbrev pub invariant-loop-field : goal.invariant-loop-field
invariant-loop-field l =
    ranges_from fields l.initial.words.column (left l.initial.words.words) ≡ before (take l.field-index (ranges l.region)) (ranges_from (drop l.field-index fields) l.words.column (left l.words.words))

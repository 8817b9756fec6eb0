use Rattle.std.proofs.Common.{◌≡◌, ℕ, List, ◌++◌, drop, string_bytes}
use Rattle.packet.specs.Regions.{ranges}
use Rattle.text.specs.Fields.{fields}
use Rattle.text.specs.Printing.{ranges_text}
use Rattle.text.proofs.print.push_ranges.Given as goal

abbrev pub invariant-loop-field : goal.invariant-loop-field
invariant-loop-field l =
    (so_far : List ℕ) × (string_bytes l.out ≡ string_bytes l.initial.out ++ so_far)
    × (ranges_text fields (ranges l.region) ≡ so_far ++ ranges_text (drop l.field-index fields) (drop l.field-index (ranges l.region)))

use Rattle.std.proofs.Common.{◌≡◌, ℕ, [], ◌∷◌, ◌++◌, map, take, drop}
use Rattle.packet.specs.declared.range.Range.{Range}
use Rattle.packet.specs.Packets.{values}
use Rattle.opening.proofs.reading.low_ends.Given as goal

abbrev pub invariant-loop-field : goal.invariant-loop-field
invariant-loop-field l =
    values l.packet ≡ take l.field-index (map (λ (range : Range ℕ). range.low) l.ranges) ++ drop l.field-index (0 ∷ 0 ∷ 0 ∷ 0 ∷ 0 ∷ [])

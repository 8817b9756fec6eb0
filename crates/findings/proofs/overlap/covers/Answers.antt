use Rattle.std.proofs.Common.{◌≡◌, ◌||◌, refl, sym, ap, ◌∙◌}
use Rattle.std.proofs.lemmas.Bool.{or_left}
use Rattle.std.proofs.lemmas.Bool.Decides.{Decides-at}
use Rattle.packet.specs.Regions.{ranges}
use Rattle.findings.specs.Overlaps.{covers_ranges, reaches_over}
use Rattle.findings.proofs.Sided.{over_each}
use Rattle.findings.proofs.Overlapped.{covers_means}
use Rattle.findings.proofs.overlap.covers.Goals as goal

pub returns-then-is_reversed : goal.returns-then-is_reversed
returns-then-is_reversed c =
    let test : c.is_reversed.result ≡ covers_ranges (ranges c.args.first) (ranges c.args.second) = c.if-is_reversed.true ∙ sym (or_left _ _ (sym c.if-is_reversed.ensures)) in
    record { test = test; packets = Decides-at _ _ test (covers_means _ _ c.to_array-narrow.ensures.fit) }

pub returns-else-is_reversed : goal.returns-else-is_reversed
returns-else-is_reversed c =
    let over : c.reach_over.result ≡ reaches_over (ranges c.args.first) (ranges c.args.second) = c.reach_over.ensures ∙ over_each _ _ _ _ c.to_array-wide.ensures.value c.to_array-narrow.ensures.value refl in
    let test : c.reach_over.result ≡ covers_ranges (ranges c.args.first) (ranges c.args.second) =
    over ∙ ap (λ t. t || reaches_over (ranges c.args.first) (ranges c.args.second)) c.if-is_reversed.ensures in
    record { test = test; packets = Decides-at _ _ test (covers_means _ _ c.to_array-narrow.ensures.fit) }

use Rattle.std.proofs.Common.{refl, ◌∙◌}
use Rattle.std.proofs.lemmas.Bool.Decides.{Decides-at}
use Rattle.findings.proofs.Sided.{shares_each}
use Rattle.findings.proofs.Overlapped.{shares_means}
use Rattle.findings.proofs.overlap.shares.Goals as goal

pub returns : goal.returns
returns c =
    let test = c.meet.ensures ∙ shares_each _ _ _ _ c.to_array.ensures.value c.to_array-2.ensures.value refl in
    record { test = test; packets = Decides-at _ _ test (shares_means _ _ c.to_array.ensures.fit c.to_array-2.ensures.fit) }

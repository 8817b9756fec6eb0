use Rattle.std.proofs.Common.{◌+◌, ◌++◌, drop}
use Rattle.findings.specs.Hidings.{with_later, from_rule, findings_of, FaithfulWith, Faithful}
use Rattle.findings.proofs.Listed.{Leads}
use Rattle.findings.proofs.listing.list.Given as goal

abbrev pub invariant-loop-ahead : goal.invariant-loop-ahead
invariant-loop-ahead l =
    Leads
    l.initial.entries
    l.initial.count
    (with_later l.first l.rule (l.first + 1) l.later ++ from_rule (l.first + 1) l.later)
    l.entries
    l.count
    (with_later l.first l.rule (l.first + 1 + l.ahead) (drop l.ahead l.later) ++ from_rule (l.first + 1) l.later)
    × (FaithfulWith l.rule (drop l.ahead l.later) → FaithfulWith l.rule l.later)

abbrev pub invariant-loop-first : goal.invariant-loop-first
invariant-loop-first l =
    Leads l.initial.entries l.initial.count (findings_of l.rules) l.entries l.count (from_rule l.first (drop l.first l.rules))
    × (Faithful (drop l.first l.rules) → Faithful l.rules)

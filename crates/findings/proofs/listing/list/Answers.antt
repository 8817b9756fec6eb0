use Rattle.std.proofs.Common.{◌≡◌, ◌+◌, set, sym, ap, ◌∙◌, subst, arith}
use Rattle.std.proofs.lemmas.List.{set_past, take_rest}
use Rattle.findings.specs.declared.finding.Finding.{Finding}
use Rattle.findings.specs.Hidings.{from_rule, FaithfulWith}
use Rattle.findings.proofs.Listed.{leads_same, leads_at, leads_more, leads_on, few, rule_more, rule_end, later_more, later_end}
use Rattle.findings.proofs.Told.{later_told, later_told_end, rule_told, rule_told_end}
use Rattle.findings.proofs.listing.list.Goals as goal
use Rattle.findings.proofs.listing.list.Goals.{in-Some, then-count-entries, else-count-entries, in_default}

pub overflow_add-count : goal.overflow_add-count
overflow_add-count c =
    let opened = leads_same (rule_more c.args.rules.now _ c.loop-first.first _ (take_rest c.args.rules.now (c.loop-first.first + 1)) c.loop-first-test.true) c.loop-first.invariant.0 in
    let so_far = leads_on opened c.loop-ahead.invariant.0 in
    omega (arith, so_far.counted, few 0 c.args.rules.now c.requires)

pub loop-ahead-preserved : goal.loop-ahead-preserved
loop-ahead-preserved c = (
  elim c.match-hiding.branch [
    | in-Some w ↦
        let x : Finding = record { first = c.loop-first.first; second = c.loop-first.first + 1 + c.loop-ahead.ahead; hiding = w.in-Some.hiding } in
        let stored : w.if-count-entries.entries ≡ set c.loop-ahead.entries c.loop-ahead.count x = elim w.if-count-entries.branch [
          | then-count-entries v ↦ v.entries-is
          | else-count-entries v ↦ v.entries-is ∙ sym (set_past _ _ x (omega (arith, v.if-count-entries.false)))
        ] in
        leads_more (w.entries-is ∙ stored) w.count-is (leads_same (later_more _ _ _ _ _ _ _ _ c.loop-ahead-test.true w.in-Some.ensures.test) c.loop-ahead.invariant.0)
    | in_default w ↦ leads_at w.entries-is w.count-is (leads_same (later_more _ _ _ _ _ _ _ _ c.loop-ahead-test.true w.in_default.ensures.test) c.loop-ahead.invariant.0)
  ],
  λ rest. c.loop-ahead.invariant.1 (later_told _ _ _ _ _ c.loop-ahead-test.true c.hiding.ensures.test c.hiding.ensures.packets rest),
)

pub loop-first-preserved : goal.loop-first-preserved
loop-first-preserved c =
    let behind = take_rest c.args.rules.now (c.loop-first.first + 1) in
    let opened = leads_same (rule_more c.args.rules.now _ c.loop-first.first _ behind c.loop-first-test.true) c.loop-first.invariant.0 in
    let told = subst (FaithfulWith _) behind (c.loop-ahead.invariant.1 (later_told_end _ _ _ c.loop-ahead-test.false)) in (
      leads_same (later_end c.loop-first.first _ _ _ c.loop-ahead.ahead _ c.loop-ahead-test.false ∙ ap (from_rule (c.loop-first.first + 1)) behind) (leads_on opened c.loop-ahead.invariant.0),
      λ rest. c.loop-first.invariant.1 (rule_told _ _ _ c.loop-first-test.true told rest),
    )

pub returns : goal.returns
returns c =
    let done = leads_same (rule_end c.args.rules.now c.loop-first.first c.loop-first-test.false) c.loop-first.invariant.0 in
    record { count = omega (arith, done.counted); entries = done.written; packets = c.loop-first.invariant.1 (rule_told_end _ _ c.loop-first-test.false) }

-- The line of the first text over that of the second. Assumes nothing.
use Rattle.std.proofs.Common.{ℕ, eqb, List, Some, None, Ok, Option, refl, ap, ◌∙◌, Bor}
use Rattle.std.proofs.lemmas.Bool.{eq-eqb, cond-true, cond-false}
use Rattle.policy.specs.Layers.{over}
use Rattle.text.specs.Readings.{read_of}
use Rattle.text.specs.DecidingLines.{Decides}
use Rattle.winner.specs.declared.winning.Of.TheVariants.{First, Second}
use Rattle.winner.specs.Winners.{decided, Settles}

module _ (count silent : ℕ) (read : List ℕ → Option ℕ) (p : List ℕ) (line first second : Bor (List ℕ)) where
  pub first_settles : Decides count silent read p (read_of read first.now).rules (Ok (Some line)) → Settles count silent read p first.now second.now (Ok (Some (First line)))
  first_settles says = (says, ap (λ d. over silent d (decided count silent read p second.now)) says.decides ∙ cond-false (eqb says.rule.decision silent) _ _ says.speaks)

  pub second_settles : Decides count silent read p (read_of read first.now).rules (Ok None) → Decides count silent read p (read_of read second.now).rules (Ok (Some line))
      → Settles count silent read p first.now second.now (Ok (Some (Second line)))
  second_settles quiet says =
      (quiet.1, says, ap (λ d. over silent d (decided count silent read p second.now)) quiet.1 ∙ cond-true (eqb silent silent) _ _ (eq-eqb silent silent refl) ∙ says.decides)

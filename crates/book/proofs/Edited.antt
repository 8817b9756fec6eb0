-- What holds of every rule of a list holds of every rule after an edit. Assumes nothing.
use Rattle.std.proofs.Common.{◌≡◌, ℕ, suc, ◌<◌, Bool, true, false, cond, List, ◌∷◌, length, get_or, take, drop, sym, subst}
use Rattle.std.specs.List.{All, insert, remove}
use Rattle.std.proofs.lemmas.List.Elements.{All-cons, All-append, All-take, All-drop}
use Rattle.book.specs.declared.rule.Rule.{Rule}

module _ (P : Rule → Type 0) where
  -- whether or not the insertion found room
  pub all_inserted : (rules after : List Rule) (i : ℕ) (rule : Rule) (done : Bool) → after ≡ cond done (insert rules i rule) rules → All P rules → P rule → All P after
  all_inserted rules after i rule true e h f =
      subst (All P) (sym e) (All-append P (take i rules) (rule ∷ drop i rules) (All-take P i rules h) (All-cons P rule (drop i rules) f (All-drop P i rules h)))
  all_inserted rules after i rule false e h f = subst (All P) (sym e) h

  pub all_removed : (rules after : List Rule) (i : ℕ) → after ≡ remove rules i → All P rules → All P after
  all_removed rules after i e h = subst (All P) (sym e) (All-append P (take i rules) (drop (suc i) rules) (All-take P i rules h) (All-drop P (suc i) rules h))

  pub all_taken : (rules : List Rule) (i : ℕ) (rule : Rule) → rule ≡ get_or rules i rule → i < length rules → All P rules → P rule
  all_taken rules i rule e lt h = subst P (sym e) (h i rule lt)

-- A text that is joined with a byte between its parts, cut at that byte. Assumes nothing.
use Rattle.std.proofs.Common.{◌≡◌, ℕ, ◌<◌, Bool, true, false, cond, eqb, List, [], ◌∷◌, ◌++◌, length, refl, ap, ◌∙◌, arith}
use Rattle.std.specs.List.{AllByRecursion}
use Rattle.std.proofs.lemmas.Bool.{cond-true, cond-false, eq-eqb, ne_eqb}
use Rattle.text.specs.Pieces.{pieces, longer}

-- no byte of the text is the separator
abbrev pub Without : ℕ → List ℕ → Type 0
Without sep = AllByRecursion (λ b. b ≡ sep → ⊥)

module _ (sep : ℕ) where
  -- a text has a piece
  some : (t : List ℕ) → 0 < length (pieces sep t)
  unfolding pieces
  some [] = omega arith
  some (b ∷ bs) = at_byte (eqb b sep) (pieces sep bs) (some bs)
    where
      at_byte : (x : Bool) (ps : List (List ℕ)) → 0 < length ps → 0 < length (cond x ([] ∷ ps) (longer b ps))
      at_byte true ps h = omega arith
      at_byte false [] h = absurd (omega arith)
      at_byte false (p ∷ ps) h = omega arith

  longer_joined : (b : ℕ) (ps qs : List (List ℕ)) → 0 < length ps → longer b (ps ++ qs) ≡ longer b ps ++ qs
  longer_joined b [] qs h = absurd (omega arith)
  longer_joined b (p ∷ ps) qs h = refl

  pub pieces_joined : (s t : List ℕ) → pieces sep (s ++ (sep ∷ t)) ≡ pieces sep s ++ pieces sep t
  unfolding pieces
  pieces_joined [] t = cond-true (eqb sep sep) _ _ (eq-eqb sep sep refl)
  pieces_joined (b ∷ bs) t =
      ap (λ ps. cond (eqb b sep) ([] ∷ ps) (longer b ps)) (pieces_joined bs t) ∙ at_byte (eqb b sep)
    where
      at_byte : (x : Bool) → cond x ([] ∷ (pieces sep bs ++ pieces sep t)) (longer b (pieces sep bs ++ pieces sep t)) ≡ cond x ([] ∷ pieces sep bs) (longer b (pieces sep bs)) ++ pieces sep t
      at_byte true = refl
      at_byte false = longer_joined b (pieces sep bs) (pieces sep t) (some bs)

  pub pieces_one : (s : List ℕ) → Without sep s → pieces sep s ≡ s ∷ []
  unfolding pieces
  pieces_one [] h = refl
  pieces_one (b ∷ bs) h = cond-false (eqb b sep) _ _ (ne_eqb b sep h.0) ∙ ap (longer b) (pieces_one bs h.1)

  -- the first piece, and the others
  pub pieces_first : (s t : List ℕ) → Without sep s → pieces sep (s ++ (sep ∷ t)) ≡ s ∷ pieces sep t
  pieces_first s t h = pieces_joined s t ∙ ap (λ ps. ps ++ pieces sep t) (pieces_one s h)

-- The pieces of a text that is cut at a byte. Assumes nothing.
use Rattle.std.proofs.Common.{◌≡◌, ◌≢◌, ℕ, zero, suc, ◌+◌, ◌-◌, ◌<◌, Bool, true, false, cond, eqb, List, [], ◌∷◌, length, get_or, take, drop, refl, ap, ◌∙◌, arith, add-one}
use Rattle.std.proofs.lemmas.List.{take_rest}
use Rattle.std.proofs.lemmas.Bool.{eq-eqb, ne_eqb}
use Rattle.text.specs.Pieces.{pieces, longer, extent}

-- the first piece ends at the first separator
first_at : (sep : ℕ) (text : List ℕ) (i : ℕ) → i < length text → get_or text i 0 ≡ sep → ((k : ℕ) → k < i → get_or text k 0 ≢ sep) → pieces sep text ≡ take i text ∷ pieces sep (drop (suc i) text)
unfolding pieces
first_at sep [] i inside same before = absurd (omega arith)
first_at sep (b ∷ bs) zero inside same before = ap (λ t. cond t ([] ∷ pieces sep bs) (longer b (pieces sep bs))) (eq-eqb b sep same)
first_at sep (b ∷ bs) (suc i) inside same before =
    ap (λ t. cond t ([] ∷ pieces sep bs) (longer b (pieces sep bs))) (ne_eqb b sep (before 0 (omega arith)))
    ∙ ap (longer b) (first_at sep bs i (omega arith) same (λ k below. before (suc k) (omega arith)))

-- the same with what stands behind the separator as it is sliced
pub piece_at : (sep : ℕ) (text : List ℕ) (i : ℕ) → i < length text → get_or text i 0 ≡ sep → ((k : ℕ) → k < i → get_or text k 0 ≢ sep)
    → pieces sep text ≡ take i text ∷ pieces sep (take (length text - (i + 1)) (drop (i + 1) text))
piece_at sep text i inside same before = first_at sep text i inside same before ∙ simp (take_rest, add-one)

-- a text without a separator is one piece
pub piece_whole : (sep : ℕ) (text : List ℕ) → ((k : ℕ) → k < length text → get_or text k 0 ≢ sep) → pieces sep text ≡ text ∷ []
unfolding pieces
piece_whole sep [] none = refl
piece_whole sep (b ∷ bs) none =
    ap (λ t. cond t ([] ∷ pieces sep bs) (longer b (pieces sep bs))) (ne_eqb b sep (none 0 (omega arith)))
    ∙ ap (longer b) (piece_whole sep bs (λ k below. none (suc k) (omega arith)))

-- pieces with a separator behind each are as long as the text with one more
pub extent_pieces : (sep : ℕ) (t : List ℕ) → extent (pieces sep t) ≡ length t + 1
unfolding pieces
extent_pieces sep [] = omega arith
extent_pieces sep (b ∷ bs) = at_byte (eqb b sep) (pieces sep bs) (extent_pieces sep bs)
  where
    long : (ps : List (List ℕ)) → extent ps ≡ length bs + 1 → extent (longer b ps) ≡ length bs + 1 + 1
    long [] e = absurd (omega arith)
    long (p ∷ ps) e = omega arith

    at_byte : (x : Bool) (ps : List (List ℕ)) → extent ps ≡ length bs + 1 → extent (cond x ([] ∷ ps) (longer b ps)) ≡ length (b ∷ bs) + 1
    at_byte true ps e = omega arith
    at_byte false ps e = omega (arith, long ps e)

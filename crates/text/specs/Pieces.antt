-- A text cut at a byte. Cited by src/pieces.rt and by the files that cut lines, words and numbers. Assumes nothing.
use Rattle.std.specs.Prelude.{◌≡◌, ℕ, ◌+◌, cond, List, [], ◌∷◌, length, Some, None, Option, ◌==◌}
use Rattle.std.specs.Borrow.{Bor}
use Rattle.text.specs.declared.pieces.Pieces.{Pieces}

-- a byte before the first piece
abbrev pub longer : ℕ → List (List ℕ) → List (List ℕ)
longer b [] = []
longer b (p ∷ ps) = (b ∷ p) ∷ ps

-- the pieces between separators: n separators make n + 1 pieces
unfoldable pub pieces : ℕ → List ℕ → List (List ℕ)
pieces sep [] = [] ∷ []
pieces sep (b ∷ bs) = cond (b == sep) ([] ∷ pieces sep bs) (longer b (pieces sep bs))

-- the pieces of what is left of a text
abbrev pub pieces_of : ℕ → Option (Bor (List ℕ)) → List (List ℕ)
pieces_of sep None = []
pieces_of sep (Some rest) = pieces sep rest.now

-- the pieces that are still to be taken
abbrev pub left : Pieces → List (List ℕ)
left s = pieces_of s.separator s.rest

-- what is left of a text lies in it, from this place on
abbrev pub LiesAt : Bor (List ℕ) → ℕ → Option (Bor (List ℕ)) → Type 0
LiesAt text start None = Unit {0}
LiesAt text start (Some rest) = (rest.ref_ptr.0 ≡ text.ref_ptr.0) × (rest.ref_ptr.1 ≡ text.ref_ptr.1 + start)

-- a piece is taken: the first of those that are left. It lies where what was left of a text lay, and what is left then lies a
-- separator behind it
pub record TakenFrom (s : Pieces) (piece : Bor (List ℕ)) (t : Pieces) : Type 0 where
  pub first : left s ≡ piece.now ∷ left t
  pub lies : (text : Bor (List ℕ)) (start : ℕ) → LiesAt text start s.rest → LiesAt text start (Some piece) × LiesAt text (start + length piece.now + 1) t.rest

-- how many bytes pieces take with a separator behind each
abbrev pub extent : List (List ℕ) → ℕ
extent [] = 0
extent (p ∷ ps) = length p + 1 + extent ps

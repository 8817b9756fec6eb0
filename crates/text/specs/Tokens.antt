-- The tokens of a line. Cited by src/tokens.rt and src/lexer.rt. Assumes nothing.
use Rattle.std.specs.Prelude.{◌≡◌, ℕ, ◌+◌, List, [], ◌∷◌, length, ◌≢◌}
use Rattle.text.specs.declared.tokens.Token.{Token}
use Rattle.text.specs.declared.tokens.Token.TheVariants.{Star, Word}

-- the word that a token stands for; a star is the byte 42
abbrev pub word_of : Token → List ℕ
word_of (Star column) = 42 ∷ []
word_of (Word text column) = text.now

-- the column of a token's first byte
abbrev pub column_of : Token → ℕ
column_of (Star column) = column
column_of (Word text column) = column

-- the token stands for a word that begins in a column, and the word `*` has a case of its own
abbrev pub Stands : Token → List ℕ → ℕ → Type 0
Stands (Star column) word at = (word ≡ 42 ∷ []) × (column ≡ at)
Stands (Word text column) word at = (text.now ≡ word) × (column ≡ at) × (word ≢ 42 ∷ [])

-- a token is taken from words that begin in a column; what is left begins a space behind it
pub record Taken (token : Token) (words : List (List ℕ)) (column : ℕ) (rest : List (List ℕ)) (after : ℕ) : Type 0 where
  pub stands : Stands token (word_of token) column
  pub words_are : words ≡ word_of token ∷ rest
  pub moved : after ≡ column + length (word_of token) + 1

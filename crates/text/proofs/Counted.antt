-- One word more of a line. Assumes nothing.
use Rattle.std.proofs.Common.{◌≡◌, ℕ, suc, ◌+◌, ◌-◌, ◌<◌, ◌≤◌, true, false, cond, eqb, List, [], ◌∷◌, length, Ok, Err, sym, ap, ◌∙◌, arith}
use Rattle.text.specs.declared.faults.LineFault.TheVariants.{Words}
use Rattle.text.specs.declared.tokens.Token.{Token}
use Rattle.text.specs.declared.tokens.Token.TheVariants.{Star, Word}
use Rattle.text.specs.Tokens.{Stands, column_of}
use Rattle.text.specs.Words.{words_from}

module _ (past column i : ℕ) (within : i < 6) where
  turns : 6 - i ≡ suc (6 - (i + 1))
  turns = omega arith

  pub words_few : words_from past (6 - i) column [] ≡ Err (Words past)
  unfolding words_from
  words_few = ap (λ k. words_from past k column []) turns

  opened : (w : List ℕ) (ws : List (List ℕ)) → words_from past (6 - i) column (w ∷ ws) ≡ cond (eqb (length w) 0) (Err (Words column)) (words_from past (6 - (i + 1)) (column + length w + 1) ws)
  unfolding words_from
  opened w ws = ap (λ k. words_from past k column (w ∷ ws)) turns

  pub words_empty : (w : List ℕ) (ws : List (List ℕ)) → true ≡ eqb (length w) 0 → words_from past (6 - i) column (w ∷ ws) ≡ Err (Words column)
  words_empty w ws is = opened w ws ∙ ap (λ b. cond b (Err (Words column)) (words_from past (6 - (i + 1)) (column + length w + 1) ws)) (sym is)

  pub words_more : (w : List ℕ) (ws : List (List ℕ)) (after : ℕ) → false ≡ eqb (length w) 0 → after ≡ column + length w + 1 → words_from past (6 - i) column (w ∷ ws) ≡ words_from past (6 - (i + 1)) after ws
  words_more w ws after is moved =
      opened w ws ∙ ap (λ b. cond b (Err (Words column)) (words_from past (6 - (i + 1)) (column + length w + 1) ws)) (sym is) ∙ ap (λ n. words_from past (6 - (i + 1)) n ws) (sym moved)

module _ (past column i : ℕ) (six : 6 ≤ i) where
  done : 6 - i ≡ 0
  done = omega arith

  pub words_six : words_from past (6 - i) column [] ≡ Ok tt
  unfolding words_from
  words_six = ap (λ k. words_from past k column []) done

  pub words_many : (w : List ℕ) (ws : List (List ℕ)) → words_from past (6 - i) column (w ∷ ws) ≡ Err (Words column)
  unfolding words_from
  words_many w ws = ap (λ k. words_from past k column (w ∷ ws)) done

pub stands_column : (token : Token) (word : List ℕ) (column : ℕ) → Stands token word column → column_of token ≡ column
stands_column (Star at) word column s = s.1
stands_column (Word text at) word column s = s.1

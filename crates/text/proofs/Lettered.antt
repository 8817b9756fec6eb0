-- The first byte of a line that is no letter. Assumes nothing.
use Rattle.std.proofs.Common.{◌≡◌, ℕ, zero, suc, ◌+◌, ◌<◌, true, false, List, [], ◌∷◌, length, get_or, Ok, Err, refl, ap, ◌∙◌, arith}
use Rattle.std.proofs.lemmas.Bool.{cond-true, cond-false}
use Rattle.text.specs.Letters.{is_letter, letters_from, letters_of}

at_from : (column : ℕ) (bs : List ℕ) (i : ℕ) → i < length bs → is_letter (get_or bs i 0) ≡ false → ((k : ℕ) → k < i → is_letter (get_or bs k 0) ≡ true)
    → letters_from column bs ≡ Err (record { byte = get_or bs i 0; column = column + i })
unfolding letters_from
at_from column [] i inside bad before = absurd (omega arith)
at_from column (b ∷ bs) zero inside bad before =
    cond-false (is_letter b) _ _ bad ∙ ap (λ (n : ℕ). Err (record { byte = b; column = n })) (let e : column ≡ column + 0 = omega arith in e)
at_from column (b ∷ bs) (suc i) inside bad before =
    cond-true (is_letter b) _ _ (before 0 (omega arith)) ∙ at_from (column + 1) bs i (omega arith) bad (λ k below. before (suc k) (omega arith))
    ∙ ap (λ (n : ℕ). Err (record { byte = get_or bs i 0; column = n })) (let e : column + 1 + i ≡ column + suc i = omega arith in e)

all_from : (column : ℕ) (bs : List ℕ) → ((k : ℕ) → k < length bs → is_letter (get_or bs k 0) ≡ true) → letters_from column bs ≡ Ok tt
unfolding letters_from
all_from column [] all = refl
all_from column (b ∷ bs) all = cond-true (is_letter b) _ _ (all 0 (omega arith)) ∙ all_from (column + 1) bs (λ k below. all (suc k) (omega arith))

pub letter_at : (line : List ℕ) (i : ℕ) → i < length line → is_letter (get_or line i 0) ≡ false → ((k : ℕ) → k < i → is_letter (get_or line k 0) ≡ true)
    → letters_of line ≡ Err (record { byte = get_or line i 0; column = i + 1 })
letter_at line i inside bad before =
    at_from 1 line i inside bad before ∙ ap (λ (n : ℕ). Err (record { byte = get_or line i 0; column = n })) (let e : 1 + i ≡ i + 1 = omega arith in e)

pub letter_all : (line : List ℕ) → ((k : ℕ) → k < length line → is_letter (get_or line k 0) ≡ true) → letters_of line ≡ Ok tt
letter_all line all = all_from 1 line all

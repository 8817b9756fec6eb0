-- What `parse` reads is the number that a word writes.
use Rattle.std.proofs.Common.{refl, ap, sym, ◌∙◌, cond, ℕ, ◌≡◌, ◌<◌, ◌^◌, ◌&&◌, Bool, true, false, nat_lt, List, [], ◌∷◌, length}
use Rattle.std.specs.Prelude.{Result, Ok, Err}
use Rattle.std.specs.Result.{result_unwrap_or}
use Rattle.std.specs.List.{list_all}
use Rattle.std.specs.Char.{digit_value}
use Rattle.std.specs.Str.Parse.{AllDigits, IsNumeral, ParsesUnsigned, digits_value, without_leading_plus}
use Rattle.std.proofs.lemmas.Bool.{and_from, lt-ltb, ltb-true, false≢true, false_from_ne_true}
use Rattle.cases.specs.Words.{is_number, number_of}

both : (x y : Bool) → (x && y) ≡ true → (x ≡ true) × (y ≡ true)
both true true all = (refl, refl)
both true false all = absurd (false≢true all)
both false y all = absurd (false≢true all)

all_digits : (cs : List ℕ) → list_all (λ c. nat_lt (digit_value c) 10) cs ≡ true → AllDigits 10 cs
all_digits [] all = tt
all_digits (c ∷ cs) all =
    let two = both _ _ all in
    (ltb-true (digit_value c) 10 two.0, all_digits cs two.1)

digits_all : (cs : List ℕ) → AllDigits 10 cs → list_all (λ c. nat_lt (digit_value c) 10) cs ≡ true
digits_all [] all = refl
digits_all (c ∷ cs) all = and_from _ _ (lt-ltb (digit_value c) 10 all.0) (digits_all cs all.1)

sound : (ds : List ℕ) → is_number ds ≡ true → IsNumeral 10 ds × (digits_value 10 ds < 2 ^ 32)
sound ds told =
    let two = both _ _ told in
    let first = both _ _ two.0 in
    ((ltb-true 0 (length ds) first.0, all_digits ds first.1), ltb-true (digits_value 10 ds) (2 ^ 32) two.1)

complete : (ds : List ℕ) → IsNumeral 10 ds × (digits_value 10 ds < 2 ^ 32) → is_number ds ≡ true
complete ds is = and_from _ _ (and_from _ _ (lt-ltb 0 (length ds) is.0.0) (digits_all ds is.0.1)) (lt-ltb (digits_value 10 ds) (2 ^ 32) is.1)

pub parsed : {E : Type 0} (word : List ℕ) (r : Result ℕ E) → ParsesUnsigned 32 10 word r → result_unwrap_or r 0 ≡ number_of word
parsed word (Ok x) h =
    let ds = without_leading_plus word in
    h.1 ∙ sym (ap (λ b. cond b (digits_value 10 ds) 0) (complete ds h.0))
parsed word (Err e) h =
    let ds = without_leading_plus word in
    sym (ap (λ b. cond b (digits_value 10 ds) 0) (false_from_ne_true (is_number ds) (λ told. h (sound ds told))))

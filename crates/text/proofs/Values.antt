-- One digit more of a number, and one number more of an address. Assumes nothing.
use Rattle.std.proofs.Common.{◌≡◌, ℕ, zero, suc, ◌+◌, ◌-◌, ◌*◌, ◌^◌, ◌<◌, ◌≤◌, Bool, true, false, cond, leb, List, [], ◌∷◌, length, get_or, drop, Some, None, Option, sym, refl, ap, ◌∙◌, mul-le-mul_right, mul_assoc, arith}
use native.Mathlib.Nat.{pow-zero, pow-succ'}
use Rattle.std.proofs.lemmas.List.{at_drop_more, at_drop_all}
use Rattle.std.proofs.lemmas.Bool.{lt-leb, cond-true, cond-false}
use Rattle.std.proofs.lemmas.Bool.Decides.{nat_tests}
use Rattle.text.specs.Pieces.{pieces}
use Rattle.text.specs.Numbers.{digit_of, value_from, at_most, number_of, plain, bytes_from, address_of}

-- what is read from a digit on
abbrev after : Option ℕ → ℕ → List ℕ → Option ℕ
after r n bs = elim r [ None ↦ None | Some d ↦ value_from (n * 10 + d) bs ]

-- what is above the top stays above it
pub value_large : (top n : ℕ) (bs : List ℕ) → top < n → at_most top (value_from n bs) ≡ None
unfolding value_from
value_large top n [] large = cond-false (leb n top) (Some n) None (lt-leb n top large)
value_large top n (b ∷ bs) large =
    elim (digit_of b) as (λ r. at_most top (after r n bs) ≡ None) [ None ↦ refl | Some d ↦ value_large top (n * 10 + d) bs (omega arith) ]

module _ (n : ℕ) (word : List ℕ) (i : ℕ) where
  opened : i < length word → value_from n (drop i word) ≡ after (digit_of (get_or word i 0)) n (drop (i + 1) word)
  unfolding value_from
  opened within = at_drop_more (value_from n) word i 0 within

  pub value_more : (d : ℕ) → i < length word → Some d ≡ digit_of (get_or word i 0) → value_from n (drop i word) ≡ value_from (n * 10 + d) (drop (i + 1) word)
  value_more d within is = opened within ∙ ap (λ r. after r n (drop (i + 1) word)) (sym is)

  pub value_stop : i < length word → None ≡ digit_of (get_or word i 0) → value_from n (drop i word) ≡ None
  value_stop within is = opened within ∙ ap (λ r. after r n (drop (i + 1) word)) (sym is)

  pub value_end : length word ≤ i → value_from n (drop i word) ≡ Some n
  unfolding value_from
  value_end past = at_drop_all (value_from n) word i past

-- a word that is plain writes the value of its digits
pub number_plain : (top : ℕ) (word : List ℕ) → true ≡ plain word → number_of top word ≡ at_most top (value_from 0 word)
unfolding number_of
number_plain top word e = cond-true (plain word) _ None (sym e)

pub number_not_plain : (top : ℕ) (word : List ℕ) → false ≡ plain word → number_of top word ≡ None
unfolding number_of
number_not_plain top word e = cond-false (plain word) _ None (sym e)

-- what is read from a number of an address on
abbrev next : Option ℕ → ℕ → ℕ → List (List ℕ) → Option ℕ
next r more n ws = elim r [ None ↦ None | Some b ↦ bytes_from more (n * 256 + b) ws ]

module _ (i n : ℕ) (within : i < 4) where
  turns : 4 - i ≡ suc (4 - (i + 1))
  turns = omega arith

  pub bytes_few : bytes_from (4 - i) n [] ≡ None
  unfolding bytes_from
  bytes_few = ap (λ k. bytes_from k n []) turns

  bytes_opened : (w : List ℕ) (ws : List (List ℕ)) → bytes_from (4 - i) n (w ∷ ws) ≡ next (number_of 255 w) (4 - (i + 1)) n ws
  unfolding bytes_from
  bytes_opened w ws = ap (λ k. bytes_from k n (w ∷ ws)) turns

  pub bytes_more : (w : List ℕ) (ws : List (List ℕ)) (b : ℕ) → Some b ≡ number_of 255 w → bytes_from (4 - i) n (w ∷ ws) ≡ bytes_from (4 - (i + 1)) (n * 256 + b) ws
  bytes_more w ws b is = bytes_opened w ws ∙ ap (λ r. next r (4 - (i + 1)) n ws) (sym is)

  pub bytes_stop : (w : List ℕ) (ws : List (List ℕ)) → None ≡ number_of 255 w → bytes_from (4 - i) n (w ∷ ws) ≡ None
  bytes_stop w ws is = bytes_opened w ws ∙ ap (λ r. next r (4 - (i + 1)) n ws) (sym is)

module _ (i n : ℕ) (past : 4 ≤ i) where
  done : 4 - i ≡ 0
  done = omega arith

  pub bytes_end : bytes_from (4 - i) n [] ≡ Some n
  unfolding bytes_from
  bytes_end = ap (λ k. bytes_from k n []) done

  pub bytes_many : (w : List ℕ) (ws : List (List ℕ)) → bytes_from (4 - i) n (w ∷ ws) ≡ None
  unfolding bytes_from
  bytes_many w ws = ap (λ k. bytes_from k n (w ∷ ws)) done

-- a number is at most its top
pub number_top : (top n : ℕ) (word : List ℕ) → Some n ≡ number_of top word → n ≤ top
unfolding number_of
number_top top n word e = at_plain (plain word) e
  where
    at_value : (r : Option ℕ) → Some n ≡ at_most top r → n ≤ top
    at_value None e = let z : ◌≡◌ {A = ℕ} 0 1 = cc in omega arith
    at_value (Some m) e = grind (arith, nat_tests)

    at_plain : (b : Bool) → Some n ≡ cond b (at_most top (value_from 0 word)) None → n ≤ top
    at_plain true e = at_value (value_from 0 word) e
    at_plain false e = let z : ◌≡◌ {A = ℕ} 0 1 = cc in omega arith

-- one byte more of a number of fewer than four
pub room : (i n b : ℕ) → i < 4 → n < 256 ^ i → b ≤ 255 → (n * 256 + b < 256 ^ (i + 1)) × (n * 256 + b < 2 ^ 32)
room zero n b h k l = (omega arith, omega arith)
room (suc zero) n b h k l = (omega arith, omega arith)
room (suc (suc zero)) n b h k l = (omega arith, omega arith)
room (suc (suc (suc zero))) n b h k l = (omega arith, omega arith)
room (suc (suc (suc (suc i)))) n b h k l = absurd (omega arith)

-- so many bytes behind n write a number below that many times n and one more
bytes_below : (k n m : ℕ) (ws : List (List ℕ)) → Some m ≡ bytes_from k n ws → m < (n + 1) * 256 ^ k
unfolding bytes_from
bytes_below zero n m [] e = let same : m ≡ n = cc in omega (arith, pow-zero 256)
bytes_below zero n m (w ∷ ws) e = let z : ◌≡◌ {A = ℕ} 0 1 = cc in omega arith
bytes_below (suc k) n m [] e = let z : ◌≡◌ {A = ℕ} 0 1 = cc in omega arith
bytes_below (suc k) n m (w ∷ ws) e = at_byte (number_of 255 w) refl e (λ b. bytes_below k (n * 256 + b) m ws)
  where
    at_byte : (r : Option ℕ) → r ≡ number_of 255 w → Some m ≡ next r k n ws
        → ((b : ℕ) → Some m ≡ bytes_from k (n * 256 + b) ws → m < (n * 256 + b + 1) * 256 ^ k) → m < (n + 1) * 256 ^ suc k
    at_byte None is e later = let z : ◌≡◌ {A = ℕ} 0 1 = cc in omega arith
    at_byte (Some b) is e later =
        let below : m < (n * 256 + b + 1) * 256 ^ k = later b e in
        let most : b ≤ 255 = number_top 255 b w is in
        let step : n * 256 + b + 1 ≤ (n + 1) * 256 = omega arith in
        omega (arith, mul-le-mul_right (256 ^ k) step, pow-succ' 256 k, mul_assoc (n + 1) 256 (256 ^ k), ap (λ x. (n + 1) * x) (pow-succ' 256 k))

-- an address has 32 bits
pub address_top : (n : ℕ) (word : List ℕ) → Some n ≡ address_of word → n ≤ 4294967295
unfolding address_of
address_top n word e = let below = bytes_below 4 0 n (pieces 46 word) e in omega arith

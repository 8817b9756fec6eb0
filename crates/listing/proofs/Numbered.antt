-- Numbers and addresses, written and read. Assumes nothing.
use Rattle.std.proofs.Common.{◌≡◌, ℕ, zero, suc, ◌+◌, ◌-◌, ◌*◌, ◌/◌, ◌%◌, ◌^◌, ◌<◌, ◌≤◌, true, leb, List, [], ◌∷◌, ◌++◌, length, get_or, Some, None, decimal, Option, refl, ap, ◌∙◌, inl, inr, arith}
use native.Mathlib.Nat.{pow-succ'}
use Rattle.std.specs.List.{AllByRecursion}
use Rattle.std.proofs.lemmas.Fmt.{decimal_by_steps, decimal_digit, decimal_nonempty, first_decimal, length-decimal-le}
use Rattle.std.proofs.ByRecursion.{All-append, All-weaker}
use Rattle.std.proofs.lemmas.List.{length-append}
use Rattle.std.proofs.lemmas.Bool.{cond-true, le-leb, and_from, cases_lt}
use Rattle.std.proofs.lemmas.Bool.Decides.{nat_tests}
use Rattle.text.specs.Pieces.{pieces}
use Rattle.text.specs.Numbers.{plain, digit_of, value_from, at_most, number_of, bytes_from, address_of}
use Rattle.text.specs.Printing.{bytes_text}
use Rattle.listing.proofs.Cuts.{pieces_joined, pieces_one}

-- each byte lies between two
abbrev pub Between : ℕ → ℕ → List ℕ → Type 0
Between low high = AllByRecursion (λ b. (low ≤ b) × (b ≤ high))

pub wider : (low high low' high' : ℕ) (bs : List ℕ) → low' ≤ low → high ≤ high' → Between low high bs → Between low' high' bs
wider low high low' high' bs l h = All-weaker _ _ (λ b p. (omega (arith, p.0), omega (arith, p.1))) bs

-- the value of digits, and one more digit
value_push : (n v c d : ℕ) (ds : List ℕ) → value_from n ds ≡ Some v → digit_of c ≡ Some d → value_from n (ds ++ (c ∷ [])) ≡ Some (v * 10 + d)
unfolding value_from
value_push n v c d [] e f = let same : n ≡ v = cc in ap (λ (r : Option ℕ). elim r [ None ↦ None | Some d ↦ Some (n * 10 + d) ]) f ∙ ap (λ k. Some (k * 10 + d)) same
value_push n v c d (b ∷ bs) e f = at_digit (digit_of b) e (λ x h. value_push (n * 10 + x) v c d bs h f)
  where
    at_digit : (r : Option ℕ) → elim r [ None ↦ None | Some d ↦ value_from (n * 10 + d) bs ] ≡ Some v
        → ((x : ℕ) → value_from (n * 10 + x) bs ≡ Some v → value_from (n * 10 + x) (bs ++ (c ∷ [])) ≡ Some (v * 10 + d))
        → elim r [ None ↦ None | Some d ↦ value_from (n * 10 + d) (bs ++ (c ∷ [])) ] ≡ Some (v * 10 + d)
    at_digit None e later = let z : ◌≡◌ {A = ℕ} 0 1 = cc in absurd (omega arith)
    at_digit (Some x) e later = later x e

digit_back : (d : ℕ) → d < 10 → digit_of (48 + d) ≡ Some d
digit_back d h =
    cond-true _ (Some (48 + d - 48)) None (and_from (leb 48 (48 + d)) (leb (48 + d) 57) (le-leb 48 (48 + d) (omega arith)) (le-leb (48 + d) 57 (omega arith)))
    ∙ let same : 48 + d - 48 ≡ d = omega arith in ap Some same

-- a decimal is made of digits, whose value is the number
abbrev Reads : ℕ → List ℕ → Type 0
Reads n ds = (value_from 0 ds ≡ Some n) × Between 48 57 ds

reads : (n : ℕ) → n < 2 ^ 64 → Reads n (decimal n)
unfolding value_from
reads = decimal_by_steps Reads
    (λ n h. let same : 0 * 10 + n ≡ n = omega arith in (value_push 0 0 (48 + n) n [] refl (digit_back n h) ∙ ap Some same, ((omega arith, omega arith), tt)))
    (λ n ds h p.
    let digit : n % 10 < 10 = omega arith in
    let same : n / 10 * 10 + n % 10 ≡ n = omega arith in (
      value_push 0 (n / 10) (48 + n % 10) (n % 10) ds p.0 (digit_back (n % 10) digit) ∙ ap Some same,
      All-append _ ds _ p.1 ((omega arith, omega arith), tt),
    ))

pub decimal_bytes : (n : ℕ) → n < 2 ^ 64 → Between 48 57 (decimal n)
decimal_bytes n h = (reads n h).1

decimal_plain : (n : ℕ) → n < 2 ^ 64 → plain (decimal n) ≡ true
decimal_plain n h = elim (cases_lt n 10) [
  | inl small ↦ ap plain (decimal_digit n small)
  | inr large ↦ from_first (decimal n) (decimal_nonempty n h) (first_decimal n (omega arith) h)
]
  where
    from_first : (ds : List ℕ) → 0 < length ds → 48 < get_or ds 0 0 → plain ds ≡ true
    from_first [] some first = absurd (omega arith)
    from_first (b ∷ []) some first = refl
    from_first (b ∷ c ∷ bs) some first = grind (arith, nat_tests)

pub number_back : (top n : ℕ) → n ≤ top → n < 2 ^ 64 → number_of top (decimal n) ≡ Some n
unfolding number_of
number_back top n h k =
    cond-true (plain (decimal n)) _ None (decimal_plain n k) ∙ ap (at_most top) (reads n k).0 ∙ cond-true (leb n top) (Some n) None (le-leb n top h)

-- the number of bytes, and one more byte
bytes_push : (k n v b : ℕ) (w : List ℕ) (ws : List (List ℕ)) → bytes_from k n ws ≡ Some v → number_of 255 w ≡ Some b → bytes_from (suc k) n (ws ++ (w ∷ [])) ≡ Some (v * 256 + b)
unfolding bytes_from
bytes_push zero n v b w [] e f = let same : n ≡ v = cc in ap (λ (r : Option ℕ). elim r [ None ↦ None | Some b ↦ Some (n * 256 + b) ]) f ∙ ap (λ k. Some (k * 256 + b)) same
bytes_push zero n v b w (u ∷ us) e f = let z : ◌≡◌ {A = ℕ} 0 1 = cc in absurd (omega arith)
bytes_push (suc k) n v b w [] e f = let z : ◌≡◌ {A = ℕ} 0 1 = cc in absurd (omega arith)
bytes_push (suc k) n v b w (u ∷ us) e f = at_byte (number_of 255 u) e (λ x h. bytes_push k (n * 256 + x) v b w us h f)
  where
    at_byte : (r : Option ℕ) → elim r [ None ↦ None | Some b ↦ bytes_from k (n * 256 + b) us ] ≡ Some v
        → ((x : ℕ) → bytes_from k (n * 256 + x) us ≡ Some v → bytes_from (suc k) (n * 256 + x) (us ++ (w ∷ [])) ≡ Some (v * 256 + b))
        → elim r [ None ↦ None | Some b ↦ bytes_from (suc k) (n * 256 + b) (us ++ (w ∷ [])) ] ≡ Some (v * 256 + b)
    at_byte None e later = let z : ◌≡◌ {A = ℕ} 0 1 = cc in absurd (omega arith)
    at_byte (Some x) e later = later x e

last_byte : (n : ℕ) → n % 256 ≤ 255
last_byte n = omega arith

byte_back : (n : ℕ) → number_of 255 (decimal (n % 256)) ≡ Some (n % 256)
byte_back n = number_back 255 (n % 256) (last_byte n) (omega (arith, last_byte n))

byte_digits : (n : ℕ) → Between 48 57 (decimal (n % 256))
byte_digits n = decimal_bytes (n % 256) (omega (arith, last_byte n))

byte_piece : (n : ℕ) → pieces 46 (decimal (n % 256)) ≡ decimal (n % 256) ∷ []
byte_piece n = pieces_one 46 (decimal (n % 256)) (All-weaker _ _ (λ b p e. omega (arith, p.0)) (decimal (n % 256)) (byte_digits n))

bytes_back : (k n : ℕ) → n < 256 ^ suc k → bytes_from (suc k) 0 (pieces 46 (bytes_text k n)) ≡ Some n
unfolding bytes_text bytes_from
bytes_back zero n h =
    let same : 0 * 256 + n % 256 ≡ n = omega arith in
    ap (bytes_from 1 0) (byte_piece n) ∙ ap (λ (r : Option ℕ). elim r [ None ↦ None | Some b ↦ Some (0 * 256 + b) ]) (byte_back n) ∙ ap Some same
bytes_back (suc k) n h =
    let fewer : n / 256 < 256 ^ suc k = omega (arith, pow-succ' 256 (suc k)) in
    let same : n / 256 * 256 + n % 256 ≡ n = omega arith in
    ap (bytes_from (suc (suc k)) 0) (pieces_joined 46 (bytes_text k (n / 256)) (decimal (n % 256)) ∙ ap (λ ps. pieces 46 (bytes_text k (n / 256)) ++ ps) (byte_piece n))
    ∙ bytes_push (suc k) 0 (n / 256) (n % 256) (decimal (n % 256)) (pieces 46 (bytes_text k (n / 256))) (bytes_back k (n / 256) fewer) (byte_back n)
    ∙ ap Some same

pub address_back : (n : ℕ) → n ≤ 4294967295 → address_of (bytes_text 3 n) ≡ Some n
unfolding address_of
address_back n h = bytes_back 3 n (omega arith)

pub address_bytes : (k n : ℕ) → Between 46 57 (bytes_text k n)
unfolding bytes_text
address_bytes zero n = wider 48 57 46 57 _ (omega arith) (omega arith) (byte_digits n)
address_bytes (suc k) n =
    All-append _ (bytes_text k (n / 256)) _ (address_bytes k (n / 256)) ((omega arith, omega arith), wider 48 57 46 57 _ (omega arith) (omega arith) (byte_digits n))

byte_short : (n : ℕ) → length (decimal (n % 256)) ≤ 3
byte_short n = length-decimal-le 3 (n % 256) (omega arith) (omega (arith, last_byte n)) (omega (arith, last_byte n))

pub address_short : (k n : ℕ) → length (bytes_text k n) ≤ 3 + 4 * k
unfolding bytes_text
address_short zero n = omega (arith, byte_short n)
address_short (suc k) n =
    omega (arith, length-append (bytes_text k (n / 256)) (46 ∷ decimal (n % 256)), address_short k (n / 256), byte_short n)

pub address_some : (k n : ℕ) → 0 < length (bytes_text k n)
unfolding bytes_text
address_some zero n = decimal_nonempty (n % 256) (omega (arith, last_byte n))
address_some (suc k) n = omega (arith, length-append (bytes_text k (n / 256)) (46 ∷ decimal (n % 256)))

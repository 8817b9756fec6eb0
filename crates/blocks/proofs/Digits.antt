-- Numbers as bytes: writing and reading undo each other, and the steps and bounds of loops that read or sum. Assumes nothing.
use Rattle.std.proofs.Common.{◌≡◌, ℕ, zero, suc, ◌+◌, ◌*◌, ◌/◌, ◌%◌, ◌^◌, ◌<◌, ◌≤◌, min, List, [], ◌∷◌, ◌++◌, length, get_or, take, drop, replicate, sym, refl, ap, ◌∙◌, subst, ap₂, mul-le-mul_right, mod-lt, mod-eq_of_lt, mul_assoc, suc-mul, mul_comm, add_comm, pow-suc, add-one, arith}
use native.Mathlib.Nat.{mod-one, add-mul-div_right, add-mul-mod_self_right, one-le-pow}
use lib.Arith.{digits_lt, digits_div, mod-mul}
use Rattle.std.specs.List.{flat_map}
use Rattle.std.proofs.lemmas.List.{length_push, take_more, length-take, length-drop, length-replicate, get_or-take, get_or-drop, get_or-replicate}
use Rattle.std.proofs.lemmas.Nat.{mul-le}
use Rattle.blocks.specs.Numbers.{big_endian, number_of, Bytes}
use Rattle.blocks.specs.Writing.{sum_from, check_sum}

-- one digit more: the power, with the new factor first
pow_more : (w : ℕ) → 256 ^ suc w ≡ 256 * 256 ^ w
pow_more w = pow-suc 256 w ∙ mul_comm (256 ^ w) 256

-- a number takes its width
pub length-big_endian : (w n : ℕ) → length (big_endian w n) ≡ w
length-big_endian zero n = refl
length-big_endian (suc w) n = ap suc (length-big_endian w n)

-- the first bytes of bytes are bytes, and so are the others
pub bytes_take : (n : ℕ) (bs : List ℕ) → Bytes bs → Bytes (take n bs)
bytes_take n bs h k l =
    let m : k < min n (length bs) = omega (arith, length-take n bs) in
    rw (get_or-take n bs k 0 (omega arith)) (h k (omega arith))

pub bytes_drop : (n : ℕ) (bs : List ℕ) → Bytes bs → Bytes (drop n bs)
bytes_drop n bs h k l = rw (get_or-drop n bs k 0) (h (n + k) (omega (arith, length-drop n bs)))

-- bytes after bytes are bytes
pub bytes_append : (cs bs : List ℕ) → Bytes cs → Bytes bs → Bytes (cs ++ bs)
bytes_append [] bs g h k l = h k l
bytes_append (c ∷ cs) bs g h zero l = g 0 (omega arith)
bytes_append (c ∷ cs) bs g h (suc k) l = bytes_append cs bs (λ j m. g (suc j) (omega arith)) h k (omega arith)

-- and so are lists of bytes, joined
pub bytes_joined : {X : Type 0} (f : X → List ℕ) (d : X) (xs : List X) → ((j : ℕ) → j < length xs → Bytes (f (get_or xs j d))) → Bytes (flat_map f xs)
bytes_joined f d [] h k l = absurd (omega arith)
bytes_joined f d (x ∷ xs) h k l = bytes_append (f x) (flat_map f xs) (h 0 (omega arith)) (bytes_joined f d xs (λ j m. h (suc j) (omega arith))) k l

-- zeros are bytes
pub bytes_zeros : (n : ℕ) → Bytes (replicate n 0)
bytes_zeros n k l = omega (arith, get_or-replicate {A = ℕ} n k 0 0 (omega (arith, length-replicate {A = ℕ} n 0)))

-- what is written is bytes
pub bytes_big_endian : (w n : ℕ) → Bytes (big_endian w n)
bytes_big_endian zero n k h = absurd (omega arith)
bytes_big_endian (suc w) n zero h = mod-lt (n / 256 ^ w) (omega arith)
bytes_big_endian (suc w) n (suc k) h = bytes_big_endian w n k (omega arith)

read_any : (w n : ℕ) → number_of (big_endian w n) ≡ n % 256 ^ w
read_any zero n = sym (mod-one n)
read_any (suc w) n =
    ap₂ (λ (k x : ℕ). n / 256 ^ w % 256 * 256 ^ k + x) (length-big_endian w n) (read_any w n)
    ∙ sym (mod-mul n {m = 256} {c = 256 ^ w} (omega arith) (one-le-pow w 256 (omega arith)))
    ∙ ap (λ (x : ℕ). n % x) (sym (pow_more w))

-- a number that fits its width is read as it was written
pub read_written : (w n : ℕ) → n < 256 ^ w → number_of (big_endian w n) ≡ n
read_written w n h = read_any w n ∙ mod-eq_of_lt h

-- so many bytes stand for a number below the power
pub below_length : (bs : List ℕ) → Bytes bs → number_of bs < 256 ^ length bs
below_length [] h = omega arith
below_length (b ∷ bs) h = subst (λ (x : ℕ). b * 256 ^ length bs + number_of bs < x) (sym (pow_more (length bs)))
    (digits_lt (h 0 (omega arith)) (below_length bs (λ k l. h (suc k) (omega arith))))

-- what stands above the width is not written
written_low : (w a n : ℕ) → big_endian w (n + a * 256 ^ w) ≡ big_endian w n
written_low zero a n = refl
written_low (suc w) a n =
    let e : a * 256 ^ suc w ≡ a * 256 * 256 ^ w = ap (λ (x : ℕ). a * x) (pow_more w) ∙ sym (mul_assoc a 256 (256 ^ w)) in
    let p = one-le-pow w 256 (omega arith) in
    ap (λ (x : ℕ). big_endian (suc w) (n + x)) e
    ∙ ap₂ (λ (x : ℕ) (xs : List ℕ). x % 256 ∷ xs) (add-mul-div_right n (a * 256) p) (written_low w (a * 256) n)
    ∙ ap (λ (x : ℕ). x ∷ big_endian w n) (add-mul-mod_self_right (n / 256 ^ w) a 256)

written_length : (bs : List ℕ) → Bytes bs → big_endian (length bs) (number_of bs) ≡ bs
written_length [] h = refl
written_length (b ∷ bs) h =
    let t : Bytes bs = λ k l. h (suc k) (omega arith) in
    let i = ap (big_endian (length bs)) (add_comm (b * 256 ^ length bs) (number_of bs)) ∙ written_low (length bs) b (number_of bs) ∙ written_length bs t in
    ap₂ (λ (x : ℕ) (xs : List ℕ). x % 256 ∷ xs) (digits_div b (below_length bs t)) i
    ∙ ap (λ (x : ℕ). x ∷ bs) (mod-eq_of_lt (h 0 (omega arith)))

-- bytes are written as they were read
pub written_read : (w : ℕ) (bs : List ℕ) → length bs ≡ w → Bytes bs → big_endian w (number_of bs) ≡ bs
written_read w bs e h = ap (λ (x : ℕ). big_endian x (number_of bs)) (sym e) ∙ written_length bs h

-- a loop that reads a number, one byte on
pub number_more : (bs : List ℕ) (b : ℕ) → number_of (bs ++ b ∷ []) ≡ number_of bs * 256 + b
number_more [] b = omega arith
number_more (c ∷ bs) b =
    let e : 256 ^ length (bs ++ b ∷ []) ≡ 256 ^ length bs * 256 = ap (λ (x : ℕ). 256 ^ x) (length_push bs b ∙ add-one (length bs)) ∙ pow-suc 256 (length bs) in
    let m = ap (λ (x : ℕ). c * x) e ∙ sym (mul_assoc c (256 ^ length bs) 256) in
    omega (arith, number_more bs b)

-- a loop that sums, one byte on
pub sum_more : (n : ℕ) (bs : List ℕ) (b : ℕ) → sum_from n (bs ++ b ∷ []) ≡ sum_from n bs + b * (n + length bs)
sum_more n [] b = omega arith
sum_more n (c ∷ bs) b =
    let e : b * (suc n + length bs) ≡ b * (n + suc (length bs)) = ap (λ (x : ℕ). b * x) (omega arith) in
    omega (arith, sum_more (suc n) bs b)

-- a bound of the sum
pub sum_below : (n : ℕ) (bs : List ℕ) → Bytes bs → sum_from n bs ≤ length bs * (255 * (n + length bs))
sum_below n [] h = omega arith
sum_below n (b ∷ bs) h =
    let i = sum_below (suc n) bs (λ k l. h (suc k) (omega arith)) in
    let e : length bs * (255 * (suc n + length bs)) ≡ length bs * (255 * (n + suc (length bs))) = ap (λ (x : ℕ). length bs * (255 * x)) (omega arith) in
    let s = suc-mul (length bs) (255 * (n + suc (length bs))) in
    let m : b * n ≤ 255 * n = mul-le-mul_right n (omega (arith, h 0 (omega arith))) in
    omega arith

-- so the check of a block's first 508 bytes fits 4 bytes
pub check_below : (bs : List ℕ) → length bs ≤ 508 → Bytes bs → check_sum bs < 256 ^ 4
check_below bs l h =
    let m : length bs * (255 * (1 + length bs)) ≤ 508 * (255 * 509) = mul-le (length bs) (255 * (1 + length bs)) 508 (255 * 509) l (omega arith) in
    omega (arith, sum_below 1 bs h)

-- one byte more: the sum goes on by it, and still fits 4 bytes
pub check_more : (bs : List ℕ) (i : ℕ) → i < length bs → check_sum (take (i + 1) bs) ≡ check_sum (take i bs) + get_or bs i 0 * (i + 1)
check_more bs i h =
    let more = ap check_sum (take_more bs i 0 h) ∙ sum_more 1 (take i bs) (get_or bs i 0) in
    let place : 1 + length (take i bs) ≡ i + 1 = omega (arith, length-take i bs) in
    more ∙ ap (λ n. check_sum (take i bs) + get_or bs i 0 * n) place

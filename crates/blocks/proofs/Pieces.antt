-- Pieces of lists: a part of a part, a part of two lists, and lists joined from pieces of one length. Assumes nothing.
use Rattle.std.proofs.Common.{◌≡◌, ℕ, zero, suc, ◌+◌, ◌-◌, ◌*◌, ◌<◌, ◌≤◌, List, [], ◌∷◌, ◌++◌, length, get_or, take, drop, sym, ap, ◌∙◌, ap₂, mul-zero, mul-suc, arith, take-add}
use Rattle.std.specs.List.{flat_map}
use Rattle.std.proofs.lemmas.List.{length-append, length-drop, take_all, take_at, take-take, take-append-le, drop_at, drop-drop, drop-take, drop-append-le}

-- equal lists after equal lists
pub append_same : {X : Type 0} {xs ys zs ws : List X} → xs ≡ ys → zs ≡ ws → xs ++ zs ≡ ys ++ ws
append_same {X} p q = ap₂ (λ (x y : List X). x ++ y) p q

-- a part of a part: n from place p of the s from place q
pub part_of_part : {X : Type 0} (n p s q : ℕ) (xs : List X) → p + n ≤ s → take n (drop p (take s (drop q xs))) ≡ take n (drop (q + p) xs)
part_of_part n p s q xs h =
    let e : s ≡ p + (s - p) = omega arith in
    ap (λ (k : ℕ). take n (drop p (take k (drop q xs)))) e
    ∙ ap (take n) (drop-take p (s - p) (drop q xs))
    ∙ take-take n (s - p) (drop p (drop q xs)) (omega arith)
    ∙ ap (take n) (drop-drop p q xs)

-- a part of the first of two lists
pub part_of_first : {X : Type 0} (n p : ℕ) (xs ys : List X) → p + n ≤ length xs → take n (drop p (xs ++ ys)) ≡ take n (drop p xs)
part_of_first n p xs ys h = ap (take n) (drop-append-le p xs ys (omega arith)) ∙ take-append-le n (drop p xs) ys (omega (arith, length-drop p xs))

-- the second of two lists
pub part_second : {X : Type 0} (n p : ℕ) (xs ys : List X) → length xs ≡ p → length ys ≡ n → take n (drop p (xs ++ ys)) ≡ ys
part_second n p xs ys e f = ap (take n) (drop_at xs ys p e) ∙ take_all n ys (omega arith)

-- one place more of pieces of length w
one_more : (w k : ℕ) → w * suc k ≡ w + w * k
one_more w k = omega (arith, mul-suc w k)

module _ {X A : Type 0} (f : X → List A) (w : ℕ) (d : X) where
  -- pieces of one length
  abbrev pub Even : List X → Type 0
  Even xs = (j : ℕ) → j < length xs → length (f (get_or xs j d)) ≡ w

  -- so long are they, joined
  pub length-joined : (xs : List X) → Even xs → length (flat_map f xs) ≡ w * length xs
  length-joined [] h = sym (mul-zero w)
  length-joined (x ∷ xs) h =
      let i = length-joined xs (λ j l. h (suc j) (omega arith)) in
      omega (arith, length-append (f x) (flat_map f xs), h 0 (omega arith), one_more w (length xs))

  -- the piece at a place
  pub piece : (xs : List X) (j : ℕ) → Even xs → j < length xs → take w (drop (w * j) (flat_map f xs)) ≡ f (get_or xs j d)
  piece [] j h l = absurd (omega arith)
  piece (x ∷ xs) zero h l = ap (λ (k : ℕ). take w (drop k (f x ++ flat_map f xs))) (mul-zero w) ∙ take_at (f x) (flat_map f xs) w (h 0 (omega arith))
  piece (x ∷ xs) (suc j) h l =
      ap (λ (k : ℕ). take w (drop k (f x ++ flat_map f xs))) (one_more w j)
      ∙ ap (take w) (sym (drop-drop (w * j) w (f x ++ flat_map f xs)) ∙ ap (drop (w * j)) (drop_at (f x) (flat_map f xs) w (h 0 (omega arith))))
      ∙ piece xs j (λ j l. h (suc j) (omega arith)) (omega arith)

  -- pieces that are the parts of a list, joined
  pub joined_parts : (xs : List X) (ys : List A) → ((j : ℕ) → j < length xs → f (get_or xs j d) ≡ take w (drop (w * j) ys)) → flat_map f xs ≡ take (w * length xs) ys
  joined_parts [] ys h = ap (λ (k : ℕ). take k ys) (sym (mul-zero w))
  joined_parts (x ∷ xs) ys h =
      let a = h 0 (omega arith) ∙ ap (λ (k : ℕ). take w (drop k ys)) (mul-zero w) in
      let i = joined_parts xs (drop w ys) (λ j l. h (suc j) (omega arith) ∙ ap (λ (k : ℕ). take w (drop k ys)) (one_more w j) ∙ ap (take w) (sym (drop-drop (w * j) w ys))) in
      append_same a i ∙ sym (take-add w (w * length xs) ys) ∙ ap (λ (k : ℕ). take k ys) (sym (one_more w (length xs)))

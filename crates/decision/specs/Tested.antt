-- The laws of a kind from tests of all its decisions. Assumes nothing.
use Rattle.std.specs.Prelude.{◌≡◌, ℕ, zero, suc, ◌<◌, ◌≤◌, Bool, true, false, not, ◌&&◌, ◌||◌, ltb, ◌⊎◌, List, length, ◌==◌, nat_le, nat_lt}
use Rattle.std.proofs.Common.{subst, inl, inr, arith}
use Rattle.std.specs.Str.{bytes_eq}
use mathlib.Core.Bool.{and-false}
use Rattle.std.proofs.lemmas.Bool.{and_parts, and_from, eqb-true, leb-true, ltb-true, lt-ltb, le-ltb, cases_lt}
use Rattle.std.proofs.lemmas.Slice.Eq.{bytes_eq-Decides}
use Rattle.decision.specs.Kinds.{Lattice, Foreign, Words, both, known, known_below, known_or, first_word}
use Rattle.decision.specs.Words.{words_apart}

-- does the test pass at every number below n?
abbrev all : ℕ → (ℕ → Bool) → Bool
all zero t = true
all (suc n) t = t n && all n t

at : (n : ℕ) (t : ℕ → Bool) → all n t ≡ true → (k : ℕ) → k < n → t k ≡ true
at zero t h k l = absurd (omega arith)
at (suc n) t h k l = elim (cases_lt k n) [
  | inl b ↦ at n t (and_parts (t n) (all n t) h).1 k b
  | inr b ↦ let e : n ≡ k = omega arith in subst (λ x. t x ≡ true) e (and_parts (t n) (all n t) h).0
]

at_two : (n : ℕ) (t : ℕ → ℕ → Bool) → all n (λ a. all n (t a)) ≡ true → (a b : ℕ) → a < n → b < n → t a b ≡ true
at_two n t h a b la lb = at n (t a) (at n (λ x. all n (t x)) h a la) b lb

at_three : (n : ℕ) (t : ℕ → ℕ → ℕ → Bool) → all n (λ a. all n (λ b. all n (t a b))) ≡ true → (a b c : ℕ) → a < n → b < n → c < n → t a b c ≡ true
at_three n t h a b c la lb lc = at_two n (t a) (at n (λ x. all n (λ y. all n (t x y))) h a la) b c lb lc

-- if x, then y
abbrev so : Bool → Bool → Bool
so x y = not x || y

so_then : (x y : Bool) → so x y ≡ true → x ≡ true → y ≡ true
so_then true y h e = h
so_then false y h e = cc

so_both : (x y z : Bool) → so (x && y) z ≡ true → x ≡ true → y ≡ true → z ≡ true
so_both x y z h e f = so_then (x && y) z h (and_from x y e f)

module _ (n : ℕ) (below : ℕ → ℕ → Bool) (meet join : ℕ → ℕ → ℕ) where
  abbrev Two : (ℕ → ℕ → Bool) → Type 0
  Two t = all n (λ a. all n (t a)) ≡ true

  abbrev Three : (ℕ → ℕ → ℕ → Bool) → Type 0
  Three t = all n (λ a. all n (λ b. all n (t a b))) ≡ true

  pub lattice_tested : all n (λ a. below a a) ≡ true
      → Two (λ a b. so (below a b && below b a) (a == b))
      → Three (λ a b c. so (below a b && below b c) (below a c))
      → Two (λ a b. ltb (meet a b) n) → Two (λ a b. below (meet a b) a) → Two (λ a b. below (meet a b) b)
      → Three (λ a b c. so (below c a && below c b) (below c (meet a b)))
      → Two (λ a b. ltb (join a b) n) → Two (λ a b. below a (join a b)) → Two (λ a b. below b (join a b))
      → Three (λ a b c. so (below a c && below b c) (below (join a b) c))
      → Lattice n below meet join
  lattice_tested rf an tr mk m1 m2 mg jk j1 j2 jl = record {
    reflexive = at n (λ a. below a a) rf;
    antisymmetric = λ a b la lb x y. eqb-true a b (so_both _ _ _ (at_two n _ an a b la lb) x y);
    transitive = λ a b c la lb lc x y. so_both _ _ _ (at_three n _ tr a b c la lb lc) x y;
    meet_of_kind = λ a b la lb. ltb-true _ _ (at_two n _ mk a b la lb);
    meet_first = at_two n _ m1;
    meet_second = at_two n _ m2;
    meet_greatest = λ a b c la lb lc x y. so_both _ _ _ (at_three n _ mg a b c la lb lc) x y;
    join_of_kind = λ a b la lb. ltb-true _ _ (at_two n _ jk a b la lb);
    join_first = at_two n _ j1;
    join_second = at_two n _ j2;
    join_least = λ a b c la lb lc x y. so_both _ _ _ (at_three n _ jl a b c la lb lc) x y;
  }

pub words_tested : (n silent : ℕ) (word : ℕ → List ℕ) → nat_lt silent n ≡ true
    → all n (λ a. all n (λ b. so (bytes_eq (word a) (word b)) (a == b))) ≡ true → all n (λ d. first_word (word d)) ≡ true → all n (λ d. nat_le (length (word d)) 64) ≡ true
    → Words n silent word
words_tested n silent word l apart first few = words_apart n silent word
    (λ a b la lb e. eqb-true a b (so_then _ _ (at_two n (λ a b. so (bytes_eq (word a) (word b)) (a == b)) apart a b la lb) ((bytes_eq-Decides (word a) (word b)).1 e)))
    (ltb-true silent n l) (at n (λ d. first_word (word d)) first) (λ d ld. leb-true _ _ (at n (λ d. nat_le (length (word d)) 64) few d ld))

-- of numbers of which one is no decision, not both are decisions
not_both : (count a b : ℕ) → (count ≤ a) ⊎ (count ≤ b) → both count a b ≡ false
not_both count a b h = elim h [
  | inl l ↦ rw (le-ltb a count l)
  | inr l ↦ rw (le-ltb b count l, and-false)
]

-- what asks first whether both numbers are decisions turns all others away
pub foreign_known : (count silent : ℕ) (under : ℕ → ℕ → Bool) (lower upper : ℕ → ℕ → ℕ)
    → Foreign count silent (known_below count under) (known_or count silent lower) (known_or count silent upper)
foreign_known count silent under lower upper = record {
  not_below = λ a b h. rw (not_both count a b h);
  silent_meet = λ a b h. rw (not_both count a b h);
  silent_join = λ a b h. rw (not_both count a b h);
}

-- whatever the number, what counts for it is a decision
pub known_of_kind : (count silent d : ℕ) → silent < count → known count silent d < count
known_of_kind count silent d h = elim (cases_lt d count) [
  | inl l ↦ rw (lt-ltb d count l) l
  | inr l ↦ rw (le-ltb d count l) h
]

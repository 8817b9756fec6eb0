-- What a decision kind shows of its decisions, the numbers below its count. Cited by src/kind.rt. Assumes nothing.
use Rattle.std.specs.Prelude.{◌≡◌, ℕ, zero, suc, ◌<◌, ◌≤◌, Bool, true, false, cond, not, ◌&&◌, ◌⊎◌, List, [], ◌∷◌, length, Some, None, Option, ◌==◌, ◌≢◌, nat_le, nat_lt}
use Rattle.std.specs.Str.{bytes_eq}

-- a kind's number is 1 to 255, its count of decisions 2 to 16, and the silent decision is one of them
pub record Bounds (number count silent : ℕ) : Type 0 where
  pub numbered : 1 ≤ number
  pub byte : number ≤ 255
  pub several : 2 ≤ count
  pub few : count ≤ 16
  pub of_kind : silent < count

-- below orders the decisions; meet is the greatest decision below both, join the least that both are below
pub record Lattice (count : ℕ) (below : ℕ → ℕ → Bool) (meet join : ℕ → ℕ → ℕ) : Type 0 where
  pub reflexive : (a : ℕ) → a < count → below a a ≡ true
  pub antisymmetric : (a b : ℕ) → a < count → b < count → below a b ≡ true → below b a ≡ true → a ≡ b
  pub transitive : (a b c : ℕ) → a < count → b < count → c < count → below a b ≡ true → below b c ≡ true → below a c ≡ true
  pub meet_of_kind : (a b : ℕ) → a < count → b < count → meet a b < count
  pub meet_first : (a b : ℕ) → a < count → b < count → below (meet a b) a ≡ true
  pub meet_second : (a b : ℕ) → a < count → b < count → below (meet a b) b ≡ true
  pub meet_greatest : (a b c : ℕ) → a < count → b < count → c < count → below c a ≡ true → below c b ≡ true → below c (meet a b) ≡ true
  pub join_of_kind : (a b : ℕ) → a < count → b < count → join a b < count
  pub join_first : (a b : ℕ) → a < count → b < count → below a (join a b) ≡ true
  pub join_second : (a b : ℕ) → a < count → b < count → below b (join a b) ≡ true
  pub join_least : (a b c : ℕ) → a < count → b < count → c < count → below a c ≡ true → below b c ≡ true → below (join a b) c ≡ true

-- a number that is no decision of the kind is below nothing and above nothing, and its meet and join with any number are silent
pub record Foreign (count silent : ℕ) (below : ℕ → ℕ → Bool) (meet join : ℕ → ℕ → ℕ) : Type 0 where
  pub not_below : (a b : ℕ) → (count ≤ a) ⊎ (count ≤ b) → below a b ≡ false
  pub silent_meet : (a b : ℕ) → (count ≤ a) ⊎ (count ≤ b) → meet a b ≡ silent
  pub silent_join : (a b : ℕ) → (count ≤ a) ⊎ (count ≤ b) → join a b ≡ silent

-- a number that is no decision of the kind counts as the silent one
abbrev pub known : ℕ → ℕ → ℕ → ℕ
known count silent d = cond (nat_lt d count) d silent

-- are both numbers decisions?
abbrev pub both : ℕ → ℕ → ℕ → Bool
both count a b = nat_lt a count && nat_lt b count

-- a relation of decisions, which no other number has
abbrev pub known_below : ℕ → (ℕ → ℕ → Bool) → ℕ → ℕ → Bool
known_below count below a b = both count a b && below a b

-- an operation on decisions, which is silent at any other number
abbrev pub known_or : ℕ → ℕ → (ℕ → ℕ → ℕ) → ℕ → ℕ → ℕ
known_or count silent op a b = cond (both count a b) (op a b) silent

-- the decision below n, other than the silent one, that has this word
unfoldable pub read_word : ℕ → ℕ → (ℕ → List ℕ) → List ℕ → Option ℕ
read_word zero silent word w = None
read_word (suc n) silent word w = cond (not (n == silent) && bytes_eq (word n) w) (Some n) (read_word n silent word w)

-- can each byte stand inside a word of a line? That is, from 33 to 126: no space, and nothing that a line may not hold
abbrev pub inside_word : List ℕ → Bool
inside_word [] = true
inside_word (b ∷ bs) = nat_le 33 b && nat_le b 126 && inside_word bs

-- can the bytes stand as the first word of a line? They are not empty, and do not begin a comment, with # (35)
abbrev pub first_word : List ℕ → Bool
first_word [] = false
first_word (b ∷ bs) = not (b == 35) && inside_word (b ∷ bs)

-- what is written is read back; the silent decision's word is not read; every word can stand first in a line, and has at most 64
-- bytes, so that 64 lines make a text that is not too long
pub record Words (count silent : ℕ) (word : ℕ → List ℕ) : Type 0 where
  pub read_back : (d : ℕ) → d < count → (d ≢ silent) → read_word count silent word (word d) ≡ Some d
  pub silent_unread : read_word count silent word (word silent) ≡ None
  pub stands_first : (d : ℕ) → d < count → first_word (word d) ≡ true
  pub short : (d : ℕ) → d < count → length (word d) ≤ 64

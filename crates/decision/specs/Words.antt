-- Reading a word, decision by decision from the highest down. Assumes nothing.
use Rattle.std.proofs.Common.{inl, inr, sym, ap₂, subst, ◌∙◌}
use Rattle.std.specs.Prelude.{◌≡◌, ℕ, zero, suc, ◌-◌, ◌<◌, ◌≤◌, Bool, true, false, cond, not, ◌&&◌, List, length, Some, None, ◌==◌, ◌≢◌}
use Rattle.std.proofs.Math.Path.{ap}
use native.Mathlib.Omega.{arith}
use Rattle.std.specs.Str.{bytes_eq}
use Rattle.std.proofs.lemmas.Bool.{eq-eqb, ne_eqb, cases_Bool, cases_eq}
use Rattle.std.proofs.lemmas.Slice.Eq.{bytes_eq-Decides}
use Rattle.decision.specs.Kinds.{read_word, first_word, Words}

module _ (silent : ℕ) (word : ℕ → List ℕ) (w : List ℕ) where
  opened : (n : ℕ) → 0 < n → read_word n silent word w ≡ cond (not (n - 1 == silent) && bytes_eq (word (n - 1)) w) (Some (n - 1)) (read_word (n - 1) silent word w)
  unfolding read_word
  opened zero h = absurd (omega arith)
  opened (suc n) h =
      let e : n ≡ suc n - 1 = omega arith in
      ap (λ k. cond (not (k == silent) && bytes_eq (word k) w) (Some k) (read_word k silent word w)) e

  pub read_here : (n : ℕ) → 0 < n → (n - 1 ≢ silent) → true ≡ bytes_eq (word (n - 1)) w → Some (n - 1) ≡ read_word n silent word w
  read_here n h speaks same = sym (opened n h ∙ ap₂ (λ (a b : Bool). cond (not a && b) (Some (n - 1)) (read_word (n - 1) silent word w)) (ne_eqb (n - 1) silent speaks) (sym same))

  pub read_silent : (n : ℕ) → 0 < n → n - 1 ≡ silent → read_word n silent word w ≡ read_word (n - 1) silent word w
  read_silent n h e = opened n h ∙ ap (λ a. cond (not a && bytes_eq (word (n - 1)) w) (Some (n - 1)) (read_word (n - 1) silent word w)) (eq-eqb (n - 1) silent e)

  pub read_other : (n : ℕ) → 0 < n → (n - 1 ≢ silent) → false ≡ bytes_eq (word (n - 1)) w → read_word n silent word w ≡ read_word (n - 1) silent word w
  read_other n h speaks other = opened n h ∙ ap₂ (λ (a b : Bool). cond (not a && b) (Some (n - 1)) (read_word (n - 1) silent word w)) (ne_eqb (n - 1) silent speaks) (sym other)

  pub read_end : (n : ℕ) → n ≤ 0 → None ≡ read_word n silent word w
  unfolding read_word
  read_end n h = let e : 0 ≡ n = omega arith in ap (λ k. read_word k silent word w) e

-- no two decisions have one word
abbrev pub Apart : ℕ → (ℕ → List ℕ) → Type 0
Apart count word = (a b : ℕ) → a < count → b < count → word a ≡ word b → a ≡ b

module _ (count silent : ℕ) (word : ℕ → List ℕ) (apart : Apart count word) where
  other : (a b : ℕ) → a < count → b < count → (a ≢ b) → false ≡ bytes_eq (word a) (word b)
  other a b la lb n = elim (cases_Bool (bytes_eq (word a) (word b))) [
    | inl e ↦ absurd (n (apart a b la lb ((bytes_eq-Decides (word a) (word b)).0 e)))
    | inr e ↦ sym e
  ]

  -- what the decisions below n do not have is not read
  unread : (n d : ℕ) → n ≤ count → d < count → ((k : ℕ) → k < n → (k ≢ silent) → k ≢ d) → read_word n silent word (word d) ≡ None
  unread zero d l ld h = sym (read_end silent word (word d) zero (omega arith))
  unread (suc n) d l ld h =
      let less : read_word (suc n - 1) silent word (word d) ≡ None = subst (λ k. read_word k silent word (word d) ≡ None) (omega arith) (unread n d (omega arith) ld (λ k lk. h k (omega arith))) in
      let e : suc n - 1 ≡ n = omega arith in
      elim (cases_eq n silent) [
        | inl s ↦ read_silent silent word (word d) (suc n) (omega arith) (e ∙ s) ∙ less
        | inr s ↦ read_other silent word (word d) (suc n) (omega arith) (λ i. s (sym e ∙ i)) (other (suc n - 1) d (omega arith) ld (λ i. h n (omega arith) s (sym e ∙ i))) ∙ less
      ]

  read_at : (n d : ℕ) → n ≤ count → d < n → (d ≢ silent) → read_word n silent word (word d) ≡ Some d
  read_at zero d l ld h = absurd (omega arith)
  read_at (suc n) d l ld h =
      let e : suc n - 1 ≡ n = omega arith in
      elim (cases_eq d n) [
        | inl i ↦ sym (read_here silent word (word d) (suc n) (omega arith) (λ s. h (i ∙ sym e ∙ s)) (sym ((bytes_eq-Decides _ _).1 (ap word (e ∙ sym i))))) ∙ ap Some (e ∙ sym i)
        | inr i ↦
            let less : read_word (suc n - 1) silent word (word d) ≡ Some d = subst (λ k. read_word k silent word (word d) ≡ Some d) (omega arith) (read_at n d (omega arith) (omega arith) h) in
            elim (cases_eq n silent) [
              | inl s ↦ read_silent silent word (word d) (suc n) (omega arith) (e ∙ s) ∙ less
              | inr s ↦ read_other silent word (word d) (suc n) (omega arith) (λ j. s (sym e ∙ j)) (other (suc n - 1) d (omega arith) (omega arith) (λ j. i (sym j ∙ e))) ∙ less
            ]
      ]

  pub words_apart : silent < count → ((d : ℕ) → d < count → first_word (word d) ≡ true) → ((d : ℕ) → d < count → length (word d) ≤ 64) → Words count silent word
  words_apart l first few = record {
    read_back = λ d ld h. read_at count d (omega arith) ld h;
    silent_unread = unread count silent (omega arith) l (λ k lk h. h);
    stands_first = first;
    short = few;
  }

-- Numbers and ranges as bytes, step by step. Assumes nothing.
use Rattle.std.proofs.Common.{◌≡◌, ℕ, zero, suc, ◌-◌, ◌/◌, ◌%◌, ◌≤◌, cond, ◌⊎◌, List, [], ◌∷◌, ◌++◌, drop, is_ok, IfOk, Ok, Err, Result, sym, refl, ap, ◌∙◌, inl, inr, div-one, arith}
use Rattle.std.proofs.lemmas.List.{append_assoc}
use Rattle.packet.specs.declared.range.Range.{Range}
use Rattle.blocks.specs.Numbers.{big_endian}
use Rattle.blocks.specs.Writing.{range_bytes}

-- the four bytes of a number
abbrev pub four : ℕ → List ℕ
four n = (n / 16777216 % 256) ∷ (n / 65536 % 256) ∷ (n / 256 % 256) ∷ (n % 256) ∷ []

-- the last of them are the number in fewer bytes
pub last_bytes : (width n : ℕ) → width ≤ 4 → drop (4 - width) (four n) ≡ big_endian width n
last_bytes zero n h = refl
last_bytes (suc zero) n h = ap (λ b. (b % 256) ∷ []) (sym (div-one n))
last_bytes (suc (suc zero)) n h = ap (λ b. (n / 256 % 256) ∷ (b % 256) ∷ []) (sym (div-one n))
last_bytes (suc (suc (suc zero))) n h = ap (λ b. (n / 65536 % 256) ∷ (n / 256 % 256) ∷ (b % 256) ∷ []) (sym (div-one n))
last_bytes (suc (suc (suc (suc zero)))) n h = ap (λ b. (n / 16777216 % 256) ∷ (n / 65536 % 256) ∷ (n / 256 % 256) ∷ (b % 256) ∷ []) (sym (div-one n))
last_bytes (suc (suc (suc (suc (suc width))))) n h = absurd (omega arith)

-- what is behind a list that was to be extended
pub extended : {T E : Type 0} (r : Result T E) (before more same after : List ℕ) → more ≡ same → after ≡ cond (is_ok r) (before ++ more) before → IfOk r (λ _. after ≡ before ++ same)
extended (Ok x) before more same after e h = h ∙ ap (λ m. before ++ m) e
extended (Err y) before more same after e h = tt

-- the same, behind a part that was written before
pub extended_on : {T E : Type 0} (r : Result T E) (before first out more after : List ℕ) → out ≡ before ++ first → after ≡ cond (is_ok r) (out ++ more) out → IfOk r (λ _. after ≡ before ++ (first ++ more))
extended_on (Ok x) before first out more after e h = h ∙ ap (λ o. o ++ more) e ∙ append_assoc before first more
extended_on (Err y) before first out more after e h = tt

-- no range is left
pub range_all : (ws : List ℕ) (rs : List (Range ℕ)) → (ws ≡ []) ⊎ (rs ≡ []) → range_bytes ws rs ≡ []
range_all ws rs (inl e) = ap (λ (x : List ℕ). range_bytes x rs) e
range_all [] rs (inr e) = refl
range_all (w ∷ ws) rs (inr e) = ap (λ (x : List (Range ℕ)). range_bytes (w ∷ ws) x) e

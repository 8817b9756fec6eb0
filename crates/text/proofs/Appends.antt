-- One writing after another. Assumes nothing.
use Rattle.std.proofs.Common.{◌≡◌, ℕ, suc, ◌+◌, ◌-◌, ◌/◌, ◌%◌, ◌<◌, ◌≤◌, Bool, true, false, eqb, List, [], ◌∷◌, ◌++◌, length, get_or, take, drop, is_err, Ok, Err, IsUtf8, decimal, Result, sym, refl, ap, ◌∙◌, subst, ap₂, arith}
use mathlib.Core.Logic.{∥∥₁_elim}
use native.Mathlib.Bridge.{le_prop}
use Rattle.std.proofs.lemmas.Str.{IsCharBoundary-from_take}
use Rattle.std.proofs.lemmas.List.{append_assoc, take_at, drop_more, drop_all}
use Rattle.std.proofs.lemmas.Bool.{eq-eqb, ne_eqb, cond-true, cond-false}
use Rattle.packet.specs.declared.field.Field.{Field}
use Rattle.packet.specs.declared.range.Range.{Range}
use Rattle.packet.specs.Packets.{place}
use Rattle.packet.specs.Regions.{range_at}
use Rattle.text.specs.Fields.{fields}
use Rattle.text.specs.Printing.{Appended, bytes_text, value_text, whole, range_text, ranges_text}
use Rattle.text.proofs.Placed.{field_within, field_at}

module _ {T E : Type 0} where
  pub appended_as : (r : Result T E) (before text whole after : List ℕ) → whole ≡ text → Appended r before text after → Appended r before whole after
  appended_as r before text whole after same e = subst (λ t. Appended r before t after) (sym same) e

  -- what follows a part that is written
  pub appended_on : (r : Result T E) (before first mid text whole after : List ℕ) → mid ≡ before ++ first → whole ≡ first ++ text → Appended r mid text after → Appended r before whole after
  appended_on r before first mid text whole after m same e = appended_as r before (first ++ text) whole after same (at_answer r e)
    where
      at_answer : (r : Result T E) → Appended r mid text after → Appended r before (first ++ text) after
      at_answer (Ok x) e = e ∙ ap (λ xs. xs ++ text) m ∙ append_assoc before first text
      at_answer (Err x) e = (first ++ e.0, e.1 ∙ ap (λ xs. xs ++ e.0) m ∙ append_assoc before first e.0)

  -- memory runs out behind a part that is written
  pub appended_break : (r : Result T E) (before first mid whole after : List ℕ) → is_err r ≡ true → mid ≡ before ++ first → (rest : List ℕ) × (after ≡ mid ++ rest) → Appended r before whole after
  appended_break (Ok x) before first mid whole after err m e = let z : ◌≡◌ {A = Bool} false true = err in let y : ◌≡◌ {A = ℕ} 0 1 = cc in absurd (omega arith)
  appended_break (Err x) before first mid whole after err m e = (first ++ e.0, e.1 ∙ ap (λ xs. xs ++ e.0) m ∙ append_assoc before first e.0)

  -- two parts and a letter between them
  pub appended_joined : (r : Result T E) (before first mid : List ℕ) (letter : ℕ) (later text whole after : List ℕ) → mid ≡ before ++ first → later ≡ mid ++ (letter ∷ []) → whole ≡ first ++ (letter ∷ text)
      → Appended r later text after → Appended r before whole after
  appended_joined r before first mid letter later text whole after m l same e =
      appended_on r before (first ++ (letter ∷ [])) later text whole after
      (l ∙ ap (λ xs. xs ++ (letter ∷ [])) m ∙ append_assoc before first (letter ∷ [])) (same ∙ sym (append_assoc first (letter ∷ []) text)) e

  -- whatever came of it, the text begins as it did
  pub appended_begins : (r : Result T E) (before text after : List ℕ) → Appended r before text after → (rest : List ℕ) × (after ≡ before ++ rest)
  appended_begins (Ok x) before text after e = (text, e)
  appended_begins (Err x) before text after e = e

pub byte_last : (more n : ℕ) → more ≡ 0 → bytes_text more n ≡ decimal (n % 256)
unfolding bytes_text
byte_last more n e = ap (λ k. bytes_text k n) e

pub byte_more : (more n : ℕ) → (more ≡ 0 → ⊥) → bytes_text more n ≡ bytes_text (more - 1) (n / 256) ++ (46 ∷ decimal (n % 256))
unfolding bytes_text
byte_more more n h = let e : more ≡ suc (more - 1) = omega arith in ap (λ k. bytes_text k n) e

module _ (field : Field) (r : Range ℕ) where
  pub range_whole : true ≡ whole field r → range_text field r ≡ 42 ∷ []
  unfolding range_text
  range_whole is = cond-true (whole field r) _ _ (sym is)

  pub range_single : false ≡ whole field r → r.low ≡ r.high → range_text field r ≡ value_text field r.low
  unfolding range_text
  range_single is same = cond-false (whole field r) _ _ (sym is) ∙ cond-true (eqb r.low r.high) _ _ (eq-eqb r.low r.high same)

  pub range_double : false ≡ whole field r → (r.low ≡ r.high → ⊥) → range_text field r ≡ value_text field r.low ++ (45 ∷ value_text field r.high)
  unfolding range_text
  range_double is other = cond-false (whole field r) _ _ (sym is) ∙ cond-false (eqb r.low r.high) _ _ (ne_eqb r.low r.high other)

-- the texts of the fields from i on
module _ (field : Field) (i : ℕ) (is : place field ≡ i) (rs : List (Range ℕ)) where
  pub ranges_text_more : (r : Range ℕ) → length rs ≡ 5 → r ≡ range_at rs (place field) → ranges_text (drop i fields) (drop i rs) ≡ 32 ∷ (range_text field r ++ ranges_text (drop (i + 1) fields) (drop (i + 1) rs))
  unfolding ranges_text
  ranges_text_more r long here =
      let within : i < length rs = omega (arith, field_within field) in
      ap₂ (λ (fs : List Field) (qs : List (Range ℕ)). ranges_text fs qs) (field_at field i is) (drop_more rs i (record { low = 0; high = 0 }) within)
      ∙ ap (λ q. 32 ∷ (range_text field q ++ ranges_text (drop (i + 1) fields) (drop (i + 1) rs))) (sym (here ∙ ap (range_at rs) is))

pub ranges_text_end : (i : ℕ) (rs : List (Range ℕ)) → 5 ≤ i → ranges_text (drop i fields) rs ≡ []
unfolding ranges_text
ranges_text_end i rs past = ap (λ fs. ranges_text fs rs) (drop_all i fields past)

-- behind a text that was there before, a text may be cut
pub boundary_behind : (before rest after : List ℕ) → ∥ IsUtf8 before ∥₁ → ∥ IsUtf8 after ∥₁ → after ≡ before ++ rest → length before < length after
    → 128 ≤ get_or after (length before) 0 → 192 ≤ get_or after (length before) 0
boundary_behind before rest after old new e short high =
    ∥∥₁_elim old le_prop (λ u. ∥∥₁_elim new le_prop (λ v.
    (IsCharBoundary-from_take after (length before) v (omega arith) (subst IsUtf8 (sym (ap (take (length before)) e ∙ take_at before rest (length before) refl)) u)).1 short high))

-- The range of a word by its token. Assumes nothing.
use Rattle.std.proofs.Common.{◌≡◌, ℕ, ◌≤◌, min, Bool, true, false, cond, List, [], ◌∷◌, get_or, Some, None, Ok, Err, Option, sym, refl, subst, ap₂, inl, inr, arith}
use Rattle.std.specs.Str.{bytes_eq}
use Rattle.std.proofs.lemmas.Slice.Eq.{bytes_eq-Decides}
use Rattle.std.proofs.lemmas.Bool.{cond-true, cond-false, cases_Bool, le-ltb}
use Rattle.packet.specs.declared.field.Field.{Field}
use Rattle.packet.specs.declared.field.Field.TheVariants.{Source, SourcePort, Destination, DestinationPort, Protocol}
use Rattle.packet.specs.declared.range.Range.{Range}
use Rattle.packet.specs.Packets.{tops, place}
use Rattle.packet.specs.Regions.{reversed, clamped}
use Rattle.text.specs.declared.faults.WordFault.TheVariants.{Reversed}
use Rattle.text.specs.Pieces.{pieces}
use Rattle.text.specs.Ranges.{value_of, ends_of, judged, range_of, written_range}
use Rattle.text.proofs.Values.{number_top, address_top}

pub range_star : (field : Field) (column : ℕ) (word : List ℕ) → word ≡ 42 ∷ [] → range_of field column word ≡ Ok (record { low = 0; high = get_or tops (place field) 0 })
unfolding range_of
range_star field column word star = cond-true (bytes_eq word (42 ∷ [])) _ _ ((bytes_eq-Decides word (42 ∷ [])).1 star)

other : (word : List ℕ) → (word ≡ 42 ∷ [] → ⊥) → bytes_eq word (42 ∷ []) ≡ false
other word no_star = elim (cases_Bool (bytes_eq word (42 ∷ []))) [ inl e ↦ absurd (no_star ((bytes_eq-Decides word (42 ∷ [])).0 e)) | inr e ↦ e ]

pub range_word : (field : Field) (column : ℕ) (word : List ℕ) → (word ≡ 42 ∷ [] → ⊥) → range_of field column word ≡ written_range field column word
unfolding range_of
range_word field column word no_star = cond-false (bytes_eq word (42 ∷ [])) _ _ (other word no_star)

-- a value is at most the field's largest
pub value_top : (field : Field) (word : List ℕ) (n : ℕ) → Some n ≡ value_of field word → n ≤ get_or tops (place field) 0
value_top Source word n e = address_top n word e
value_top SourcePort word n e = number_top 65535 n word e
value_top Destination word n e = address_top n word e
value_top DestinationPort word n e = number_top 65535 n word e
value_top Protocol word n e = number_top 255 n word e

-- ends within the field, the low one not above the high one
pub record Sound (top : ℕ) (r : Range ℕ) : Type 0 where
  pub low_within : r.low ≤ top
  pub high_within : r.high ≤ top
  pub forward : reversed r ≡ false

module _ (field : Field) where
  abbrev top : ℕ
  top = get_or tops (place field) 0

  abbrev Inside : Option (Range ℕ) → Type 0
  Inside None = Unit {0}
  Inside (Some r) = (r.low ≤ top) × (r.high ≤ top)

  one : (v : List ℕ) (x : Option ℕ) → x ≡ value_of field v → Inside (elim x [ None ↦ None | Some n ↦ Some (record { low = n; high = n }) ])
  one v None e = tt
  one v (Some n) e = (value_top field v n e, value_top field v n e)

  two : (v w : List ℕ) (x y : Option ℕ) → x ≡ value_of field v → y ≡ value_of field w
      → Inside (elim x [ None ↦ None | Some n ↦ elim y [ None ↦ None | Some m ↦ Some (record { low = n; high = m }) ] ])
  two v w None y e f = tt
  two v w (Some n) None e f = tt
  two v w (Some n) (Some m) e f = (value_top field v n e, value_top field w m f)

  ends_inside : (ws : List (List ℕ)) → Inside (ends_of (value_of field) ws)
  ends_inside [] = tt
  ends_inside (v ∷ []) = one v (value_of field v) refl
  ends_inside (v ∷ w ∷ []) = two v w (value_of field v) (value_of field w) refl refl
  ends_inside (v ∷ w ∷ u ∷ us) = tt

  at_ends : (column : ℕ) (ends : Option (Range ℕ)) (r : Range ℕ) → Inside ends → Ok r ≡ judged column ends → Sound top r
  at_ends column None r inside e = let z : ◌≡◌ {A = ℕ} 0 1 = cc in absurd (omega arith)
  at_ends column (Some range) r inside e = at_order (reversed range) refl e
    where
      at_order : (b : Bool) → b ≡ reversed range → Ok r ≡ cond b (Err (Reversed column)) (Ok range) → Sound top r
      at_order true is e = let z : ◌≡◌ {A = ℕ} 0 1 = cc in absurd (omega arith)
      at_order false is e = let same : range ≡ r = cc in subst (Sound top) same (record { low_within = inside.0; high_within = inside.1; forward = sym is })

  pub range_sound : (column : ℕ) (word : List ℕ) (r : Range ℕ) → Ok r ≡ range_of field column word → Sound top r
  unfolding range_of
  range_sound column word r e = at_star (bytes_eq word (42 ∷ [])) e
    where
      at_star : (b : Bool) → Ok r ≡ cond b (Ok (record { low = 0; high = top })) (written_range field column word) → Sound top r
      at_star true e = let same : record { low = 0; high = top } ≡ r = cc in subst (Sound top) same (record { low_within = omega arith; high_within = omega arith; forward = le-ltb top 0 (omega arith) })
      at_star false e = at_ends column (ends_of (value_of field) (pieces 45 word)) r (ends_inside (pieces 45 word)) e

  -- ends within the field are not brought down
  pub clamped_same : (r : Range ℕ) → Sound top r → clamped top r ≡ r
  clamped_same r sound =
      let low : min r.low top ≡ r.low = omega (arith, sound.low_within) in
      let high : min r.high top ≡ r.high = omega (arith, sound.high_within) in
      ap₂ (λ (l h : ℕ). record { low = l; high = h }) low high

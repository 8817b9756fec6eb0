-- Range words, written and read. Assumes nothing.
use Rattle.std.proofs.Common.{◌≡◌, ℕ, ◌<◌, ◌≤◌, true, false, eqb, List, [], ◌∷◌, ◌++◌, length, get_or, Some, None, Ok, Err, decimal, Option, sym, ap, ◌∙◌, subst, ap₂, inl, inr, arith}
use Rattle.std.proofs.lemmas.Fmt.{decimal_nonempty, length-decimal-le}
use Rattle.std.proofs.ByRecursion.{All-append, All-weaker}
use Rattle.std.proofs.lemmas.List.{length-append}
use Rattle.std.proofs.lemmas.Bool.{cond-false, cases_Bool, and_parts, eqb-true, eqb-false}
use Rattle.packet.specs.declared.field.Field.{Field}
use Rattle.packet.specs.declared.field.Field.TheVariants.{Source, SourcePort, Destination, DestinationPort, Protocol}
use Rattle.packet.specs.declared.range.Range.{Range}
use Rattle.packet.specs.Packets.{tops, place}
use Rattle.packet.specs.Regions.{reversed}
use Rattle.text.specs.declared.faults.WordFault.TheVariants.{Reversed}
use Rattle.text.specs.Ranges.{value_of, ends_of, judged, range_of}
use Rattle.text.specs.Printing.{value_text, whole, range_text}
use Rattle.text.proofs.Spans.{Sound, range_star, range_word}
use Rattle.text.proofs.Appends.{range_whole, range_single, range_double}
use Rattle.listing.proofs.Cuts.{Without, pieces_first, pieces_one}
use Rattle.listing.proofs.Numbered.{Between, wider, number_back, address_back, decimal_bytes, address_bytes, address_short, address_some}

abbrev pub top : Field → ℕ
top field = get_or tops (place field) 0

-- a word of these bytes, neither empty nor longer than so many
pub record Spelled (low most : ℕ) (w : List ℕ) : Type 0 where
  pub bytes : Between low 57 w
  pub some : 0 < length w
  pub short : length w ≤ most

decimal_word : (n : ℕ) → n ≤ 65535 → Spelled 46 15 (decimal n)
decimal_word n h = record {
  bytes = wider 48 57 46 57 (decimal n) (omega arith) (omega arith) (decimal_bytes n (omega arith));
  some = decimal_nonempty n (omega arith);
  short = omega (arith, length-decimal-le 5 n (omega arith) (omega arith) (omega arith));
}

address_word : (n : ℕ) → Spelled 46 15 (value_text Source n)
address_word n = record { bytes = address_bytes 3 n; some = address_some 3 n; short = address_short 3 n }

value_word : (field : Field) (n : ℕ) → n ≤ top field → Spelled 46 15 (value_text field n)
value_word Source n h = address_word n
value_word SourcePort n h = decimal_word n h
value_word Destination n h = address_word n
value_word DestinationPort n h = decimal_word n h
value_word Protocol n h = decimal_word n (omega arith)

value_back : (field : Field) (n : ℕ) → n ≤ top field → value_of field (value_text field n) ≡ Some n
value_back Source n h = address_back n h
value_back SourcePort n h = number_back 65535 n h (omega arith)
value_back Destination n h = address_back n h
value_back DestinationPort n h = number_back 65535 n h (omega arith)
value_back Protocol n h = number_back 255 n h (omega arith)

no_dash : (w : List ℕ) → Between 46 57 w → Without 45 w
no_dash w = All-weaker _ _ (λ b p e. omega (arith, p.0)) w

no_star : (w : List ℕ) → Between 45 57 w → w ≡ 42 ∷ [] → ⊥
no_star w bs e = omega (arith, (subst (Between 45 57) e bs).0.0)

module _ (field : Field) (r : Range ℕ) (sound : Sound (top field) r) where
  abbrev first : List ℕ
  first = value_text field r.low

  abbrev second : List ℕ
  second = value_text field r.high

  first_word : Spelled 46 15 first
  first_word = value_word field r.low sound.low_within

  second_word : Spelled 46 15 second
  second_word = value_word field r.high sound.high_within

  both_bytes : Between 45 57 (first ++ (45 ∷ second))
  both_bytes =
      All-append _ first (45 ∷ second) (wider 46 57 45 57 first (omega arith) (omega arith) first_word.bytes)
      ((omega arith, omega arith), wider 46 57 45 57 second (omega arith) (omega arith) second_word.bytes)

  judged_back : (column : ℕ) → judged column (Some r) ≡ Ok r
  judged_back column = cond-false (reversed r) (Err (Reversed column)) (Ok r) sound.forward

  as_star : (column : ℕ) → whole field r ≡ true → range_of field column (range_text field r) ≡ Ok r
  as_star column is =
      let ends = and_parts (eqb r.low 0) (eqb r.high (top field)) is in
      range_star field column (range_text field r) (range_whole field r (sym is))
      ∙ ap₂ (λ (l h : ℕ). Ok (record { low = l; high = h })) (sym (eqb-true r.low 0 ends.0)) (sym (eqb-true r.high (top field) ends.1))

  as_one : (column : ℕ) → whole field r ≡ false → r.low ≡ r.high → range_of field column (range_text field r) ≡ Ok r
  as_one column is same =
      ap (range_of field column) (range_single field r (sym is) same)
      ∙ range_word field column first (no_star first (wider 46 57 45 57 first (omega arith) (omega arith) first_word.bytes))
      ∙ ap (λ ps. judged column (ends_of (value_of field) ps)) (pieces_one 45 first (no_dash first first_word.bytes))
      ∙ ap (λ (v : Option ℕ). judged column (elim v [ None ↦ None | Some n ↦ Some (record { low = n; high = n }) ])) (value_back field r.low sound.low_within)
      ∙ ap (λ h. judged column (Some (record { low = r.low; high = h }))) same
      ∙ judged_back column

  as_two : (column : ℕ) → whole field r ≡ false → (r.low ≡ r.high → ⊥) → range_of field column (range_text field r) ≡ Ok r
  as_two column is other =
      ap (range_of field column) (range_double field r (sym is) other)
      ∙ range_word field column (first ++ (45 ∷ second)) (no_star (first ++ (45 ∷ second)) both_bytes)
      ∙ ap (λ ps. judged column (ends_of (value_of field) ps))
      (pieces_first 45 first second (no_dash first first_word.bytes) ∙ ap (λ ps. first ∷ ps) (pieces_one 45 second (no_dash second second_word.bytes)))
      ∙ ap₂ (λ (v w : Option ℕ). judged column (elim v [ None ↦ None | Some n ↦ elim w [ None ↦ None | Some m ↦ Some (record { low = n; high = m }) ] ]))
      (value_back field r.low sound.low_within) (value_back field r.high sound.high_within)
      ∙ judged_back column

  pub range_back : (column : ℕ) → range_of field column (range_text field r) ≡ Ok r
  range_back column = elim (cases_Bool (whole field r)) [
    | inl is ↦ as_star column is
    | inr is ↦ elim (cases_Bool (eqb r.low r.high)) [
      | inl same ↦ as_one column is (eqb-true r.low r.high same)
      | inr other ↦ as_two column is (eqb-false r.low r.high other)
    ]
  ]

  pub range_bytes : Spelled 42 31 (range_text field r)
  range_bytes = elim (cases_Bool (whole field r)) [
    | inl is ↦ subst (Spelled 42 31) (sym (range_whole field r (sym is))) (record { bytes = ((omega arith, omega arith), tt); some = omega arith; short = omega arith })
    | inr is ↦ elim (cases_Bool (eqb r.low r.high)) [
      | inl same ↦ subst (Spelled 42 31) (sym (range_single field r (sym is) (eqb-true r.low r.high same)))
          (record { bytes = wider 46 57 42 57 first (omega arith) (omega arith) first_word.bytes; some = first_word.some; short = omega (arith, first_word.short) })
      | inr other ↦ subst (Spelled 42 31) (sym (range_double field r (sym is) (eqb-false r.low r.high other)))
          (record { bytes = wider 45 57 42 57 _ (omega arith) (omega arith) both_bytes; some = omega (arith, length-append first (45 ∷ second)); short = omega (arith, length-append first (45 ∷ second), first_word.short, second_word.short) })
    ]
  ]

-- One field more of a region that is read field by field. Assumes nothing.
use Rattle.std.proofs.Common.{◌≡◌, ℕ, zero, suc, ◌+◌, ◌<◌, ◌≤◌, List, [], ◌∷◌, ◌++◌, length, get_or, take, drop, set, Ok, Err, Result, sym, refl, ap, ◌∙◌, arith}
use Rattle.std.proofs.lemmas.List.{append_assoc, drop_all, take_more_set}
use Rattle.packet.specs.declared.field.Field.{Field}
use Rattle.packet.specs.declared.field.Field.TheVariants.{Source, SourcePort, Destination, DestinationPort, Protocol}
use Rattle.packet.specs.declared.range.Range.{Range}
use Rattle.packet.specs.Packets.{tops, place}
use Rattle.packet.specs.Regions.{clamped}
use Rattle.text.specs.declared.faults.WordFault.{WordFault}
use Rattle.text.specs.declared.faults.LineFault.{LineFault}
use Rattle.text.specs.declared.faults.LineFault.TheVariants.{Word, Words}
use Rattle.text.specs.Steps.{then, carried}
use Rattle.text.specs.Ranges.{range_of}
use Rattle.text.specs.Fields.{fields, ranges_from}
use Rattle.text.proofs.Spans.{Sound, clamped_same}

-- ranges before those that are read
abbrev pub before : List (Range ℕ) → Result (List (Range ℕ)) LineFault → Result (List (Range ℕ)) LineFault
before rs (Ok more) = Ok (rs ++ more)
before rs (Err fault) = Err fault

before_more : (rs : List (Range ℕ)) (r : Range ℕ) (read : Result (List (Range ℕ)) LineFault)
    → before rs (then read (λ ranges. Ok (r ∷ ranges))) ≡ before (rs ++ r ∷ []) read
before_more rs r (Err fault) = refl
before_more rs r (Ok ranges) = ap Ok (sym (append_assoc rs (r ∷ []) ranges))

-- what is read from a range on
abbrev after_range : Result (Range ℕ) WordFault → List Field → ℕ → List (List ℕ) → Result (List (Range ℕ)) LineFault
after_range read more column ws = then (carried Word read) (λ range. then (ranges_from more column ws) (λ ranges. Ok (range ∷ ranges)))

field_here : (field : Field) → drop (place field) fields ≡ field ∷ drop (place field + 1) fields
field_here Source = refl
field_here SourcePort = refl
field_here Destination = refl
field_here DestinationPort = refl
field_here Protocol = refl

-- the field that stands at a place
pub field_nth : (i : ℕ) → i < 5 → place (get_or fields i Source) ≡ i
field_nth zero h = refl
field_nth (suc zero) h = refl
field_nth (suc (suc zero)) h = refl
field_nth (suc (suc (suc zero))) h = refl
field_nth (suc (suc (suc (suc zero)))) h = refl
field_nth (suc (suc (suc (suc (suc i))))) h = absurd (omega arith)

pub field_within : (field : Field) → place field < 5
field_within Source = omega arith
field_within SourcePort = omega arith
field_within Destination = omega arith
field_within DestinationPort = omega arith
field_within Protocol = omega arith

pub field_at : (field : Field) (i : ℕ) → place field ≡ i → drop i fields ≡ field ∷ drop (i + 1) fields
field_at field i is = ap (λ k. drop k fields) (sym is) ∙ field_here field ∙ ap (λ k. field ∷ drop (k + 1) fields) is

module _ (field : Field) (i : ℕ) (is : place field ≡ i) (column : ℕ) where
  here : drop i fields ≡ field ∷ drop (i + 1) fields
  here = field_at field i is

  pub ranges_few : ranges_from (drop i fields) column [] ≡ Err (Words column)
  unfolding ranges_from
  ranges_few = ap (λ fs. ranges_from fs column []) here

  opened : (w : List ℕ) (ws : List (List ℕ)) → ranges_from (drop i fields) column (w ∷ ws) ≡ after_range (range_of field column w) (drop (i + 1) fields) (column + length w + 1) ws
  unfolding ranges_from
  opened w ws = ap (λ fs. ranges_from fs column (w ∷ ws)) here

  pub ranges_fault : (w : List ℕ) (ws : List (List ℕ)) (fault : WordFault) → Err fault ≡ range_of field column w → ranges_from (drop i fields) column (w ∷ ws) ≡ Err (Word fault)
  ranges_fault w ws fault read = opened w ws ∙ ap (λ r. after_range r (drop (i + 1) fields) (column + length w + 1) ws) (sym read)

  pub ranges_more : (w : List ℕ) (ws : List (List ℕ)) (r : Range ℕ) (after : ℕ) (rs : List (Range ℕ)) → Ok r ≡ range_of field column w → after ≡ column + length w + 1
      → before rs (ranges_from (drop i fields) column (w ∷ ws)) ≡ before (rs ++ r ∷ []) (ranges_from (drop (i + 1) fields) after ws)
  ranges_more w ws r after rs read moved =
      ap (before rs) (opened w ws ∙ ap (λ x. after_range x (drop (i + 1) fields) (column + length w + 1) ws) (sym read))
      ∙ before_more rs r (ranges_from (drop (i + 1) fields) (column + length w + 1) ws)
      ∙ ap (λ n. before (rs ++ r ∷ []) (ranges_from (drop (i + 1) fields) n ws)) (sym moved)

pub ranges_end : (i column : ℕ) (ws : List (List ℕ)) → 5 ≤ i → ranges_from (drop i fields) column ws ≡ Ok []
unfolding ranges_from
ranges_end i column ws past = ap (λ fs. ranges_from fs column ws) (drop_all i fields past)

-- the ranges up to the field, once it has its range
pub placed : (field : Field) (i : ℕ) (rs qs : List (Range ℕ)) (r : Range ℕ) → place field ≡ i → length rs ≡ 5 → Sound (get_or tops (place field) 0) r
    → qs ≡ set rs (place field) (clamped (get_or tops (place field) 0) r) → take (i + 1) qs ≡ take i rs ++ r ∷ []
placed field i rs qs r is long sound e =
    let within : place field < length rs = omega (arith, field_within field) in
    ap (take (i + 1)) (e ∙ ap (set rs (place field)) (clamped_same field r sound))
    ∙ ap (λ k. take (k + 1) (set rs (place field) r)) (sym is) ∙ take_more_set rs (place field) r within
    ∙ ap (λ k. take k rs ++ r ∷ []) is

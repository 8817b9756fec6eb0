-- What the turns of the loop over the fields that are left do to the packet's values.
use Rattle.std.specs.Prelude.{ℕ, List, [], ◌∷◌, ◌≡◌, min, slice_index, slice_set}
use Rattle.std.proofs.Common.{refl, ap, ◌∙◌, ◌⊎◌, inl, inr}
use Rattle.std.specs.Borrow.{Bor}
use Rattle.packet.specs.Packets.{tops, place}
use Rattle.packet.specs.declared.field.Field.{Field}
use Rattle.packet.specs.declared.field.Field.TheVariants.{Source, SourcePort, Destination, DestinationPort, Protocol}
use Rattle.cases.specs.Words.{number_of, numbers}

abbrev pub filled : List ℕ → List Field → List (Bor (List ℕ)) → List ℕ
filled values [] words = values
filled values (field ∷ fields) [] = values
filled values (field ∷ fields) (word ∷ words) = filled (slice_set values (place field) (min (number_of word.now) (slice_index tops (place field)))) fields words

pub all_filled : (words : List (Bor (List ℕ))) → filled (0 ∷ 0 ∷ 0 ∷ 0 ∷ 0 ∷ []) (Source ∷ SourcePort ∷ Destination ∷ DestinationPort ∷ Protocol ∷ []) words ≡ numbers tops words
all_filled [] = refl
all_filled (a ∷ []) = refl
all_filled (a ∷ b ∷ []) = refl
all_filled (a ∷ b ∷ c ∷ []) = refl
all_filled (a ∷ b ∷ c ∷ d ∷ []) = refl
all_filled (a ∷ b ∷ c ∷ d ∷ e ∷ more) = refl

none_left : (values : List ℕ) (fields : List Field) → filled values fields [] ≡ values
none_left values [] = refl
none_left values (field ∷ fields) = refl

pub at_end : (values : List ℕ) (fields : List Field) (words : List (Bor (List ℕ))) → (fields ≡ []) ⊎ (words ≡ []) → filled values fields words ≡ values
at_end values fields words (inl none) = ap (λ f. filled values f words) none
at_end values fields words (inr none) = ap (filled values fields) none ∙ none_left values fields

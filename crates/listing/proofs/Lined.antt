-- Lines, written and read. Assumes nothing.
use Rattle.std.proofs.Common.{◌≡◌, ℕ, ◌+◌, ◌*◌, ◌≤◌, true, false, cond, not, ◌&&◌, eqb, leb, List, [], ◌∷◌, ◌++◌, length, Some, None, Ok, Option, Result, refl, ap, ◌∙◌, ap₂, append-nil, arith}
use Rattle.std.proofs.ByRecursion.{All-append, All-weaker}
use Rattle.std.proofs.lemmas.List.{length-append}
use Rattle.std.proofs.lemmas.Bool.{cond-true, cond-false, and_parts, and_from, or_parts, le-leb, leb-true, ne_eqb, not-true}
use Rattle.packet.specs.declared.field.Field.{Field}
use Rattle.packet.specs.declared.range.Range.{Range}
use Rattle.packet.specs.declared.region.Region.{Region}
use Rattle.packet.specs.Packets.{tops}
use Rattle.packet.specs.Regions.{ranges, Fit, reversed, any_reversed}
use Rattle.decision.specs.Kinds.{inside_word, first_word}
use Rattle.book.specs.declared.rule.Rule.{Rule}
use Rattle.text.specs.declared.faults.WordFault.{WordFault}
use Rattle.text.specs.declared.faults.LineFault.{LineFault}
use Rattle.text.specs.declared.faults.LetterFault.{LetterFault}
use Rattle.text.specs.declared.faults.LineFault.TheVariants.{Letter, Word}
use Rattle.text.specs.Steps.{then, carried}
use Rattle.text.specs.Pieces.{pieces}
use Rattle.text.specs.Letters.{is_letter, letters_from}
use Rattle.text.specs.Words.{words_from, words_of}
use Rattle.text.specs.Fields.{fields, ranges_from, region_of}
use Rattle.text.specs.Lines.{skipped, decision_of, rule_of, line_of}
use Rattle.text.specs.Printing.{range_text, ranges_text, line_text}
use Rattle.text.proofs.Spans.{Sound}
use Rattle.listing.proofs.Cuts.{Without, pieces_first, pieces_one}
use Rattle.listing.proofs.Numbered.{Between, wider}
use Rattle.listing.proofs.Ranged.{top, range_back, range_bytes}

-- each field has a range whose ends fit it and are in order
abbrev pub AllSound : List Field → List (Range ℕ) → Type 0
AllSound [] [] = Unit {0}
AllSound [] (r ∷ rs) = ⊥
AllSound (field ∷ more) [] = ⊥
AllSound (field ∷ more) (r ∷ rs) = Sound (top field) r × AllSound more rs

pub all_sound : (g : Region) → Fit tops (ranges g) → any_reversed (ranges g) ≡ false → AllSound fields (ranges g)
all_sound g fit forward =
    let source = or_parts (reversed g.source) _ forward in
    let source_port = or_parts (reversed g.source_port) _ source.1 in
    let destination = or_parts (reversed g.destination) _ source_port.1 in
    let destination_port = or_parts (reversed g.destination_port) _ destination.1 in
    let protocol = or_parts (reversed g.protocol) _ destination_port.1 in (
      record { low_within = fit.0; high_within = fit.1; forward = source.0 },
      (
        record { low_within = fit.2.0; high_within = fit.2.1; forward = source_port.0 },
        (
          record { low_within = fit.2.2.0; high_within = fit.2.2.1; forward = destination.0 },
          (
            record { low_within = fit.2.2.2.0; high_within = fit.2.2.2.1; forward = destination_port.0 },
            (record { low_within = fit.2.2.2.2.0; high_within = fit.2.2.2.2.1; forward = protocol.0 }, tt),
          ),
        ),
      ),
    )

-- the words of the ranges of these fields
abbrev words : List Field → List (Range ℕ) → List (List ℕ)
words [] rs = []
words (field ∷ more) [] = []
words (field ∷ more) (r ∷ rs) = range_text field r ∷ words more rs

no_space : (w : List ℕ) → Between 33 126 w → Without 32 w
no_space w = All-weaker _ _ (λ b p e. omega (arith, p.0)) w

range_inside : (field : Field) (r : Range ℕ) → Sound (top field) r → Between 33 126 (range_text field r)
range_inside field r sound = wider 42 57 33 126 (range_text field r) (omega arith) (omega arith) (range_bytes field r sound).bytes

line_pieces : (w : List ℕ) (fs : List Field) (rs : List (Range ℕ)) → Between 33 126 w → AllSound fs rs → pieces 32 (w ++ ranges_text fs rs) ≡ w ∷ words fs rs
unfolding ranges_text
line_pieces w [] [] inside sound = ap (pieces 32) (append-nil w) ∙ pieces_one 32 w (no_space w inside)
line_pieces w [] (r ∷ rs) inside sound = absurd sound
line_pieces w (field ∷ more) [] inside sound = absurd sound
line_pieces w (field ∷ more) (r ∷ rs) inside sound =
    pieces_first 32 w (range_text field r ++ ranges_text more rs) (no_space w inside)
    ∙ ap (λ ps. w ∷ ps) (line_pieces (range_text field r) more rs (range_inside field r sound.0) sound.1)

ranges_back : (fs : List Field) (rs : List (Range ℕ)) (column : ℕ) → AllSound fs rs → ranges_from fs column (words fs rs) ≡ Ok rs
unfolding ranges_from
ranges_back [] [] column sound = refl
ranges_back [] (r ∷ rs) column sound = absurd sound
ranges_back (field ∷ more) [] column sound = absurd sound
ranges_back (field ∷ more) (r ∷ rs) column sound =
    ap (λ (read : Result (Range ℕ) WordFault). then (carried Word read) (λ range. then (ranges_from more (column + length (range_text field r) + 1) (words more rs)) (λ ranges. Ok (range ∷ ranges))))
    (range_back field r sound.0 column)
    ∙ ap (λ (read : Result (List (Range ℕ)) LineFault). then read (λ ranges. Ok (r ∷ ranges))) (ranges_back more rs (column + length (range_text field r) + 1) sound.1)

words_back : (past column : ℕ) (fs : List Field) (rs : List (Range ℕ)) → AllSound fs rs → words_from past (length fs) column (words fs rs) ≡ Ok tt
unfolding words_from
words_back past column [] [] sound = refl
words_back past column [] (r ∷ rs) sound = absurd sound
words_back past column (field ∷ more) [] sound = absurd sound
words_back past column (field ∷ more) (r ∷ rs) sound =
    cond-false _ _ _ (ne_eqb (length (range_text field r)) 0 (λ e. omega (arith, (range_bytes field r sound.0).some)))
    ∙ words_back past (column + length (range_text field r) + 1) more rs sound.1

letters_back : (column : ℕ) (bs : List ℕ) → Between 32 126 bs → letters_from column bs ≡ Ok tt
unfolding letters_from
letters_back column [] all = refl
letters_back column (b ∷ bs) all =
    cond-true (is_letter b) _ _ (and_from (leb 32 b) (leb b 126) (le-leb 32 b all.0.0) (le-leb b 126 all.0.1)) ∙ letters_back (column + 1) bs all.1

ranges_letters : (fs : List Field) (rs : List (Range ℕ)) → AllSound fs rs → Between 32 126 (ranges_text fs rs)
unfolding ranges_text
ranges_letters [] [] sound = tt
ranges_letters [] (r ∷ rs) sound = absurd sound
ranges_letters (field ∷ more) [] sound = absurd sound
ranges_letters (field ∷ more) (r ∷ rs) sound = (
  (omega arith, omega arith),
  All-append _ (range_text field r) (ranges_text more rs)
      (wider 33 126 32 126 (range_text field r) (omega arith) (omega arith) (range_inside field r sound.0)) (ranges_letters more rs sound.1),
)

ranges_short : (fs : List Field) (rs : List (Range ℕ)) → AllSound fs rs → length (ranges_text fs rs) ≤ 32 * length fs
unfolding ranges_text
ranges_short [] [] sound = omega arith
ranges_short [] (r ∷ rs) sound = absurd sound
ranges_short (field ∷ more) [] sound = absurd sound
ranges_short (field ∷ more) (r ∷ rs) sound =
    omega (arith, length-append (range_text field r) (ranges_text more rs), (range_bytes field r sound.0).short, ranges_short more rs sound.1)

inside_bytes : (w : List ℕ) → inside_word w ≡ true → Between 33 126 w
inside_bytes [] h = tt
inside_bytes (b ∷ bs) h =
    let parts = and_parts (leb 33 b && leb b 126) (inside_word bs) h in
    let ends = and_parts (leb 33 b) (leb b 126) parts.0 in
    ((leb-true 33 b ends.0, leb-true b 126 ends.1), inside_bytes bs parts.1)

-- a first word stands inside a line, and neither leaves it empty nor makes it a comment
pub record First (w : List ℕ) : Type 0 where
  pub inside : Between 33 126 w
  pub some : eqb (length w) 0 ≡ false
  pub spoken : (rest : List ℕ) → skipped (w ++ rest) ≡ false

first_back : (w : List ℕ) → first_word w ≡ true → First w
first_back [] h = let z : ◌≡◌ {A = ℕ} 0 1 = cc in absurd (omega arith)
first_back (b ∷ bs) h =
    let parts = and_parts (not (eqb b 35)) (inside_word (b ∷ bs)) h in
    record { inside = inside_bytes (b ∷ bs) parts.1; some = ne_eqb (length (b ∷ bs)) 0 (λ e. omega arith); spoken = λ rest. not-true (eqb b 35) parts.0 }

module _ (read : List ℕ → Option ℕ) (spelling : ℕ → List ℕ) (rule : Rule) where
  abbrev line : List ℕ
  line = line_text spelling rule.decision (ranges rule.region)

  abbrev word : List ℕ
  word = spelling rule.decision

  module _ (stands : first_word word ≡ true) (sound : AllSound fields (ranges rule.region)) where
    first : First word
    first = first_back word stands

    pub line_letters : Between 32 126 line
    line_letters =
        All-append _ word (ranges_text fields (ranges rule.region)) (wider 33 126 32 126 word (omega arith) (omega arith) first.inside) (ranges_letters fields (ranges rule.region) sound)

    cut : pieces 32 line ≡ word ∷ words fields (ranges rule.region)
    cut = line_pieces word fields (ranges rule.region) first.inside sound

    six : words_of line ≡ Ok tt
    unfolding words_from
    six =
        ap (words_from (length line + 1) 6 1) cut
        ∙ cond-false (eqb (length word) 0) _ _ first.some
        ∙ words_back (length line + 1) (1 + length word + 1) fields (ranges rule.region) sound

    rule_back : read word ≡ Some rule.decision → rule_of read (pieces 32 line) ≡ Ok rule
    rule_back back =
        ap (rule_of read) cut
        ∙ ap₂ (λ (d : Option ℕ) (rs : Result (List (Range ℕ)) LineFault). then (decision_of d) (λ decision. then (then rs (λ ranges. Ok (region_of ranges))) (λ region. Ok (record { region = region; decision = decision }))))
        back (ranges_back fields (ranges rule.region) (1 + length word + 1) sound)

    pub line_back : read word ≡ Some rule.decision → line_of read line ≡ Ok (Some rule)
    line_back back =
        ap (λ (l : Result (Unit {0}) LetterFault). then (carried Letter l) (λ _. cond (skipped line) (Ok None) (then (words_of line) (λ _. then (rule_of read (pieces 32 line)) (λ rule. Ok (Some rule))))))
        (letters_back 1 line line_letters)
        ∙ cond-false (skipped line) _ _ (first.spoken (ranges_text fields (ranges rule.region)))
        ∙ ap₂ (λ (c : Result (Unit {0}) LineFault) (r : Result Rule LineFault). then c (λ _. then r (λ rule. Ok (Some rule)))) six (rule_back back)

    pub line_short : length word ≤ 64 → length line ≤ 224
    line_short short = omega (arith, length-append word (ranges_text fields (ranges rule.region)), ranges_short fields (ranges rule.region) sound)

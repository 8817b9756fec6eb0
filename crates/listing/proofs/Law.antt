-- A text of rules reads back. Assumes nothing.
use Rattle.std.proofs.Common.{◌≡◌, ℕ, ◌+◌, ◌*◌, ◌<◌, ◌≤◌, true, not, eqb, ltb, leb, List, [], ◌∷◌, ◌++◌, length, Some, Ok, Option, sym, refl, ap, ◌∙◌, append_assoc, append-nil, arith}
use Rattle.std.specs.List.{AllByRecursion}
use Rattle.std.proofs.ByRecursion.{All-weaker, All-get_or, all_from_every}
use Rattle.std.proofs.lemmas.List.{length-append}
use Rattle.std.proofs.lemmas.Bool.{cond-false, and_parts, le-ltb, lt-leb, ltb-true, not-true, eqb-false}
use Rattle.packet.specs.Packets.{tops}
use Rattle.packet.specs.Regions.{ranges, Fit}
use Rattle.decision.specs.Kinds.{Words, read_word}
use Rattle.book.specs.declared.rule.Rule.{Rule}
use Rattle.book.specs.Rules.{Forward, AllForward, Speaks, AllSpeak}
use Rattle.text.specs.Pieces.{pieces}
use Rattle.text.specs.Letters.{letters_from}
use Rattle.text.specs.Fields.{fields}
use Rattle.text.specs.Lines.{line_of}
use Rattle.text.specs.Printing.{line_text}
use Rattle.text.specs.Readings.{Reading, ended, added, add_line, lines_from}
use Rattle.text.proofs.Lined.{lines_more}
use Rattle.listing.specs.Listings.{rules_text, ReadsBack}
use Rattle.listing.proofs.Cuts.{Without, pieces_first}
use Rattle.listing.proofs.Lined.{AllSound, all_sound, line_letters, line_back, line_short}

-- the rule's ends fit their fields and are in order, and its decision is one of the kind and not the silent one
pub record Proper (count silent : ℕ) (rule : Rule) : Type 0 where
  pub fit : Fit tops (ranges rule.region)
  pub forward : Forward rule
  pub of_kind : Speaks count silent rule

pub all_proper : (count silent : ℕ) (rules : List Rule) → AllByRecursion (λ rule. Fit tops (ranges rule.region)) rules → AllForward rules → AllSpeak count silent rules → AllByRecursion (Proper count silent) rules
all_proper count silent rules fit forward speak =
    all_from_every (Proper count silent) rules (λ k d low within. record { fit = All-get_or _ rules k d within fit; forward = forward k d within; of_kind = speak k d within })

module _ (count silent : ℕ) (spelling : ℕ → List ℕ) (words : Words count silent spelling) where
  abbrev read : List ℕ → Option ℕ
  read = read_word count silent spelling

  abbrev line : Rule → List ℕ
  line rule = line_text spelling rule.decision (ranges rule.region)

  module _ (rule : Rule) (proper : Proper count silent rule) where
    parts : (ltb rule.decision count ≡ true) × (not (eqb rule.decision silent) ≡ true)
    parts = and_parts (ltb rule.decision count) (not (eqb rule.decision silent)) proper.of_kind

    of_kind : rule.decision < count
    of_kind = ltb-true rule.decision count parts.0

    sound : AllSound fields (ranges rule.region)
    sound = all_sound rule.region proper.fit proper.forward

    back : line_of read (line rule) ≡ Ok (Some rule)
    back = line_back read spelling rule (words.stands_first rule.decision of_kind) sound
        (words.read_back rule.decision of_kind (eqb-false rule.decision silent (not-true (eqb rule.decision silent) parts.1)))

    no_feed : Without 10 (line rule)
    no_feed = All-weaker _ _ (λ b p e. omega (arith, p.0)) (line rule) (line_letters read spelling rule (words.stands_first rule.decision of_kind) sound)

    short : length (line rule) ≤ 224
    short = line_short read spelling rule (words.stands_first rule.decision of_kind) sound (words.short rule.decision of_kind)

    -- a line of the text is taken where the book has room
    taken : (number : ℕ) (done : List Rule) → length done < 64 → add_line read number (line rule) done ≡ ended (Ok tt) (done ++ (rule ∷ []))
    taken number done room = ap (added number done) back ∙ cond-false (leb 64 (length done)) _ _ (lt-leb 64 (length done) room)

  -- behind the last line feed there is an empty line
  last_line : (number : ℕ) (done : List Rule) → lines_from read number (pieces 10 []) done ≡ ended (Ok tt) done
  unfolding pieces lines_from letters_from
  last_line number done = refl

  lines_back : (rules done : List Rule) (number : ℕ) → length done + length rules ≤ 64 → AllByRecursion (Proper count silent) rules
      → lines_from read number (pieces 10 (rules_text spelling rules)) done ≡ ended (Ok tt) (done ++ rules)
  lines_back [] done number few proper = last_line number done ∙ ap (ended (Ok tt)) (sym (append-nil done))
  lines_back (rule ∷ rules) done number few proper =
      let room : length done < 64 = omega arith in
      let added_it = taken rule proper.0 number done room in
      let fewer : length (done ++ (rule ∷ [])) + length rules ≤ 64 = omega (arith, length-append done (rule ∷ [])) in
      ap (λ ls. lines_from read number ls done) (pieces_first 10 (line rule) (rules_text spelling rules) (no_feed rule proper.0))
      ∙ lines_more read number (line rule) (pieces 10 (rules_text spelling rules)) done (done ++ (rule ∷ [])) (sym (ap (λ (s : Reading). s.answer) added_it)) (sym (ap (λ (s : Reading). s.rules) added_it))
      ∙ lines_back rules (done ++ (rule ∷ [])) (number + 1) fewer proper.1
      ∙ ap (ended (Ok tt)) (append_assoc done (rule ∷ []) rules)

  text_short : (rules : List Rule) → AllByRecursion (Proper count silent) rules → length (rules_text spelling rules) ≤ 225 * length rules
  text_short [] proper = omega arith
  text_short (rule ∷ rules) proper =
      omega (arith, length-append (line rule) (10 ∷ rules_text spelling rules), short rule proper.0, text_short rules proper.1)

  pub reads_back : (rules : List Rule) → length rules ≤ 64 → AllByRecursion (Proper count silent) rules → ReadsBack count silent spelling rules (rules_text spelling rules)
  reads_back rules few proper =
      cond-false (ltb 16384 (length (rules_text spelling rules))) _ _ (le-ltb 16384 (length (rules_text spelling rules)) (omega (arith, text_short rules proper)))
      ∙ lines_back rules [] 1 (omega arith) proper

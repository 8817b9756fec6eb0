-- What a rule that a line says is known to be: no range of it is reversed, and its decision is one of the kind and not silent, so
-- that only a full book refuses it. Assumes nothing.
use Rattle.std.proofs.Common.{◌≡◌, ℕ, zero, suc, ◌+◌, ◌<◌, Bool, true, false, cond, not, ◌&&◌, eqb, ltb, leb, List, [], ◌∷◌, ◌++◌, length, Some, None, Ok, Err, Option, Result, sym, refl, ap, ◌∙◌, subst, ap₂, arith}
use Rattle.std.specs.Str.{bytes_eq}
use Rattle.std.proofs.lemmas.List.{take_all, drop_all}
use Rattle.std.proofs.lemmas.Bool.{and_parts, or_parts, or_from, lt-ltb, le-ltb, and_from, not-true, not_from_true, not_from_false, cond-false}
use Rattle.packet.specs.declared.field.Field.{Field}
use Rattle.packet.specs.declared.range.Range.{Range}
use Rattle.packet.specs.Regions.{ranges, range_at, reversed, any_reversed}
use Rattle.decision.specs.Kinds.{read_word}
use Rattle.book.specs.declared.rule.Rule.{Rule}
use Rattle.book.specs.declared.refusal.Refusal.TheVariants.{Full}
use Rattle.book.specs.PlainList.{Step, taken, refused, speaks, add, with_rule}
use Rattle.text.specs.declared.faults.LineFault.TheVariants.{Letter, Word}
use Rattle.text.specs.declared.faults.ReadFault.{ReadFault}
use Rattle.text.specs.declared.faults.ReadFault.TheVariants.{Line, Full as FullBook}
use Rattle.text.specs.Pieces.{pieces}
use Rattle.text.specs.Letters.{letters_of}
use Rattle.text.specs.Words.{words_of}
use Rattle.text.specs.Steps.{then, carried}
use Rattle.text.specs.Ranges.{range_of}
use Rattle.text.specs.Fields.{ranges_from, region_of, region_from, fields}
use Rattle.text.specs.Lines.{skipped, decision_of, rule_of, line_of}
use Rattle.text.specs.Readings.{Reading, ended, added, add_line}
use Rattle.text.proofs.Spans.{range_sound}

-- what was read before a step that is taken
then_ok : {A B E : Type 0} (r : Result A E) (f : A → Result B E) (y : B) → Ok y ≡ then r f → (x : A) × (Ok x ≡ r) × (Ok y ≡ f x)
then_ok (Ok x) f y e = (x, refl, e)
then_ok (Err fault) f y e = let z : ◌≡◌ {A = ℕ} 0 1 = cc in absurd (omega arith)

carried_ok : {A E F : Type 0} (up : E → F) (r : Result A E) (x : A) → Ok x ≡ carried up r → Ok x ≡ r
carried_ok up (Ok y) x e = let same : x ≡ y = cc in ap Ok same
carried_ok up (Err fault) x e = let z : ◌≡◌ {A = ℕ} 0 1 = cc in absurd (omega arith)

-- the decision that a word is read as is below the count, and not silent
pub read_known : (n silent : ℕ) (spelling : ℕ → List ℕ) (w : List ℕ) (d : ℕ) → Some d ≡ read_word n silent spelling w → (d < n) × (eqb d silent ≡ false)
unfolding read_word
read_known zero silent spelling w d e = let z : ◌≡◌ {A = ℕ} 0 1 = cc in absurd (omega arith)
read_known (suc n) silent spelling w d e = at_word (not (eqb n silent) && bytes_eq (spelling n) w) refl e (read_known n silent spelling w d)
  where
    at_word : (b : Bool) → (not (eqb n silent) && bytes_eq (spelling n) w) ≡ b → Some d ≡ cond b (Some n) (read_word n silent spelling w)
        → (Some d ≡ read_word n silent spelling w → (d < n) × (eqb d silent ≡ false)) → (d < suc n) × (eqb d silent ≡ false)
    at_word true is e later =
        let same : n ≡ d = cc in
        (omega arith, subst (λ k. eqb k silent ≡ false) same (not-true (eqb n silent) (and_parts (not (eqb n silent)) (bytes_eq (spelling n) w) is).0))
    at_word false is e later = let known = later e in (omega (arith, known.0), known.1)

-- no range that words write is reversed
ranges_forward : (fs : List Field) (column : ℕ) (ws : List (List ℕ)) (rs : List (Range ℕ)) → Ok rs ≡ ranges_from fs column ws → any_reversed rs ≡ false
unfolding ranges_from
ranges_forward [] column ws rs e = let none : [] ≡ rs = cc in subst (λ qs. any_reversed qs ≡ false) none refl
ranges_forward (f ∷ fs) column [] rs e = let z : ◌≡◌ {A = ℕ} 0 1 = cc in absurd (omega arith)
ranges_forward (f ∷ fs) column (w ∷ ws) rs e =
    let first = then_ok (carried Word (range_of f column w)) (λ range. then (ranges_from fs (column + length w + 1) ws) (λ more. Ok (range ∷ more))) rs e in
    let later = then_ok (ranges_from fs (column + length w + 1) ws) (λ more. Ok (first.0 ∷ more)) rs first.2 in
    let here : reversed first.0 ≡ false = (range_sound f column w first.0 (carried_ok Word (range_of f column w) first.0 first.1)).forward in
    let all : first.0 ∷ later.0 ≡ rs = (let last = later.2 in cc) in
    subst (λ qs. any_reversed qs ≡ false) all (or_from (reversed first.0) (any_reversed later.0) here (ranges_forward fs (column + length w + 1) ws later.0 later.1))

forward_at : (rs : List (Range ℕ)) (k : ℕ) → any_reversed rs ≡ false → reversed (range_at rs k) ≡ false
forward_at [] k e = refl
forward_at (r ∷ rs) zero e = (or_parts (reversed r) (any_reversed rs) e).0
forward_at (r ∷ rs) (suc k) e = forward_at rs k (or_parts (reversed r) (any_reversed rs) e).1

region_forward : (rs : List (Range ℕ)) → any_reversed rs ≡ false → any_reversed (ranges (region_of rs)) ≡ false
region_forward rs e =
    or_from _ _ (forward_at rs 0 e) (or_from _ _ (forward_at rs 1 e) (or_from _ _ (forward_at rs 2 e) (or_from _ _ (forward_at rs 3 e) (or_from _ _ (forward_at rs 4 e) refl))))

-- a rule that a book takes while it has room
pub record Fit (read : List ℕ → Option ℕ) (rule : Rule) : Type 0 where
  pub forward : any_reversed (ranges rule.region) ≡ false
  pub word : List ℕ
  pub spoken : Some rule.decision ≡ read word

rule_fit : (read : List ℕ → Option ℕ) (ws : List (List ℕ)) (rule : Rule) → Ok rule ≡ rule_of read ws → Fit read rule
rule_fit read [] rule e = let z : ◌≡◌ {A = ℕ} 0 1 = cc in absurd (omega arith)
rule_fit read (w ∷ ws) rule e =
    let decision = then_ok (decision_of (read w)) (λ d. then (region_from (1 + length w + 1) ws) (λ region. Ok (record { region = region; decision = d }))) rule e in
    let region = then_ok (region_from (1 + length w + 1) ws) (λ region. Ok (record { region = region; decision = decision.0 })) rule decision.2 in
    let rs = then_ok (ranges_from fields (1 + length w + 1) ws) (λ ranges. Ok (region_of ranges)) region.0 region.1 in
    let same : record { region = region.0; decision = decision.0 } ≡ rule = (let last = region.2 in cc) in
    let where_from : region_of rs.0 ≡ region.0 = (let last = rs.2 in cc) in
    subst (Fit read) same (record {
      forward = subst (λ g. any_reversed (ranges g) ≡ false) where_from (region_forward rs.0 (ranges_forward fields (1 + length w + 1) ws rs.0 rs.1));
      word = w;
      spoken = at_decision (read w) decision.0 decision.1;
    })
  where
    at_decision : (r : Option ℕ) (d : ℕ) → Ok d ≡ decision_of r → Some d ≡ r
    at_decision None d e = let z : ◌≡◌ {A = ℕ} 0 1 = cc in absurd (omega arith)
    at_decision (Some x) d e = let same : d ≡ x = cc in ap Some same

pub line_fit : (read : List ℕ → Option ℕ) (line : List ℕ) (rule : Rule) → Ok (Some rule) ≡ line_of read line → Fit read rule
line_fit read line rule e =
    let letters = then_ok (carried Letter (letters_of line)) (λ _. cond (skipped line) (Ok None) (then (words_of line) (λ _. then (rule_of read (pieces 32 line)) (λ said. Ok (Some said))))) (Some rule) e in
    at_skipped (skipped line) letters.2
  where
    at_skipped : (b : Bool) → Ok (Some rule) ≡ cond b (Ok None) (then (words_of line) (λ _. then (rule_of read (pieces 32 line)) (λ said. Ok (Some said)))) → Fit read rule
    at_skipped true e = let z : ◌≡◌ {A = ℕ} 0 1 = cc in absurd (omega arith)
    at_skipped false e =
        let words = then_ok (words_of line) (λ _. then (rule_of read (pieces 32 line)) (λ said. Ok (Some said))) (Some rule) e in
        let said = then_ok (rule_of read (pieces 32 line)) (λ said. Ok (Some said)) (Some rule) words.2 in
        let same : said.0 ≡ rule = (let last = said.2 in cc) in
        rule_fit read (pieces 32 line) rule (subst (λ x. Ok x ≡ rule_of read (pieces 32 line)) same said.1)

module _ (n silent : ℕ) (spelling : ℕ → List ℕ) (number : ℕ) (line : List ℕ) (rules : List Rule) (rule : Rule) (at : ℕ) where
  -- the rule goes behind the last one, unless the book is full
  plain_add : Ok (Some rule) ≡ line_of (read_word n silent spelling) line → at ≡ length rules → add n silent rules at rule ≡ cond (leb 64 (length rules)) (refused Full rules) (taken tt (rules ++ (rule ∷ [])))
  plain_add says end =
      let fit = line_fit (read_word n silent spelling) line rule says in
      let known = read_known n silent spelling fit.word rule.decision fit.spoken in
      let spoken : not (speaks n silent rule.decision) ≡ false =
      not_from_true (speaks n silent rule.decision) (and_from (ltb rule.decision n) (not (eqb rule.decision silent)) (lt-ltb rule.decision n known.0) (not_from_false (eqb rule.decision silent) known.1)) in
      let last : with_rule rules at rule ≡ rules ++ (rule ∷ []) =
      ap₂ (λ (xs ys : List Rule). xs ++ (rule ∷ ys)) (take_all at rules (omega arith)) (drop_all at rules (omega arith)) in
      ap (cond (leb 64 (length rules)) (refused Full rules))
      (cond-false (ltb (length rules) at) _ _ (le-ltb (length rules) at (omega arith)) ∙ cond-false (any_reversed (ranges rule.region)) _ _ fit.forward
      ∙ cond-false (not (speaks n silent rule.decision)) _ _ spoken ∙ ap (taken tt) last)

  abbrev step : Step (Unit {0})
  step = add n silent rules at rule

  abbrev line_step : Reading
  line_step = add_line (read_word n silent spelling) number line rules

  says_so : Ok (Some rule) ≡ line_of (read_word n silent spelling) line → line_step ≡ cond (leb 64 (length rules)) (ended (Err (FullBook number)) rules) (ended (Ok tt) (rules ++ (rule ∷ [])))
  says_so says = ap (added number rules) (sym says)

  -- a line's rule is refused as the book refuses it, and else added
  pub add_said : ◌≡◌ {A = Result (Option Rule) ReadFault} (Ok (Some rule)) (carried (Line number) (line_of (read_word n silent spelling) line)) → at ≡ length rules
      → (line_step.answer ≡ carried (λ _. FullBook number) step.answer) × (line_step.rules ≡ step.rules)
  add_said e end = let says = carried_ok (Line number) _ _ e in at_room (leb 64 (length rules)) (plain_add says end) (says_so says)
    where
      at_room : (b : Bool) → step ≡ cond b (refused Full rules) (taken tt (rules ++ (rule ∷ []))) → line_step ≡ cond b (ended (Err (FullBook number)) rules) (ended (Ok tt) (rules ++ (rule ∷ [])))
          → (line_step.answer ≡ carried (λ _. FullBook number) step.answer) × (line_step.rules ≡ step.rules)
      at_room true e f = (ap (λ (s : Reading). s.answer) f ∙ sym (ap (λ (s : Step (Unit {0})). carried (λ _. FullBook number) s.answer) e), ap (λ (s : Reading). s.rules) f ∙ sym (ap (λ (s : Step (Unit {0})). s.rules) e))
      at_room false e f = (ap (λ (s : Reading). s.answer) f ∙ sym (ap (λ (s : Step (Unit {0})). carried (λ _. FullBook number) s.answer) e), ap (λ (s : Reading). s.rules) f ∙ sym (ap (λ (s : Step (Unit {0})). s.rules) e))

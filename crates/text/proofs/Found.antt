-- The line that decides, and the rules that are read. Assumes nothing.
use Rattle.std.proofs.Common.{◌≡◌, ℕ, suc, ◌+◌, ◌<◌, ◌≤◌, Bool, true, false, cond, eqb, ltb, leb, ◌⊎◌, List, [], ◌∷◌, ◌++◌, length, take, drop, Some, None, Ok, Err, Option, Result, sym, refl, ap, ◌∙◌, subst, inl, inr, arith, Bor}
use Rattle.std.proofs.lemmas.List.{drop-drop, length-drop, length_push}
use Rattle.std.proofs.lemmas.Bool.{lt-ltb, cond-true, cond-false}
use Rattle.packet.specs.Regions.{ranges, holds}
use Rattle.decision.specs.Kinds.{read_word}
use Rattle.book.specs.declared.rule.Rule.{Rule}
use Rattle.book.specs.Deciding.{first, meant}
use Rattle.text.specs.declared.faults.LineFault.{LineFault}
use Rattle.text.specs.declared.faults.ReadFault.{ReadFault}
use Rattle.text.specs.declared.faults.ReadFault.TheVariants.{Line, Full, Long}
use Rattle.text.specs.Pieces.{pieces, longer}
use Rattle.text.specs.Lines.{line_of}
use Rattle.text.specs.Readings.{Reading, ended, added, go_on, lines_from, read_of}
use Rattle.text.specs.DecidingLines.{counted, said_holds, Place, first_line, LineAt, first_rule, Says, Decides}
use Rattle.text.proofs.Said.{read_known, line_fit}

-- the first piece begins the text, and the others are those behind its separator, if there is one
abbrev Heads : ℕ → List ℕ → List (List ℕ) → Type 0
Heads sep t [] = ⊥
Heads sep t (l ∷ ls) = (l ≡ take (length l) t) × (length l ≤ length t) × ((ls ≡ []) ⊎ ((length l < length t) × (ls ≡ pieces sep (drop (length l + 1) t))))

pieces_heads : (sep : ℕ) (t : List ℕ) → Heads sep t (pieces sep t)
unfolding pieces
pieces_heads sep [] = (refl, omega arith, inl refl)
pieces_heads sep (b ∷ bs) = at_byte (eqb b sep) (pieces sep bs) refl (pieces_heads sep bs)
  where
    at_byte : (x : Bool) (ps : List (List ℕ)) → ps ≡ pieces sep bs → Heads sep bs ps → Heads sep (b ∷ bs) (cond x ([] ∷ ps) (longer b ps))
    at_byte true ps is h = (refl, omega arith, inr (omega arith, is))
    at_byte false [] is h = h
    at_byte false (p ∷ ps) is h = (
      ap (λ xs. b ∷ xs) h.0,
      omega (arith, h.1),
      elim h.2 [
        | inl none ↦ inl none
        | inr more ↦ inr (omega (arith, more.0), more.1 ∙ ap (λ n. pieces sep (drop n (b ∷ bs))) (let e : suc (length p + 1) ≡ length (b ∷ p) + 1 = omega arith in e))
      ],
    )

-- these are the lines of a text from a byte on, or there are none
abbrev pub Cut : List ℕ → ℕ → List (List ℕ) → Type 0
Cut text start [] = Unit {0}
Cut text start (l ∷ ls) = (start ≤ length text) × (l ∷ ls ≡ pieces 10 (drop start text))

module _ (text : List ℕ) (start : ℕ) (l : List ℕ) (ls : List (List ℕ)) (cut : Cut text start (l ∷ ls)) where
  heads : Heads 10 (drop start text) (l ∷ ls)
  heads = subst (Heads 10 (drop start text)) (sym cut.1) (pieces_heads 10 (drop start text))

  pub cut_bytes : l ≡ take (length l) (drop start text)
  cut_bytes = heads.0

  pub cut_within : start + length l ≤ length text
  cut_within = omega (arith, heads.1, length-drop start text, cut.0)

  pub cut_more : Cut text (start + length l + 1) ls
  cut_more = at_rest ls heads.2
    where
      at_rest : (qs : List (List ℕ)) → (qs ≡ []) ⊎ ((length l < length (drop start text)) × (qs ≡ pieces 10 (drop (length l + 1) (drop start text)))) → Cut text (start + length l + 1) qs
      at_rest [] e = tt
      at_rest (q ∷ qs) (inl none) = let z : ◌≡◌ {A = ℕ} 0 1 = cc in absurd (omega arith)
      at_rest (q ∷ qs) (inr more) = (
        omega (arith, more.0, length-drop start text, cut.0),
        more.1 ∙ ap (pieces 10) (drop-drop (length l + 1) start text) ∙ ap (λ n. pieces 10 (drop n text)) (let e : start + (length l + 1) ≡ start + length l + 1 = omega arith in e),
      )

-- one line more of those looked at
module _ (read : List ℕ → Option ℕ) (p : List ℕ) (start : ℕ) (l : List ℕ) (ls : List (List ℕ)) where
  pub line_here : true ≡ said_holds p (line_of read l) → first_line read p start (l ∷ ls) ≡ Some (record { start = start; line = l })
  unfolding first_line
  line_here is = cond-true (said_holds p (line_of read l)) _ _ (sym is)

  pub line_later : false ≡ said_holds p (line_of read l) → first_line read p start (l ∷ ls) ≡ first_line read p (start + length l + 1) ls
  unfolding first_line
  line_later is = cond-false (said_holds p (line_of read l)) _ _ (sym is)

pub line_none : (read : List ℕ → Option ℕ) (p : List ℕ) (start : ℕ) → first_line read p start [] ≡ None
unfolding first_line
line_none read p start = refl

-- the rules so far matter to the answer only by how many they are
module _ (number : ℕ) (rules : List Rule) (count : ℕ) (same : length rules ≡ count) where
  pub counted_taken : (said : Result (Option Rule) LineFault) (after : ℕ) → Ok after ≡ counted number count said
      → (Ok tt ≡ (added number rules said).answer) × (length (added number rules said).rules ≡ after)
  counted_taken (Err fault) after is = let z : ◌≡◌ {A = ℕ} 0 1 = cc in absurd (omega arith)
  counted_taken (Ok None) after is = let e : count ≡ after = cc in (refl, same ∙ e)
  counted_taken (Ok (Some rule)) after is = at_room (leb 64 count) (leb 64 (length rules)) (ap (leb 64) same) is
    where
      at_room : (b d : Bool) → d ≡ b → Ok after ≡ cond b (Err (Full number)) (Ok (count + 1))
          → (Ok tt ≡ (cond d (ended (Err (Full number)) rules) (ended (Ok tt) (rules ++ (rule ∷ [])))).answer) × (length (cond d (ended (Err (Full number)) rules) (ended (Ok tt) (rules ++ (rule ∷ [])))).rules ≡ after)
      at_room true d e is = let z : ◌≡◌ {A = ℕ} 0 1 = cc in absurd (omega arith)
      at_room false true e is = let z : ◌≡◌ {A = ℕ} 0 1 = cc in absurd (omega arith)
      at_room false false e is = let last : count + 1 ≡ after = cc in (refl, length_push rules rule ∙ ap (λ n. n + 1) same ∙ last)

  pub counted_stop : (said : Result (Option Rule) LineFault) (fault : ReadFault) → Err fault ≡ counted number count said → Err fault ≡ (added number rules said).answer
  counted_stop (Err why) fault is = let e : fault ≡ Line number why = cc in ap Err e
  counted_stop (Ok None) fault is = let z : ◌≡◌ {A = ℕ} 0 1 = cc in absurd (omega arith)
  counted_stop (Ok (Some rule)) fault is = at_room (leb 64 count) (leb 64 (length rules)) (ap (leb 64) same) is
    where
      at_room : (b d : Bool) → d ≡ b → Err fault ≡ cond b (Err (Full number)) (Ok (count + 1)) → Err fault ≡ (cond d (ended (Err (Full number)) rules) (ended (Ok tt) (rules ++ (rule ∷ [])))).answer
      at_room true true e is = let same_fault : fault ≡ Full number = cc in ap Err same_fault
      at_room true false e is = let z : ◌≡◌ {A = ℕ} 0 1 = cc in absurd (omega arith)
      at_room false d e is = let z : ◌≡◌ {A = ℕ} 0 1 = cc in absurd (omega arith)

-- the first rule that holds a packet stays the first whatever rules come behind it
module _ (p : List ℕ) where
  first_kept : (rules more : List Rule) (rule : Rule) → first_rule rules p ≡ Some rule → first_rule (rules ++ more) p ≡ Some rule
  unfolding first_rule
  first_kept [] more rule is = let z : ◌≡◌ {A = ℕ} 0 1 = cc in absurd (omega arith)
  first_kept (r ∷ rs) more rule is = at_first (holds (ranges r.region) p) is (first_kept rs more rule)
    where
      at_first : (b : Bool) → cond b (Some r) (first_rule rs p) ≡ Some rule → (first_rule rs p ≡ Some rule → first_rule (rs ++ more) p ≡ Some rule) → cond b (Some r) (first_rule (rs ++ more) p) ≡ Some rule
      at_first true is later = is
      at_first false is later = later is

  first_behind : (rules : List Rule) (rule : Rule) → first_rule rules p ≡ None → first_rule (rules ++ (rule ∷ [])) p ≡ cond (holds (ranges rule.region) p) (Some rule) None
  unfolding first_rule
  first_behind [] rule is = refl
  first_behind (r ∷ rs) rule is = at_first (holds (ranges r.region) p) is (first_behind rs rule)
    where
      at_first : (b : Bool) → cond b (Some r) (first_rule rs p) ≡ None → (first_rule rs p ≡ None → first_rule (rs ++ (rule ∷ [])) p ≡ cond (holds (ranges rule.region) p) (Some rule) None)
          → cond b (Some r) (first_rule (rs ++ (rule ∷ [])) p) ≡ cond (holds (ranges rule.region) p) (Some rule) None
      at_first true is later = let z : ◌≡◌ {A = ℕ} 0 1 = cc in absurd (omega arith)
      at_first false is later = later is

  -- what the rules decide is the decision of the first that holds the packet
  first_decides : (silent : ℕ) (rules : List Rule) → first silent rules p ≡ elim (first_rule rules p) [ None ↦ silent | Some rule ↦ rule.decision ]
  unfolding first first_rule
  first_decides silent [] = refl
  first_decides silent (r ∷ rs) = at_first (holds (ranges r.region) p) (first_decides silent rs)
    where
      at_first : (b : Bool) → first silent rs p ≡ elim (first_rule rs p) [ None ↦ silent | Some rule ↦ rule.decision ]
          → cond b r.decision (first silent rs p) ≡ elim (cond b (Some r) (first_rule rs p)) [ None ↦ silent | Some rule ↦ rule.decision ]
      at_first true later = refl
      at_first false later = later

-- the deciding line says the first of the rules that are read
module _ (read : List ℕ → Option ℕ) (p : List ℕ) where
  abbrev pub Outcome : Option Place → List Rule → Type 0
  Outcome None rules = first_rule rules p ≡ None
  Outcome (Some at) rules = (rule : Rule) × (line_of read at.line ≡ Ok (Some rule)) × (first_rule rules p ≡ Some rule)

  -- reading goes on behind the line of a number
  abbrev on : ℕ → List (List ℕ) → Reading → Reading
  on number ls step = go_on step.answer step.rules (lines_from read (number + 1) ls)

  lines_kept : (number : ℕ) (ls : List (List ℕ)) (rules : List Rule) (rule : Rule) → first_rule rules p ≡ Some rule → first_rule (lines_from read number ls rules).rules p ≡ Some rule
  unfolding lines_from
  lines_kept number [] rules rule is = is
  lines_kept number (l ∷ ls) rules rule is = at_line (line_of read l) (λ rs. lines_kept (number + 1) ls rs rule)
    where
      at_room : (b : Bool) (other : Rule) → ((rs : List Rule) → first_rule rs p ≡ Some rule → first_rule (lines_from read (number + 1) ls rs).rules p ≡ Some rule)
          → first_rule (on number ls (cond b (ended (Err (Full number)) rules) (ended (Ok tt) (rules ++ (other ∷ []))))).rules p ≡ Some rule
      at_room true other later = is
      at_room false other later = later (rules ++ (other ∷ [])) (first_kept p rules (other ∷ []) rule is)

      at_line : (said : Result (Option Rule) LineFault) → ((rs : List Rule) → first_rule rs p ≡ Some rule → first_rule (lines_from read (number + 1) ls rs).rules p ≡ Some rule)
          → first_rule (on number ls (added number rules said)).rules p ≡ Some rule
      at_line (Err fault) later = is
      at_line (Ok None) later = later rules is
      at_line (Ok (Some other)) later = at_room (leb 64 (length rules)) other later

  pub lines_decide : (number start : ℕ) (ls : List (List ℕ)) (rules : List Rule) → (lines_from read number ls rules).answer ≡ Ok tt → first_rule rules p ≡ None → Outcome (first_line read p start ls) (lines_from read number ls rules).rules
  unfolding lines_from first_line
  lines_decide number start [] rules well is = is
  lines_decide number start (l ∷ ls) rules well is = at_line (line_of read l) refl well (lines_decide (number + 1) (start + length l + 1) ls)
    where
      at_held : (b : Bool) (rule : Rule) → Ok (Some rule) ≡ line_of read l → first_rule (rules ++ (rule ∷ [])) p ≡ cond b (Some rule) None
          → (first_rule (rules ++ (rule ∷ [])) p ≡ None → Outcome (first_line read p (start + length l + 1) ls) (lines_from read (number + 1) ls (rules ++ (rule ∷ []))).rules)
          → Outcome (cond b (Some (record { start = start; line = l })) (first_line read p (start + length l + 1) ls)) (lines_from read (number + 1) ls (rules ++ (rule ∷ []))).rules
      at_held true rule says behind later = (rule, sym says, lines_kept (number + 1) ls (rules ++ (rule ∷ [])) rule behind)
      at_held false rule says behind later = later behind

      at_room : (b : Bool) (rule : Rule) → Ok (Some rule) ≡ line_of read l → (on number ls (cond b (ended (Err (Full number)) rules) (ended (Ok tt) (rules ++ (rule ∷ []))))).answer ≡ Ok tt
          → ((rs : List Rule) → (lines_from read (number + 1) ls rs).answer ≡ Ok tt → first_rule rs p ≡ None → Outcome (first_line read p (start + length l + 1) ls) (lines_from read (number + 1) ls rs).rules)
          → Outcome (cond (holds (ranges rule.region) p) (Some (record { start = start; line = l })) (first_line read p (start + length l + 1) ls)) (on number ls (cond b (ended (Err (Full number)) rules) (ended (Ok tt) (rules ++ (rule ∷ []))))).rules
      at_room true rule says well later = let z : ◌≡◌ {A = ℕ} 0 1 = cc in absurd (omega arith)
      at_room false rule says well later = at_held (holds (ranges rule.region) p) rule says (first_behind p rules rule is) (later (rules ++ (rule ∷ [])) well)

      at_line : (said : Result (Option Rule) LineFault) → said ≡ line_of read l → (on number ls (added number rules said)).answer ≡ Ok tt
          → ((rs : List Rule) → (lines_from read (number + 1) ls rs).answer ≡ Ok tt → first_rule rs p ≡ None → Outcome (first_line read p (start + length l + 1) ls) (lines_from read (number + 1) ls rs).rules)
          → Outcome (cond (said_holds p said) (Some (record { start = start; line = l })) (first_line read p (start + length l + 1) ls)) (on number ls (added number rules said)).rules
      at_line (Err fault) says well later = let z : ◌≡◌ {A = ℕ} 0 1 = cc in absurd (omega arith)
      at_line (Ok None) says well later = later rules well is
      at_line (Ok (Some rule)) says well later = at_room (leb 64 (length rules)) rule says well later

-- the decision of the rule that decides is one of the kind, and not silent
module _ (count silent : ℕ) (spelling : ℕ → List ℕ) (p : List ℕ) (rules : List Rule) where
  pub says_line : (at : Place) → Outcome (read_word count silent spelling) p (Some at) rules → Says count silent (read_word count silent spelling) p rules at.line
  says_line at out =
      let rule = out.0 in
      let fit = line_fit (read_word count silent spelling) at.line rule (sym out.1) in
      let known = read_known count silent spelling fit.word rule.decision fit.spoken in
      let is : first silent rules p ≡ rule.decision = first_decides p silent rules ∙ ap (λ (r : Option Rule). elim r [ None ↦ silent | Some rule ↦ rule.decision ]) out.2 in
      record {
        rule = rule;
        said = out.1;
        first = out.2;
        decides = ap (λ d. cond (ltb d count) d silent) is ∙ cond-true (ltb rule.decision count) _ _ (lt-ltb rule.decision count known.0);
        speaks = known.1;
      }

  pub says_nothing : first_rule rules p ≡ None → meant count silent rules p ≡ silent
  says_nothing none =
      let is : first silent rules p ≡ silent = first_decides p silent rules ∙ ap (λ (r : Option Rule). elim r [ None ↦ silent | Some rule ↦ rule.decision ]) none in
      ap (λ d. cond (ltb d count) d silent) is ∙ either (ltb silent count)
    where
      either : (b : Bool) → cond b silent silent ≡ silent
      either true = refl
      either false = refl

-- what is known of the line of a text that reads well
module _ (count silent : ℕ) (spelling : ℕ → List ℕ) (p : List ℕ) (text : Bor (List ℕ)) (well : Ok tt ≡ (read_of (read_word count silent spelling) text.now).answer) where
  abbrev read : List ℕ → Option ℕ
  read = read_word count silent spelling

  abbrev place : Option Place
  place = first_line read p 0 (pieces 10 text.now)

  outcome : Outcome read p place (read_of read text.now).rules
  unfolding first_rule
  outcome = at_length (ltb 16384 (length text.now)) well
    where
      at_length : (b : Bool) → Ok tt ≡ (cond b (ended (Err Long) []) (lines_from read 1 (pieces 10 text.now) [])).answer → Outcome read p place (cond b (ended (Err Long) []) (lines_from read 1 (pieces 10 text.now) [])).rules
      at_length true is = let z : ◌≡◌ {A = ℕ} 0 1 = cc in absurd (omega arith)
      at_length false is = lines_decide read p 1 0 (pieces 10 text.now) [] (sym is) refl

  pub line_decides : (r : Option (Bor (List ℕ))) → LineAt r text place → Decides count silent read p (read_of read text.now).rules (Ok r)
  line_decides None at =
      let none = subst (λ o. Outcome read p o (read_of read text.now).rules) at outcome in
      (none, says_nothing count silent spelling p (read_of read text.now).rules none)
  line_decides (Some line) at =
      let out = subst (λ o. Outcome read p o (read_of read text.now).rules) at.1 outcome in
      subst (Says count silent read p (read_of read text.now).rules) (sym at.2.bytes) (says_line count silent spelling p (read_of read text.now).rules at.0 out)

-- One line more of a text. Assumes nothing.
use Rattle.std.proofs.Common.{◌≡◌, ℕ, ◌+◌, List, [], ◌∷◌, Ok, Err, Option, sym, ap, ap₂, ◌∙◌}
use Rattle.book.specs.declared.rule.Rule.{Rule}
use Rattle.text.specs.declared.faults.ReadFault.{ReadFault}
use Rattle.text.specs.declared.lines.Line.{Line}
use Rattle.text.specs.declared.lines.Lines.{Lines}
use Rattle.text.specs.Pieces.{left, TakenFrom}
use Rattle.text.specs.Readings.{Reading, ended, add_line, go_on, lines_from}

module _ (read : List ℕ → Option ℕ) (number : ℕ) (l : List ℕ) (ls : List (List ℕ)) (rules after : List Rule) where
  pub lines_more : Ok tt ≡ (add_line read number l rules).answer → after ≡ (add_line read number l rules).rules → lines_from read number (l ∷ ls) rules ≡ lines_from read (number + 1) ls after
  unfolding lines_from
  lines_more taken leaves =
      ap (λ answer. go_on answer (add_line read number l rules).rules (lines_from read (number + 1) ls)) (sym taken) ∙ ap (lines_from read (number + 1) ls) (sym leaves)

  pub lines_stop : (fault : ReadFault) → Err fault ≡ (add_line read number l rules).answer → after ≡ (add_line read number l rules).rules → lines_from read number (l ∷ ls) rules ≡ ended (Err fault) after
  unfolding lines_from
  lines_stop fault stopped leaves =
      ap (λ answer. go_on answer (add_line read number l rules).rules (lines_from read (number + 1) ls)) (sym stopped) ∙ ap (ended (Err fault)) (sym leaves)

-- the lines that are still to be taken, added one by one
abbrev pub lines_left : (List ℕ → Option ℕ) → Lines → List Rule → Reading
lines_left read s rules = lines_from read (s.number + 1) (left s.pieces) rules

module _ (read : List ℕ → Option ℕ) (s t : Lines) (line : Line) (rules after : List Rule) (taken : TakenFrom s.pieces line.bytes t.pieces × (line.number ≡ s.number + 1) × (t.number ≡ s.number + 1)) where
  here : lines_left read s rules ≡ lines_from read line.number (line.bytes.now ∷ left t.pieces) rules
  here = ap₂ (λ n ls. lines_from read n ls rules) (sym taken.1) taken.0.first

  pub left_more : Ok tt ≡ (add_line read line.number line.bytes.now rules).answer → after ≡ (add_line read line.number line.bytes.now rules).rules → lines_left read s rules ≡ lines_left read t after
  left_more added leaves =
      here ∙ lines_more read line.number line.bytes.now (left t.pieces) rules after added leaves
      ∙ ap (λ n. lines_from read (n + 1) (left t.pieces) after) (taken.1 ∙ sym taken.2)

  pub left_stop : (fault : ReadFault) → Err fault ≡ (add_line read line.number line.bytes.now rules).answer → after ≡ (add_line read line.number line.bytes.now rules).rules → lines_left read s rules ≡ ended (Err fault) after
  left_stop fault stopped leaves = here ∙ lines_stop read line.number line.bytes.now (left t.pieces) rules after fault stopped leaves

pub left_end : (read : List ℕ → Option ℕ) (s : Lines) (rules : List Rule) → left s.pieces ≡ [] → lines_left read s rules ≡ ended (Ok tt) rules
unfolding lines_from
left_end read s rules none = ap (λ ls. lines_from read (s.number + 1) ls rules) none

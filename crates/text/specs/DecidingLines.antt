-- The line of a text that decides a packet. Cited by src/deciding.rt. Assumes nothing.
use Rattle.std.specs.Prelude.{◌≡◌, ℕ, ◌+◌, ◌≤◌, Bool, false, cond, List, [], ◌∷◌, length, take, drop, Some, None, Ok, Err, Option, Result, nat_eq, nat_le}
use Rattle.std.specs.Borrow.{Bor}
use Rattle.packet.specs.Regions.{ranges, holds}
use Rattle.book.specs.declared.rule.Rule.{Rule}
use Rattle.book.specs.Deciding.{meant}
use Rattle.text.specs.declared.faults.LineFault.{LineFault}
use Rattle.text.specs.declared.faults.ReadFault.{ReadFault}
use Rattle.text.specs.declared.faults.ReadFault.TheVariants.{Line, Full}
use Rattle.text.specs.Pieces.{pieces}
use Rattle.text.specs.Lines.{line_of}
use Rattle.text.specs.Steps.{then}
use Rattle.text.specs.Readings.{read_of}

-- how many rules there are with that of a line of this number, behind so many of the lines before it, which are at most 64
abbrev pub counted : ℕ → ℕ → Result (Option Rule) LineFault → Result ℕ ReadFault
counted number count (Err fault) = Err (Line number fault)
counted number count (Ok None) = Ok count
counted number count (Ok (Some rule)) = cond (nat_le 64 count) (Err (Full number)) (Ok (count + 1))

-- does a line say a rule that holds the packet?
abbrev pub said_holds : List ℕ → Result (Option Rule) LineFault → Bool
said_holds p (Err fault) = false
said_holds p (Ok None) = false
said_holds p (Ok (Some rule)) = holds (ranges rule.region) p

-- a line of a text: where it begins, and its bytes, without the line feed
pub record Place : Type 0 where
  pub start : ℕ
  pub line : List ℕ

-- the first line whose rule holds the packet; the first of these lines begins at start, and a line feed stands behind each
unfoldable pub first_line : (List ℕ → Option ℕ) → List ℕ → ℕ → List (List ℕ) → Option Place
first_line read p start [] = None
first_line read p start (l ∷ ls) = cond (said_holds p (line_of read l)) (Some (record { start = start; line = l })) (first_line read p (start + length l + 1) ls)

-- the deciding line of a text, if it has one; a text that does not read well has the fault of reading it
abbrev pub place_of : (List ℕ → Option ℕ) → List ℕ → List ℕ → Result (Option Place) ReadFault
place_of read p text = then (read_of read text).answer (λ _. Ok (first_line read p 0 (pieces 10 text)))

-- a slice is a line of a text, borrowed from it: the same memory, and not only the same bytes
pub record Lies (slice text : Bor (List ℕ)) (at : Place) : Type 0 where
  pub block : slice.ref_ptr.0 ≡ text.ref_ptr.0
  pub offset : slice.ref_ptr.1 ≡ text.ref_ptr.1 + at.start
  pub bytes : slice.now ≡ at.line
  pub of_text : slice.now ≡ take (length at.line) (drop at.start text.now)
  pub within : at.start + length at.line ≤ length text.now

-- a line, if there is one, is borrowed from the text at this place
abbrev pub LineAt : Option (Bor (List ℕ)) → Bor (List ℕ) → Option Place → Type 0
LineAt None text place = place ≡ None
LineAt (Some line) text place = (at : Place) × (place ≡ Some at) × Lies line text at

-- the same, or the fault of reading the text
abbrev pub Borrowed : Result (Option (Bor (List ℕ))) ReadFault → Bor (List ℕ) → Result (Option Place) ReadFault → Type 0
Borrowed (Err fault) text place = place ≡ Err fault
Borrowed (Ok None) text place = place ≡ Ok None
Borrowed (Ok (Some line)) text place = (at : Place) × (place ≡ Ok (Some at)) × Lies line text at

-- the first rule that holds the packet
unfoldable pub first_rule : List Rule → List ℕ → Option Rule
first_rule [] p = None
first_rule (rule ∷ rules) p = cond (holds (ranges rule.region) p) (Some rule) (first_rule rules p)

-- the line says the first of the rules that holds the packet, and its decision is what the rules decide, which is not silent
pub record Says (count silent : ℕ) (read : List ℕ → Option ℕ) (p : List ℕ) (rules : List Rule) (line : List ℕ) : Type 0 where
  pub rule : Rule
  pub said : line_of read line ≡ Ok (Some rule)
  pub first : first_rule rules p ≡ Some rule
  pub decides : meant count silent rules p ≡ rule.decision
  pub speaks : nat_eq rule.decision silent ≡ false

-- a deciding line says what the rules decide; where there is none, they are silent on the packet
abbrev pub Decides : ℕ → ℕ → (List ℕ → Option ℕ) → List ℕ → List Rule → Result (Option (Bor (List ℕ))) ReadFault → Type 0
Decides count silent read p rules (Err fault) = Unit {0}
Decides count silent read p rules (Ok None) = (first_rule rules p ≡ None) × (meant count silent rules p ≡ silent)
Decides count silent read p rules (Ok (Some line)) = Says count silent read p rules line.now

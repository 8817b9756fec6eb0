-- How far along one field a list of rules decides alike. Cited by src/book/source.rt. Assumes nothing.
use Rattle.std.specs.Prelude.{◌≡◌, ℕ, suc, ◌≤◌, min, Bool, true, false, cond, ◌&&◌, List, [], ◌∷◌, take, drop, ◌==◌, nat_le, slice_index}
use Rattle.packet.specs.declared.range.Range.{Range}
use Rattle.packet.specs.Packets.{tops}
use Rattle.packet.specs.Regions.{ranges, range_at, inside, holds, run_end}
use Rattle.book.specs.declared.rule.Rule.{Rule}

-- the lowest value of field f, from p's own up, that ends the rule's range or lies just below its start; the largest if there is none
abbrev pub run : ℕ → List ℕ → Rule → ℕ
run f p rule = run_end (slice_index tops f) (range_at (ranges rule.region) f) (slice_index p f)

-- the lowest of these values of several rules
unfoldable pub nearest : ℕ → List ℕ → List Rule → ℕ
nearest f p [] = slice_index tops f
nearest f p (rule ∷ rules) = min (run f p rule) (nearest f p rules)

-- does the rule hold p's values of the fields before f?
abbrev pub in_play : ℕ → List ℕ → Rule → Bool
in_play f p rule = holds (take f (ranges rule.region)) (take f p)

-- does the range hold every value up to the largest?
abbrev pub whole : ℕ → Range ℕ → Bool
whole top r = r.low == 0 && nat_le top r.high

-- does each range hold every value of its field?
abbrev pub all_whole : List ℕ → List (Range ℕ) → Bool
all_whole [] [] = true
all_whole [] (r ∷ rs) = false
all_whole (top ∷ rest) [] = false
all_whole (top ∷ rest) (r ∷ rs) = whole top r && all_whole rest rs

-- does the rule hold p's value of field f, and every value of the later fields?
abbrev pub settles : ℕ → List ℕ → Rule → Bool
settles f p rule = inside (range_at (ranges rule.region) f) (slice_index p f) && all_whole (drop (suc f) tops) (drop (suc f) (ranges rule.region))

-- the rules looked at: those in play, up to the first of them that settles
unfoldable pub looked_at : ℕ → List ℕ → List Rule → List Rule
looked_at f p [] = []
looked_at f p (rule ∷ rules) = cond (in_play f p rule) (rule ∷ cond (settles f p rule) [] (looked_at f p rules)) (looked_at f p rules)

-- the edge of a book: the nearest end of the rules looked at, which is not before the nearest of all
pub record Stops (rules : List Rule) (f : ℕ) (p : List ℕ) (r : ℕ) : Type 0 where
  pub value : r ≡ nearest f p (looked_at f p rules)
  pub not_before : nearest f p rules ≤ r

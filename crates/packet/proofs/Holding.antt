-- Whether ranges hold a packet, seen from one field. Assumes nothing.
use Rattle.std.proofs.Common.{◌≡◌, ℕ, zero, suc, ◌<◌, ◌≤◌, Bool, true, false, ◌&&◌, List, [], ◌∷◌, ◌++◌, length, take, drop, sym, refl, ap, ◌∙◌, arith}
use Rattle.std.proofs.Math.Bool.{and_assoc}
use Rattle.std.proofs.lemmas.Bool.Decides.{nat_tests}
use Rattle.packet.specs.declared.range.Range.{Range}
use Rattle.packet.specs.Regions.{inside, holds, range_at, run_end}

-- the ranges before field f hold the values before it, the range of f holds x, and the later ranges hold the rest
pub holds_at : (rs : List (Range ℕ)) (p : List ℕ) (f x : ℕ) (rest : List ℕ) → f < length rs → f ≤ length p
    → holds rs (take f p ++ (x ∷ rest)) ≡ (holds (take f rs) (take f p) && (inside (range_at rs f) x && holds (drop (suc f) rs) rest))
holds_at [] p f x rest h k = absurd (omega arith)
holds_at (r ∷ rs) p zero x rest h k = refl
holds_at (r ∷ rs) [] (suc f) x rest h k = absurd (omega arith)
holds_at (r ∷ rs) (v ∷ p) (suc f) x rest h k =
    ap (λ b. inside r v && b) (holds_at rs p f x rest (omega arith) (omega arith))
    ∙ sym (and_assoc (inside r v) (holds (take f rs) (take f p)) (inside (range_at rs f) x && holds (drop (suc f) rs) rest))

-- from v up to the end of its run, values lie inside as v does
pub run_alike : (top : ℕ) (r : Range ℕ) (v x : ℕ) → v ≤ x → x ≤ run_end top r v → inside r x ≡ inside r v
run_alike top r v x h k = grind (arith, nat_tests)

pub run_from : (top : ℕ) (r : Range ℕ) (v : ℕ) → v ≤ top → v ≤ run_end top r v
run_from top r v h = grind (arith, nat_tests)

pub run_most : (top : ℕ) (r : Range ℕ) (v : ℕ) → run_end top r v ≤ top
run_most top r v = grind (arith, nat_tests)

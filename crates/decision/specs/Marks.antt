-- Sets of marks as sums of log 1, meter 2, copy 4 and hold 8, and their words. Cited by src/marks.rt. Assumes nothing.
use Rattle.std.specs.Prelude.{ℕ, ◌/◌, ◌%◌, Bool, cond, not, ◌&&◌, List, [], ◌∷◌, ◌++◌, codes, ◌==◌, bit_and, bit_or, nat_lt}

-- is each mark of a in b?
abbrev pub contained : ℕ → ℕ → Bool
contained a b = bit_and a b == a

-- the marks of both, and the marks of either
abbrev pub common : ℕ → ℕ → ℕ
common = bit_and

abbrev pub either : ℕ → ℕ → ℕ
either = bit_or

-- a name, if the mark is set
abbrev pub named : ℕ → List ℕ → List (List ℕ)
named bit name = cond (bit == 1) (name ∷ []) []

-- the names of the marks in a set, in their order
abbrev pub names : ℕ → List (List ℕ)
names d = named (d % 2) (codes "log") ++ (named (d / 2 % 2) (codes "meter") ++ (named (d / 4 % 2) (codes "copy") ++ named (d / 8 % 2) (codes "hold")))

-- words joined by +
abbrev pub joined : List (List ℕ) → List ℕ
joined [] = []
joined (w ∷ []) = w
joined (w ∷ v ∷ ws) = w ++ (codes "+" ++ joined (v ∷ ws))

-- the word of a set is its names joined by +; the empty set, and a number that is no set, is none
abbrev pub mark_word : ℕ → List ℕ
mark_word d = cond (nat_lt d 16 && not (d == 0)) (joined (names d)) (codes "none")

-- The words of kind 1. Cited by src/verdicts.rt. Assumes nothing.
use Rattle.std.specs.Prelude.{ℕ, cond, List, codes, ◌==◌}

abbrev pub verdict_word : ℕ → List ℕ
verdict_word d = cond (d == 0) (codes "deny") (cond (d == 2) (codes "allow") (codes "none"))

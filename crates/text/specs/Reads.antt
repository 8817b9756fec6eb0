-- How a kind reads a word. Cited by src/line.rt and by the files that read lines. Assumes nothing.
use Rattle.std.specs.Prelude.{ℕ, List, Option}
use Rattle.decision.specs.declared.kind.Kind.{Ghosts}
use Rattle.decision.specs.Kinds.{read_word}

-- the decision other than the silent one that has this word, in a kind
abbrev pub reads : {S : Type 0} → Ghosts S → List ℕ → Option ℕ
reads k = read_word k.COUNT k.SILENT k.word

-- The rules of a book. Cited by src/book/edits.rt. Assumes nothing.
use Rattle.decision.specs.declared.kind.Kind.{Ghosts}
use Rattle.std.specs.Prelude.{List, vec_items}
use Rattle.book.specs.declared.rule.Rule.{Rule}
use Rattle.book.specs.declared.book.Book.{Book}

-- the rules of a book, in order
abbrev pub rules_of : {K : Type 0} {kind : Ghosts K} → Book K kind → List Rule
rules_of book = vec_items book.rules

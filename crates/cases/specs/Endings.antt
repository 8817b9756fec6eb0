-- How an answer that has several lines is told. Cited by src/answers.rt. Assumes nothing.
use Rattle.std.specs.Prelude.{ℕ, List, ◌≡◌, ◌++◌, Result, Ok, Err, String, codes, string_bytes}
use Rattle.std.specs.declared.alloc.Global.{Global}
use Rattle.report.specs.Outputs.{refusal_text}
use Rattle.report.specs.declared.unanswered.Unanswered.{Unanswered}
use Rattle.report.specs.declared.unanswered.Unanswered.TheVariants.{Refused, Memory}

-- the text is the answer's lines, or the line of its refusal, and the last line; want of memory has no text
abbrev pub Ends : Result (String Global) Unanswered → List ℕ → Type 0
Ends (Ok lines) text = text ≡ string_bytes lines ++ codes "end\n"
Ends (Err (Refused report)) text = text ≡ refusal_text report ++ codes "end\n"
Ends (Err Memory) text = ⊥

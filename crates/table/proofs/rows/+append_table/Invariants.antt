use Rattle.std.proofs.Common.{◌+◌, ◌-◌, ◌≤◌, ◌++◌, length, take, drop, vec_items, vec_len}
use Rattle.packet.specs.Packets.{values, tops}
use Rattle.table.specs.Rows.{view}
use Rattle.table.specs.Parts.{before}
use Rattle.table.proofs.Built.{Built}
use Rattle.table.proofs.rows.+append_table.Given as goal

abbrev pub decreases-append_table : goal.decreases-append_table
decreases-append_table g l = length l.fields.now

-- behind the rows that were there stand the rows of the values so far
abbrev pub invariant-loop-high : goal.invariant-loop-high
invariant-loop-high g l =
    Built (λ q. g.S.Source.meaning l.source (take (before l.fields) (values l.at) ++ q)) (drop (before l.fields + 1) tops) (before l.fields)
    (take l.base (view (vec_items l.initial.rows))) (view (vec_items l.rows)) l.start l.low l.high
    × (l.high ≤ l.top)
    × (l.base ≤ l.start)
    × (l.start ≤ vec_len l.rows)
    × (vec_len l.rows ≤ l.base + 1152)

abbrev pub decreases-loop-high : goal.decreases-loop-high
decreases-loop-high g l = l.top - l.high

use Rattle.std.proofs.Common.{◌≡◌, ℕ, ◌<◌, true, List, length, Option, sym, refl, ap, ◌∙◌, arith}
use Rattle.packet.specs.Packets.{tops}
use Rattle.theory.specs.Steps.{passes}
use Rattle.theory.specs.Neighbours.{starts_alike}
use Rattle.theory.proofs.Steps.{passes_nested, nested_some}
use Rattle.blocks.specs.Reading.{row_count, rows_in}
use Rattle.damage.specs.declared.damage.Damage.{Damage}
use Rattle.damage.specs.declared.damage.Damage.TheVariants.{NotReduced}
use Rattle.opening.specs.Answers.{unless}
use Rattle.opening.specs.Damages.{found, first, neighbour_damage}
use Rattle.opening.specs.Firsts.{first_found, first_step, some_found, none_found}
use Rattle.opening.proofs.Found.{long}
use Rattle.opening.proofs.alike.check_neighbours.Goals as goal

abbrev at : List ℕ → ℕ → Option Damage
at bytes i = found (starts_alike tops (rows_in bytes) i) (NotReduced i)

some : (bytes : List ℕ) (count : ℕ) → count ≡ row_count bytes → passes tops (rows_in bytes) ≡ true → 0 < count
some bytes count n h = omega (arith, long bytes count n, nested_some tops (rows_in bytes) (passes_nested tops (rows_in bytes) h))

pub loop-row-init : goal.loop-row-init
unfolding first
loop-row-init c = refl

pub returns-then-starts_alike : goal.returns-then-starts_alike
unfolding neighbour_damage
returns-then-starts_alike c =
    let rows = c.args.nested.now.rows in
    let bytes = rows.bytes.now in
    let row = c.loop-row.row in
    ap (λ o. unless o tt) (sym (first_found (length (rows_in bytes)) (at bytes) row (NotReduced row) (omega (arith, long bytes rows.count rows.counted, c.loop-row-test.true)) c.loop-row.invariant
    (some_found _ _ (sym c.if-starts_alike.ensures))))

pub loop-row-preserved : goal.loop-row-preserved
loop-row-preserved c = first_step c.loop-row.row (at c.args.nested.now.rows.bytes.now) c.loop-row.invariant (none_found _ _ (sym c.if-starts_alike.ensures))

pub returns : goal.returns
unfolding neighbour_damage
returns c =
    let nested = c.args.nested.now in
    let rows = nested.rows in
    let bytes = rows.bytes.now in
    let all : c.loop-row.row ≡ length (rows_in bytes) = omega (arith, long bytes rows.count rows.counted, some bytes rows.count rows.counted nested.nested, c.loop-row-test.false, c.loop-row.auto.row-end) in
    ap (λ o. unless o tt) (sym (ap (λ n. first n (at bytes)) (sym all) ∙ c.loop-row.invariant))

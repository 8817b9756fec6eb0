use Rattle.std.proofs.Common.{◌≡◌, ℕ, ◌+◌, ◌*◌, ◌<◌, ◌≤◌, List, [], length, get_or, take, drop, ap, sym, ◌∙◌, arith}
use Rattle.std.proofs.lemmas.List.{length-take, get_or-take}
use Rattle.damage.specs.declared.damage.Damage.TheVariants.{Foreign}
use Rattle.opening.specs.Answers.{unless}
use Rattle.opening.specs.Damages.{foreign_row}
use Rattle.opening.proofs.Tests.{first_here, first_nowhere}
use Rattle.opening.proofs.framing.check_rows.Goals as goal

module _ (block : List ℕ) (count : ℕ) (few : count ≤ 18) (places : List (List ℕ)) (all : length places ≡ 18) (is : (j : ℕ) → j < 18 → get_or places j [] ≡ take 28 (drop (4 + 28 * j) block)) where
  size : count ≡ length (take count places)
  size = omega (arith, length-take count places)

  row : (j : ℕ) → j < count → get_or (take count places) j [] ≡ take 28 (drop (4 + 28 * j) block)
  row j h = get_or-take count places j [] h ∙ is j (omega arith)

pub returns-in-Some : goal.returns-in-Some
returns-in-Some g c =
    let places = c.places_in.result.now in
    let count = c.args.count in
    let test = foreign_row g.K.Kind.NUMBER g.K.Kind.COUNT in
    ap (λ o. unless o tt) (sym (first_here test (λ j. Foreign (c.args.start + j)) (take count places) count
    (size c.args.block.now count c.requires.0 places c.places_in.ensures.len c.places_in.ensures.rows) (λ j. take 28 (drop (4 + 28 * j) c.args.block.now))
    (row c.args.block.now count c.requires.0 places c.places_in.ensures.len c.places_in.ensures.rows) c.in-Some.j (sym c.first_foreign.ensures ∙ c.in-Some.is)))

pub returns-in-None : goal.returns-in-None
returns-in-None g c =
    let places = c.places_in.result.now in
    let count = c.args.count in
    let test = foreign_row g.K.Kind.NUMBER g.K.Kind.COUNT in
    ap (λ o. unless o tt) (sym (first_nowhere test (λ j. Foreign (c.args.start + j)) (take count places) count
    (size c.args.block.now count c.requires.0 places c.places_in.ensures.len c.places_in.ensures.rows) (λ j. take 28 (drop (4 + 28 * j) c.args.block.now))
    (row c.args.block.now count c.requires.0 places c.places_in.ensures.len c.places_in.ensures.rows) (sym c.first_foreign.ensures ∙ c.in-None.is)))

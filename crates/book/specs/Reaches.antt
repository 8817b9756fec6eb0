-- Along one field, up to the nearest end of the rules looked at, a list of rules decides alike. Assumes nothing.
use Rattle.std.specs.Prelude.{◌≡◌, ℕ, suc, ◌<◌, ◌≤◌, min, Bool, true, false, cond, ◌&&◌, List, [], ◌∷◌, ◌++◌, length, take, drop, slice_index, slice_index_or}
use Rattle.std.proofs.Math.Path.{refl, sym, ap, ap₂}
use Rattle.std.proofs.Common.{◌∙◌}
use native.Mathlib.Omega.{arith}
use Rattle.std.proofs.lemmas.Bool.{false≢true, and_parts}
use Rattle.decision.specs.Kinds.{known}
use Rattle.std.proofs.lemmas.Bool.Decides.{nat_tests}
use Rattle.packet.specs.declared.range.Range.{Range}
use Rattle.packet.specs.Packets.{Within, tops}
use Rattle.packet.specs.Regions.{ranges, range_at, inside, holds}
use Rattle.packet.proofs.Values.{long, at_most}
use Rattle.packet.proofs.Holding.{holds_at, run_alike, run_from}
use Rattle.policy.specs.Edges.{Alike, Edge}
use Rattle.book.specs.declared.rule.Rule.{Rule}
use Rattle.book.specs.Deciding.{first, meant}
use Rattle.book.specs.Reach.{run, nearest, in_play, all_whole, settles, looked_at, Stops}

-- whole ranges hold whatever values there are
whole_holds : (most : List ℕ) (rs : List (Range ℕ)) (p : List ℕ) → all_whole most rs ≡ true → Within most p → holds rs p ≡ true
whole_holds [] [] [] h w = refl
whole_holds [] [] (v ∷ p) h w = absurd w
whole_holds [] (r ∷ rs) p h w = absurd (false≢true h)
whole_holds (top ∷ most) [] p h w = absurd (false≢true h)
whole_holds (top ∷ most) (r ∷ rs) [] h w = absurd w
whole_holds (top ∷ most) (r ∷ rs) (v ∷ p) h w = grind (arith, nat_tests, whole_holds most rs p)

module _ (f : ℕ) (p : List ℕ) where
  -- the nearest end lies between p's value and the largest
  pub nearest_most : (rules : List Rule) → nearest f p rules ≤ slice_index tops f
  unfolding nearest
  nearest_most [] = omega arith
  nearest_most (rule ∷ rules) = omega (arith, nearest_most rules)

  nearest_from : slice_index_or p f 0 ≤ slice_index tops f → (rules : List Rule) → slice_index p f ≤ nearest f p rules
  unfolding nearest
  nearest_from h [] = h
  nearest_from h (rule ∷ rules) = omega (arith, nearest_from h rules, run_from (slice_index tops f) (range_at (ranges rule.region) f) (slice_index p f) h)

  -- what is looked at ends no earlier than all
  module _ (rule : Rule) (rules looked : List Rule) (least : nearest f p rules ≤ nearest f p looked) where
    later_by_one : (a b : Bool) → min (run f p rule) (nearest f p rules) ≤ nearest f p (cond a (rule ∷ cond b [] looked) looked)
    unfolding nearest
    later_by_one true true = omega (arith, nearest_most rules)
    later_by_one true false = omega arith
    later_by_one false b = omega arith

  nearest_of_all : (rules : List Rule) → nearest f p rules ≤ nearest f p (looked_at f p rules)
  unfolding nearest looked_at
  nearest_of_all [] = omega arith
  nearest_of_all (rule ∷ rules) = later_by_one rule rules (looked_at f p rules) (nearest_of_all rules) (in_play f p rule) (settles f p rule)

  -- one rule more: x, no further than the rules looked at, is decided as p's own value
  module _ (x : ℕ) (from : slice_index_or p f 0 ≤ x) (rule : Rule) (looked : List Rule) (there here : ℕ) (w : Bool)
      (fills : all_whole (drop (suc f) tops) (drop (suc f) (ranges rule.region)) ≡ true → w ≡ true)
      (others : x ≤ nearest f p looked → there ≡ here) where
    abbrev hit : ℕ → Bool
    hit v = inside (range_at (ranges rule.region) f) v

    alike_by_one : (a b : Bool) → settles f p rule ≡ b → x ≤ nearest f p (cond a (rule ∷ cond b [] looked) looked)
        → cond (a && (hit x && w)) rule.decision there ≡ cond (a && (hit (slice_index p f) && w)) rule.decision here
    unfolding nearest
    alike_by_one false b e h = others h
    alike_by_one true true e h =
        let same = run_alike (slice_index tops f) (range_at (ranges rule.region) f) (slice_index p f) x from (omega arith) in
        let parts = and_parts (hit (slice_index p f)) _ e in
        let full = fills parts.1 in
        ap₂ (λ s t. cond (s && t) rule.decision there) (same ∙ parts.0) full
        ∙ sym (ap₂ (λ s t. cond (s && t) rule.decision here) parts.0 full)
    alike_by_one true false e h =
        let same = run_alike (slice_index tops f) (range_at (ranges rule.region) f) (slice_index p f) x from (omega arith) in
        ap₂ (λ s m. cond (s && w) rule.decision m) same (others (omega arith))

  -- up to the nearest end of the rules looked at, the first rule that holds the packet has one decision
  module _ (few : f < length tops) (long : length p ≡ length tops) (silent : ℕ) (rest : List ℕ) (fits : Within (drop (suc f) tops) rest)
      (x : ℕ) (from : slice_index_or p f 0 ≤ x) where
    first_alike : (rules : List Rule) → x ≤ nearest f p (looked_at f p rules) → first silent rules (take f p ++ (x ∷ rest)) ≡ first silent rules (take f p ++ (slice_index p f ∷ rest))
    unfolding first looked_at
    first_alike [] h = refl
    first_alike (rule ∷ rules) h =
        let rs = ranges rule.region in
        let at : (v : ℕ) → holds rs (take f p ++ (v ∷ rest)) ≡ (in_play f p rule && (inside (range_at rs f) v && holds (drop (suc f) rs) rest)) = λ v. holds_at rs p f v rest few (omega arith) in
        ap (λ t. cond t rule.decision (first silent rules (take f p ++ (x ∷ rest)))) (at x)
        ∙ alike_by_one x from rule (looked_at f p rules) _ _ (holds (drop (suc f) rs) rest) (λ e. whole_holds (drop (suc f) tops) (drop (suc f) rs) rest e fits)
        (first_alike rules) (in_play f p rule) (settles f p rule) refl h
        ∙ sym (ap (λ t. cond t rule.decision (first silent rules (take f p ++ (slice_index p f ∷ rest)))) (at (slice_index p f)))

-- the nearest end of the rules looked at is an edge of what they decide
pub stops_edge : (count silent : ℕ) (rules : List Rule) (f : ℕ) (p : List ℕ) (r : ℕ) → f < length tops → Within tops p → Stops rules f p r → Edge (meant count silent rules) p f r
unfolding Alike
stops_edge count silent rules f p r few w s =
    record {
      from = omega (arith, nearest_from f p (at_most tops p f w) (looked_at f p rules), s.value);
      most = omega (arith, nearest_most f p (looked_at f p rules), s.value);
      alike = λ x y rest fits lx xr ly yr.
          let own = first_alike f p few (long tops p w) silent rest fits in
          ap (known count silent) (own x lx rules (omega (arith, s.value)) ∙ sym (own y ly rules (omega (arith, s.value))));
    }

-- the nearest end of the rules looked at is what a book's edge is
pub stops_at : (rules : List Rule) (f : ℕ) (p : List ℕ) (r : ℕ) → r ≡ nearest f p (looked_at f p rules) → Stops rules f p r
stops_at rules f p r e = record { value = e; not_before = omega (arith, e, nearest_of_all f p rules) }

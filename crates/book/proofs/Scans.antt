-- What the scans of a book's rules find, as specs/ says it. Assumes nothing.
use Rattle.std.specs.Prelude.{nat_lt}
use Rattle.std.proofs.lemmas.Bool.{and_parts, lt-ltb, ltb-true}
use Rattle.decision.specs.Kinds.{known}
use Rattle.book.specs.Rules.{Speaks, AllSpeak}
use Rattle.std.proofs.Common.{◌≡◌, ℕ, zero, suc, ◌+◌, ◌-◌, ◌<◌, ◌≤◌, min, Bool, true, false, cond, ◌&&◌, List, [], ◌∷◌, Option, Some, length, get_or, take, drop, sym, refl, ap, ◌∙◌, ap₂, arith}
use Rattle.std.specs.List.{list_all, find, zip}
use Rattle.std.specs.Option.{unwrap_or, option_map}
use Rattle.std.proofs.lemmas.List.{at_drop_more, at_drop_all, length-drop, take_all}
use Rattle.packet.specs.declared.range.Range.{Range}
use Rattle.packet.specs.Packets.{tops}
use Rattle.packet.specs.Regions.{ranges, range_at, inside, holds, run_end}
use Rattle.book.specs.declared.rule.Rule.{Rule}
use Rattle.book.specs.Deciding.{first}
use Rattle.book.specs.Reach.{run, nearest, whole, all_whole, in_play, settles, looked_at}

-- pair by pair, as far as place n
abbrev pub each_holds : ℕ → List (Range ℕ) → List ℕ → Bool
each_holds n rs p = list_all (λ x. inside x.0 x.1) (zip (take n rs) (take n p))

pub pairs_hold : (n : ℕ) (rs : List (Range ℕ)) (p : List ℕ) → length rs ≡ length p → each_holds n rs p ≡ holds (take n rs) (take n p)
pairs_hold zero rs p e = refl
pairs_hold (suc n) [] [] e = refl
pairs_hold (suc n) [] (v ∷ p) e = absurd (omega arith)
pairs_hold (suc n) (r ∷ rs) [] e = absurd (omega arith)
pairs_hold (suc n) (r ∷ rs) (v ∷ p) e = ap (λ b. inside r v && b) (pairs_hold n rs p (omega arith))

-- pair by pair, from place n on
abbrev pub each_whole : ℕ → List (Range ℕ) → List ℕ → Bool
each_whole n rs most = list_all (λ x. whole x.1 x.0) (zip (take (5 - n) (drop n rs)) (take (5 - n) (drop n most)))

pairs_whole : (rs : List (Range ℕ)) (most : List ℕ) → length rs ≡ length most → list_all (λ x. whole x.1 x.0) (zip rs most) ≡ all_whole most rs
pairs_whole [] [] e = refl
pairs_whole [] (v ∷ p) e = absurd (omega arith)
pairs_whole (r ∷ rs) [] e = absurd (omega arith)
pairs_whole (r ∷ rs) (v ∷ p) e = ap (λ b. whole v r && b) (pairs_whole rs p (omega arith))

rest : {A : Type 0} (n : ℕ) (xs : List A) → length xs ≡ 5 → take (5 - n) (drop n xs) ≡ drop n xs
rest n xs e = take_all (5 - n) (drop n xs) (omega (arith, length-drop n xs, e))

rest_whole : (n : ℕ) (rs : List (Range ℕ)) (most : List ℕ) → length rs ≡ 5 → length most ≡ 5 → each_whole n rs most ≡ all_whole (drop n most) (drop n rs)
rest_whole n rs most a b =
    ap₂ (λ x y. list_all (λ z. whole z.1 z.0) (zip x y)) (rest n rs a) (rest n most b)
    ∙ pairs_whole (drop n rs) (drop n most) (omega (arith, length-drop n rs, length-drop n most, a, b))

found_first : (silent rest : ℕ) (b : Bool) (rule : Rule) (later : Option Rule) → unwrap_or (option_map (λ r. r.decision) later) silent ≡ rest
    → unwrap_or (option_map (λ r. r.decision) (cond b (Some rule) later)) silent ≡ cond b rule.decision rest
found_first silent rest true rule later e = refl
found_first silent rest false rule later e = e

-- the decision of the rule that is found
pub first_found : (silent : ℕ) (p : List ℕ) (rules : List Rule)
    → unwrap_or (option_map (λ rule. rule.decision) (find (λ rule. holds (ranges rule.region) p) rules)) silent ≡ first silent rules p
unfolding first
first_found silent p [] = refl
first_found silent p (rule ∷ rules) =
    found_first silent (first silent rules p) (holds (ranges rule.region) p) rule (find (λ r. holds (ranges r.region) p) rules) (first_found silent p rules)

-- the nearest end of the rules looked at from the rule at i on, which has the ranges rs
module _ (f : ℕ) (p : List ℕ) (rules : List Rule) (i : ℕ) where
  abbrev from : ℕ → ℕ
  from k = nearest f p (looked_at f p (drop k rules))

  module _ (d : Rule) (h : i < length rules) where
    abbrev here : Rule
    here = get_or rules i d

    abbrev picked : Bool → Bool → List Rule
    picked a b = cond a (here ∷ cond b [] (looked_at f p (drop (i + 1) rules))) (looked_at f p (drop (i + 1) rules))

    opened : from i ≡ nearest f p (picked (in_play f p here) (settles f p here))
    unfolding looked_at
    opened = at_drop_more (λ l. nearest f p (looked_at f p l)) rules i d h

    module _ (n : ℕ) (rs : List (Range ℕ)) (vs : List ℕ) (at : n ≡ f) (e : rs ≡ ranges here.region) (same : vs ≡ p) (long : length p ≡ length tops) where
      plays : each_holds n rs vs ≡ in_play f p here
      plays = ap (λ k. each_holds k rs vs) at ∙ ap₂ (each_holds f) e same ∙ pairs_hold f (ranges here.region) p (sym long)

      pub look_past : false ≡ each_holds n rs vs → from i ≡ from (i + 1)
      look_past out = opened ∙ ap (λ a. nearest f p (picked a (settles f p here))) (sym plays ∙ sym out)

      module _ (most : List ℕ) (range : Range ℕ) (value top end : ℕ) (all : most ≡ tops)
          (own : range ≡ range_at (ranges here.region) f) (this : value ≡ get_or p f 0) (upper : top ≡ get_or tops f 0) (is : end ≡ run_end top range value) where
        ends : run f p here ≡ end
        ends = sym (is ∙ ap (λ t. run_end t range value) upper ∙ ap₂ (λ r v. run_end (get_or tops f 0) r v) own this)

        abbrev sure : Bool
        sure = inside range value && each_whole (n + 1) rs most

        settled : sure ≡ settles f p here
        settled =
            let behind : n + 1 ≡ suc f = omega (arith, at) in
            ap₂ (λ a b. a && b) (ap₂ inside own this) (ap (λ k. each_whole k rs most) behind ∙ ap₂ (each_whole (suc f)) e all ∙ rest_whole (suc f) (ranges here.region) tops refl refl)

        both : (a b : Bool) → a ≡ each_holds n rs vs → b ≡ sure → from i ≡ nearest f p (picked a b)
        both a b x y = opened ∙ ap₂ (λ s t. nearest f p (picked s t)) (sym plays ∙ sym x) (sym settled ∙ sym y)

        unsure : true ≡ each_holds n rs vs → false ≡ sure → from i ≡ min end (from (i + 1))
        unfolding nearest
        unsure inn more = both true false inn more ∙ ap (λ n. min n (from (i + 1))) ends

        pub look_outside : true ≡ each_holds n rs vs → false ≡ inside range value → from i ≡ min end (from (i + 1))
        look_outside inn out = unsure inn (ap (λ b. b && each_whole (n + 1) rs most) out)

        pub look_on : true ≡ each_holds n rs vs → true ≡ inside range value → false ≡ each_whole (n + 1) rs most → from i ≡ min end (from (i + 1))
        look_on inn own more = unsure inn (ap₂ (λ a b. a && b) own more)

        pub look_last : true ≡ each_holds n rs vs → true ≡ inside range value → true ≡ each_whole (n + 1) rs most → from i ≡ min end top
        unfolding nearest
        look_last inn own last = both true true inn (ap₂ (λ a b. a && b) own last) ∙ ap₂ min ends (sym upper)

  pub look_end : length rules ≤ i → from i ≡ get_or tops f 0
  unfolding nearest looked_at
  look_end h = at_drop_all (λ l. nearest f p (looked_at f p l)) rules i h

-- where every rule speaks, the first that holds the packet decides by a decision of the kind
first_few : (count silent : ℕ) (rules : List Rule) (p : List ℕ) → silent < count → AllSpeak count silent rules → first silent rules p < count
unfolding first
first_few count silent [] p h a = h
first_few count silent (rule ∷ rules) p h a =
    let speaks : Speaks count silent rule = a 0 rule (omega arith) in
    let one : rule.decision < count = ltb-true rule.decision count (and_parts (nat_lt rule.decision count) _ speaks).0 in
    let rest : first silent rules p < count = first_few count silent rules p h (λ k d l. a (suc k) d (omega arith)) in
    elim (holds (ranges rule.region) p) as (λ b. cond b rule.decision (first silent rules p) < count) [ true ↦ one | false ↦ rest ]

pub known_first : (count silent : ℕ) (rules : List Rule) (p : List ℕ) → silent < count → AllSpeak count silent rules → first silent rules p ≡ known count silent (first silent rules p)
known_first count silent rules p h a = rw (lt-ltb (first silent rules p) count (first_few count silent rules p h a)) refl

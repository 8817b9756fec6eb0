-- The walk over the values of one field that tells whether rows decide alike under two packets' earlier values. Assumes nothing.
use Rattle.std.proofs.Common.{◌≡◌, ℕ, zero, suc, ◌+◌, ◌<◌, ◌≤◌, min, Bool, true, false, eqb, List, [], ◌∷◌, ◌++◌, length, get_or, take, drop, set, sym, ap, ◌∙◌, subst, inl, inr, append_assoc, add-one, arith}
use Rattle.std.proofs.lemmas.List.{drop_more, drop_all, take_all, take-set, take_more_set, get_or-set_same, append-nil}
use Rattle.std.proofs.lemmas.Bool.{cases_Bool, cases_lt, both_ways, eqb-true, eq-eqb}
use Rattle.packet.proofs.Values.{long}
use Rattle.packet.specs.Packets.{tops, Within}
use Rattle.packet.specs.Regions.{range_at}
use Rattle.theory.specs.Tables.{Row, lookup, Nested}
use Rattle.theory.specs.Holding.{held}
use Rattle.theory.specs.Neighbours.{alike}
use Rattle.theory.proofs.Holding.{reaches}
use Rattle.theory.proofs.Neighbours.{alike_tells}

-- two tests that pass together are one
same_test : (a b : Bool) → (a ≡ true → b ≡ true) → (b ≡ true → a ≡ true) → a ≡ b
same_test a b f g = elim (cases_Bool a) [
  | inl t ↦ t ∙ sym (f t)
  | inr t ↦ elim (cases_Bool b) [ inl u ↦ g u ∙ sym u | inr u ↦ t ∙ sym u ]
]

-- another value of one field, if it is a value of the field, makes another packet
pub within_set : (ts p : List ℕ) (f v : ℕ) → Within ts p → f < length ts → v ≤ get_or ts f 0 → Within ts (set p f v)
within_set [] p f v w h k = absurd (omega arith)
within_set (top ∷ rest) [] f v w h k = absurd w
within_set (top ∷ rest) (x ∷ p) zero v w h k = (k, w.1)
within_set (top ∷ rest) (x ∷ p) (suc f) v w h k = (w.0, within_set rest p f v w.1 (omega arith) k)

module _ (rows : List Row) (f : ℕ) (p q : List ℕ) where
  -- what the rows decide of the fields from f on, under p's values of the fields before
  abbrev pub left_of : List ℕ → List ℕ → ℕ
  left_of a s = lookup rows (take f a ++ s)

  -- the values below n of field f are decided alike under p and q
  abbrev pub Agrees : ℕ → Type 0
  Agrees n = (x : ℕ) (rest : List ℕ) → x < n → Within (drop (suc f) tops) rest → lookup rows (take f p ++ (x ∷ rest)) ≡ lookup rows (take f q ++ (x ∷ rest))

  -- with no field left, the decisions are compared
  pub at_leaf : Within tops p → Within tops q → length tops ≤ f → eqb (lookup rows p) (lookup rows q) ≡ alike (drop f tops) (left_of p) (left_of q)
  at_leaf w u h =
      let tells = alike_tells (drop f tops) (left_of p) (left_of q) in
      let none : drop f tops ≡ [] = drop_all f tops h in
      let all : (a : List ℕ) → Within tops a → take f a ++ [] ≡ a = λ a i. append-nil (take f a) ∙ take_all f a (omega (arith, long tops a i)) in
      same_test _ _
      (λ t. tells.1 (λ s i. only s (subst (λ ts. Within ts s) none i) (ap (lookup rows) (all p w) ∙ eqb-true _ _ t ∙ sym (ap (lookup rows) (all q u)))))
      (λ t. eq-eqb _ _ (sym (ap (lookup rows) (all p w)) ∙ tells.0 t [] (subst (λ ts. Within ts []) (sym none) tt) ∙ ap (lookup rows) (all q u)))
    where
      only : (s : List ℕ) → Within [] s → left_of p [] ≡ left_of q [] → left_of p s ≡ left_of q s
      only [] i e = e
      only (v ∷ s) i e = absurd i

  module _ (below : f < length tops) where
    here : drop f tops ≡ get_or tops f 0 ∷ drop (suc f) tops
    here = drop_more tops f 0 below ∙ ap (λ n. get_or tops f 0 ∷ drop n tops) (add-one f)

    -- all values of the field agree: so do the packets
    pub all_agree : Agrees (suc (get_or tops f 0)) → alike (drop f tops) (left_of p) (left_of q) ≡ true
    all_agree g = (alike_tells (drop f tops) (left_of p) (left_of q)).1 (λ s i. by s (subst (λ ts. Within ts s) here i))
      where
        by : (s : List ℕ) → Within (get_or tops f 0 ∷ drop (suc f) tops) s → left_of p s ≡ left_of q s
        by [] i = absurd i
        by (x ∷ rest) i = g x rest (omega (arith, i.0)) i.1

    module _ (nested : Nested tops rows) (w : Within tops p) (u : Within tops q) (v : ℕ) (most : v ≤ get_or tops f 0) (p1 q1 : List ℕ) (pe : p1 ≡ set p f v) (qe : q1 ≡ set q f v) where
      one_more : (a b : List ℕ) → Within tops a → b ≡ set a f v → (s : List ℕ) → take (f + 1) b ++ s ≡ take f a ++ (v ∷ s)
      one_more a b i e s = ap (λ l. take (f + 1) l ++ s) e ∙ ap (λ l. l ++ s) (take_more_set a f v (omega (arith, long tops a i))) ∙ append_assoc (take f a) (v ∷ []) s

      -- the values of the later fields, under the value v, are decided as the next field's walk tells
      under_value : alike (drop (f + 1) tops) (λ s. lookup rows (take (f + 1) p1 ++ s)) (λ s. lookup rows (take (f + 1) q1 ++ s)) ≡ true
          → (rest : List ℕ) → Within (drop (suc f) tops) rest → lookup rows (take f p ++ (v ∷ rest)) ≡ lookup rows (take f q ++ (v ∷ rest))
      under_value t rest i =
          ap (lookup rows) (sym (one_more p p1 w pe rest))
          ∙ (alike_tells (drop (f + 1) tops) (λ s. lookup rows (take (f + 1) p1 ++ s)) (λ s. lookup rows (take (f + 1) q1 ++ s))).0 t rest (subst (λ n. Within (drop n tops) rest) (sym (add-one f)) i)
          ∙ ap (lookup rows) (one_more q q1 u qe rest)

      -- if they are not decided alike there, they are not
      pub not_alike : alike (drop (f + 1) tops) (λ s. lookup rows (take (f + 1) p1 ++ s)) (λ s. lookup rows (take (f + 1) q1 ++ s)) ≡ false
          → alike (drop f tops) (left_of p) (left_of q) ≡ false
      not_alike t = elim (cases_Bool (alike (drop f tops) (left_of p) (left_of q))) [
        | inr e ↦ e
        | inl e ↦ absurd (both_ways _ t ((alike_tells (drop (f + 1) tops) (λ s. lookup rows (take (f + 1) p1 ++ s)) (λ s. lookup rows (take (f + 1) q1 ++ s))).1 (λ s i.
            ap (lookup rows) (one_more p p1 w pe s)
            ∙ (alike_tells (drop f tops) (left_of p) (left_of q)).0 e (v ∷ s) (subst (λ ts. Within ts (v ∷ s)) (sym here) (most, subst (λ n. Within (drop n tops) s) (add-one f) i))
            ∙ ap (lookup rows) (sym (one_more q q1 u qe s)))))
      ]

      -- a row's range reaches as far as its end: up to there the field's values are decided as v is
      as_value : (a b : List ℕ) → Within tops a → b ≡ set a f v → (x : ℕ) (rest : List ℕ) → v ≤ x → x ≤ (range_at (held rows b) f).high → Within (drop (suc f) tops) rest
          → lookup rows (take f a ++ (x ∷ rest)) ≡ lookup rows (take f a ++ (v ∷ rest))
      as_value a b i e x rest l h k =
          let wb : Within tops b = subst (Within tops) (sym e) (within_set tops a f v i below most) in
          let r = reaches tops rows nested b wb f below in
          let at : get_or b f 0 ≡ v = ap (λ l. get_or l f 0) e ∙ get_or-set_same a f v 0 (omega (arith, long tops a i)) in
          let same : take f b ≡ take f a = ap (take f) e ∙ take-set a f v in
          ap (λ l. lookup rows (l ++ (x ∷ rest))) (sym same)
          ∙ r.alike x v rest k (omega (arith, r.low, at)) h (omega (arith, r.low, at)) (omega (arith, r.high, at))
          ∙ ap (λ l. lookup rows (l ++ (v ∷ rest))) same

      -- the walk's step: what agrees below v, and at v, agrees up to the nearer end
      pub agree_more : Agrees v
          → alike (drop (f + 1) tops) (λ s. lookup rows (take (f + 1) p1 ++ s)) (λ s. lookup rows (take (f + 1) q1 ++ s)) ≡ true
          → (end : ℕ) → end ≡ min (range_at (held rows p1) f).high (range_at (held rows q1) f).high → Agrees (suc end)
      agree_more g t end e x rest h i = elim (cases_lt x v) [
        | inl l ↦ g x rest l i
        | inr l ↦ as_value p p1 w pe x rest l (omega arith) i ∙ under_value t rest i ∙ sym (as_value q q1 u qe x rest l (omega arith) i)
      ]

      -- the nearer end is a value of the field, and not below v
      pub end_from : (end : ℕ) → end ≡ min (range_at (held rows p1) f).high (range_at (held rows q1) f).high → (v ≤ end) × (end ≤ get_or tops f 0)
      end_from end e =
          let bounds : (a b : List ℕ) → Within tops a → b ≡ set a f v → (v ≤ (range_at (held rows b) f).high) × ((range_at (held rows b) f).high ≤ get_or tops f 0) = λ a b i k.
          let r = reaches tops rows nested b (subst (Within tops) (sym k) (within_set tops a f v i below most)) f below in
          let at : get_or b f 0 ≡ v = ap (λ l. get_or l f 0) k ∙ get_or-set_same a f v 0 (omega (arith, long tops a i)) in
          (omega (arith, r.high, at), r.most) in
          omega (arith, bounds p p1 w pe, bounds q q1 u qe)

-- Edges of what is decided packet by packet. Assumes nothing.
use Rattle.std.specs.Prelude.{◌≡◌, ℕ, suc, ◌<◌, ◌≤◌, Bool, true, false, cond, ◌&&◌, ◌==◌, List, ◌∷◌, ◌++◌, length, take, drop, slice_index_or}
use Rattle.std.proofs.Common.{sym, ap, ◌∙◌, arith}
use Rattle.packet.specs.declared.range.Range.{Range}
use Rattle.packet.specs.Packets.{Within, tops}
use Rattle.packet.specs.Regions.{holds, range_at}
use Rattle.packet.proofs.Values.{long, at_most}
use Rattle.packet.proofs.Holding.{holds_at, run_alike, run_from, run_most}
use Rattle.policy.specs.Edges.{Edge, Alike}
use Rattle.policy.specs.Layers.{over, Lower, own_end}

-- where each of two answers is an edge of its meaning, the lower is an edge of whatever is decided from both
pub edge_of_both : {A B D : Type 0} (h : A → B → D) (m : List ℕ → A) (n : List ℕ → B) (p : List ℕ) (f r : ℕ) (P Q : ℕ → Type 0)
    → ((a : ℕ) → P a → Edge m p f a) → ((b : ℕ) → Q b → Edge n p f b) → Lower P Q r → Edge (λ q. h (m q) (n q)) p f r
unfolding Alike
edge_of_both {A} {B} {D} h m n p f r P Q left right l =
    let ea = left l.0 l.2 in
    let eb = right l.1 l.3 in record {
      from = omega (arith, ea.from, eb.from, l.4);
      most = omega (arith, ea.most, eb.most, l.4);
      alike = λ x y rest w lx xr ly yr.
          ap (λ d. h d (n (take f p ++ (x ∷ rest)))) (ea.alike x y rest w lx (omega (arith, l.4)) ly (omega (arith, l.4)))
          ∙ ap (h (m (take f p ++ (y ∷ rest)))) (eb.alike x y rest w lx (omega (arith, l.4)) ly (omega (arith, l.4)));
    }

-- up to its own end, a region holds all or none
pub edge_of_region : (rs : List (Range ℕ)) (p : List ℕ) (f : ℕ) → length rs ≡ length tops → f < length tops → Within tops p → Edge (holds rs) p f (own_end rs f p)
unfolding Alike
edge_of_region rs p f e few w =
    let v = slice_index_or p f 0 in
    let top = slice_index_or tops f 0 in
    let r = range_at rs f in
    let within : f < length rs = omega arith in
    let enough : f ≤ length p = omega (arith, long tops p w) in record {
      from = run_from top r v (at_most tops p f w);
      most = run_most top r v;
      alike = λ x y rest _ lx xr ly yr.
          holds_at rs p f x rest within enough
          ∙ ap (λ (b : Bool). holds (take f rs) (take f p) && (b && holds (drop (suc f) rs) rest)) (run_alike top r v x lx xr ∙ sym (run_alike top r v y ly yr))
          ∙ sym (holds_at rs p f y rest within enough);
    }

-- where both are decisions, the first over the second is one
pub over_of_kind : (count silent a b : ℕ) → a < count → b < count → over silent a b < count
over_of_kind count silent a b l r = elim (a == silent) as (λ x. cond x b a < count) [ true ↦ r | false ↦ l ]

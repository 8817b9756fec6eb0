-- What holds of an edge: how far the values of one field are decided alike. Cited by src/source.rt. Assumes nothing.
use Rattle.std.specs.Prelude.{◌≡◌, ℕ, suc, ◌≤◌, List, ◌∷◌, ◌++◌, take, drop, slice_index, slice_index_or}
use Rattle.packet.specs.Packets.{Within, tops}

-- under p's values of the fields before f, the values from low to high of field f are decided alike, whatever the later fields have
unfoldable pub Alike : {D : Type 0} → (List ℕ → D) → List ℕ → ℕ → ℕ → ℕ → Type 0
Alike m p f low high = (x y : ℕ) (rest : List ℕ) → Within (drop (suc f) tops) rest → low ≤ x → x ≤ high → low ≤ y → y ≤ high
    → m (take f p ++ (x ∷ rest)) ≡ m (take f p ++ (y ∷ rest))

-- r is a value of field f, from p's own up to the largest, and all values from p's up to r are decided alike
pub record Edge {D : Type 0} (m : List ℕ → D) (p : List ℕ) (f r : ℕ) : Type 0 where
  pub from : slice_index_or p f 0 ≤ r
  pub most : r ≤ slice_index tops f
  pub alike : Alike m p f (slice_index p f) r

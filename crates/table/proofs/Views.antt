-- The view of rows. Assumes nothing.
use Rattle.std.proofs.Common.{◌≡◌, ℕ, ◌+◌, ◌-◌, ◌<◌, ◌≤◌, Bool, List, [], ◌∷◌, ◌++◌, map, length, get_or, take, drop, set, Decides, sym, refl, ap, ◌∙◌, ap₂, arith}
use borrow.Rule.Slice.PartMut.{put_mid}
use Rattle.std.specs.List.{between}
use Rattle.std.proofs.lemmas.List.{append_assoc, map-append, map-set, get_or-map, length-map, take_rest, take-map, drop-drop, drop-map}
use Rattle.std.proofs.lemmas.Bool.Decides.{Decides-like}
use Rattle.std.proofs.lemmas.List.Edits.{map_over_more}
use Rattle.packet.specs.declared.range.Range.{Range}
use Rattle.packet.specs.declared.region.Region.{Region}
use Rattle.packet.specs.Packets.{tops}
use Rattle.packet.specs.Regions.{ranges, clamped}
use Rattle.theory.specs.Tables as tables
use Rattle.table.specs.declared.row.Row.{Row}
use Rattle.table.specs.Rows.{plain, view}
use Rattle.table.specs.Parts.{cut, cut_between}

-- one more row gets a range
pub cut_more : (f : ℕ) (range : Range ℕ) (old rows : List Row) (i : ℕ) (region : Region) (d : Row) → i < length old → length rows ≡ length old
    → ranges region ≡ set (ranges (get_or rows i d).region) f (clamped (get_or tops f 0) range)
    → view rows ≡ map (cut f range) (take i (view old)) ++ drop i (view old)
    → view (set rows i (record { region = region; decision = (get_or rows i d).decision })) ≡ map (cut f range) (take (i + 1) (view old)) ++ drop (i + 1) (view old)
cut_more f range old rows i region d h l e v =
    let x = plain (get_or rows i d) in
    map-set plain rows i (record { region = region; decision = (get_or rows i d).decision })
    ∙ ap (λ (a : List (Range ℕ)). set (view rows) i (record { ranges = a; decision = (get_or rows i d).decision })) e
    ∙ map_over_more (cut f range) (view old) (view rows) i x (omega (arith, length-map old plain)) v (sym (get_or-map plain rows i d x (omega arith)))

-- a part of the rows is seen as the part of what is seen
pub view_between : (rows : List Row) (start end : ℕ) → view (between start end rows) ≡ between start end (view rows)
view_between rows start end = sym (take-map plain (end - start) (drop start rows)) ∙ ap (take (end - start)) (sym (drop-map plain start rows))

-- and are put back where they were lent
pub cut_put : (f : ℕ) (range : Range ℕ) (rows lent part : List Row) (start end : ℕ) → start ≤ end → lent ≡ rows
    → view part ≡ map (cut f range) (view (between start end lent))
    → view (put_mid start (end - start) lent part) ≡ cut_between start end f range (view rows)
cut_put f range rows lent part start end h e v =
    let after = drop (end - start) (drop start lent) in
    let k : start + (end - start) ≡ end = omega arith in
    map-append plain (take start lent) (part ++ after)
    ∙ ap (λ (a : List tables.Row). view (take start lent) ++ a) (map-append plain part after)
    ∙ sym (append_assoc (view (take start lent)) (view part) (view after))
    ∙ ap₂ (λ (a b : List tables.Row). a ++ b)
    (ap₂ (λ (a b : List tables.Row). a ++ b) (sym (take-map plain start lent)) (v ∙ ap (map (cut f range)) (view_between lent start end)))
    (ap view (drop-drop (end - start) start lent ∙ ap (λ n. drop n lent) k) ∙ sym (drop-map plain end lent))
    ∙ ap (λ (a : List Row). cut_between start end f range (view a)) e

-- a region from its ranges
region_of : List (Range ℕ) → Region
region_of rs =
    let d : Range ℕ = record { low = 0; high = 0 } in
    record { source = get_or rs 0 d; source_port = get_or rs 1 d; destination = get_or rs 2 d; destination_port = get_or rs 3 d; protocol = get_or rs 4 d }

unview : List tables.Row → List Row
unview rows = map (λ (r : tables.Row). record { region = region_of r.ranges; decision = r.decision }) rows

unview_view : (rows : List Row) → unview (view rows) ≡ rows
unfolding unview region_of
unview_view [] = refl
unview_view (r ∷ rows) = ap (λ (a : List Row). r ∷ a) (unview_view rows)

-- rows that mean the same are the same
pub view_tells : (a b : List Row) → view a ≡ view b → a ≡ b
view_tells a b e = sym (unview_view a) ∙ ap unview e ∙ unview_view b

-- two neighbouring parts that mean the same are parts of what is seen that are the same
pub parts_tell : (rows lent rest : List Row) (start end : ℕ) (same : Bool) → lent ≡ rows → rest ≡ rows
    → Decides same (view (between start end lent) ≡ view (between end (length rest) rest))
    → Decides same (between start end (view rows) ≡ drop end (view rows))
parts_tell rows lent rest start end same e i d =
    let a = view_between lent start end ∙ ap (λ (x : List Row). between start end (view x)) e in
    let b = ap view (take_rest rest end) ∙ sym (drop-map plain end rest) ∙ ap (λ (x : List Row). drop end (view x)) i in
    Decides-like same (λ h. sym a ∙ h ∙ b) (λ h. a ∙ h ∙ sym b) d

-- What `==` tells of rows. Assumes nothing.
use Rattle.std.proofs.Common.{◌≡◌, Bool, List, Decides, arith}
use Rattle.std.specs.Cmp.Lexicographic.{pointwise}
use Rattle.std.proofs.lemmas.Bool.Decides.{nat_tests}
use Rattle.std.proofs.lemmas.Slice.Eq.{slice_eq-Decides}
use Rattle.packet.specs.declared.region.Region.{Region}
use Rattle.packet.specs.contracts.region.RegionPartialEq.TheImpl as region
use Rattle.table.specs.declared.row.Row.{Row}
use Rattle.table.specs.contracts.row.RowPartialEq.TheImpl as row

region_tells : (x y : Region) → Decides ((region.ghosts).eq x y) (x ≡ y)
region_tells x y = (λ h. grind (arith, nat_tests), λ e. grind (arith, nat_tests))

row_tells : (x y : Row) → Decides ((row.ghosts).eq x y) (x ≡ y)
row_tells x y = (λ h. grind (arith, nat_tests, (region_tells x.region y.region).0), λ e. grind (arith, nat_tests, (region_tells x.region y.region).1))

pub rows_tell : (xs ys : List Row) (r : Bool) → (r ≡ pointwise (row.ghosts).eq xs ys) → Decides r (xs ≡ ys)
rows_tell xs ys r m = slice_eq-Decides row_tells xs ys r m

-- A point that locates in a field with no vertex far out is under 2^53 in size each way. Assumes nothing.
use Prim.Native.Nat.{ℕ, zero, suc, ◌<◌}
use native.Mathlib.Omega.{arith}
use mathlib.Core.Path.{◌≡◌}
use mathlib.Core.Bool.{Bool, true}
use mathlib.Core.List.{List, [], ◌∷◌}
use lib.ListN.{length, get_or}
use Rattle.arith.specs.F64.{◌≺◌, float, abs}
use Rattle.arith.specs.Lists.{all_of}
use Rattle.arith.specs.declared.Vec3.{Vec3}
use Rattle.lines_polygon.specs.Vertices.{xy_within}
use Rattle.lines_polygon.proofs.LimitLaws.{all_first}
use Rattle.lines_polygon.proofs.ReachLaws.{contained-near}
use Rattle.lines_locate.specs.Bins.{no_polygon, cell_polygon_at}
use Rattle.lines_locate.specs.Field.{StreamlineField}
use Rattle.lines_locate.specs.Locate.{xy_of}
use Rattle.lines_locate.proofs.FoundLaws.{found_at, found-finite}
use Rattle.lines_velocity.specs.Velocity.{locate_in}
use Rattle.lines_velocity.specs.Ensures.{vertices_within}
use Rattle.std.specs.Prelude.{Some}

all-at : {A : Type 0} (p : A → Bool) (d : A) (l : List A) (i : ℕ) → i < length l → all_of p l ≡ true → p (get_or l i d) ≡ true
all-at p d [] i b h = absurd (omega arith)
all-at p d (a ∷ l) zero b h = (all_first p a l h).0
all-at p d (a ∷ l) (suc i) b h = all-at p d l i (omega arith) (all_first p a l h).1

pub located-near : (f : StreamlineField) (p : Vec3) (i : ℕ) → vertices_within f ≡ true → locate_in f p ≡ Some i
    → ((abs p.x ≺ float 0x4340000000000000) ≡ true) × ((abs p.y ≺ float 0x4340000000000000) ≡ true)
unfolding vertices_within locate_in xy_of cell_polygon_at
located-near f p i w e =
    let there = found_at f.search f.grid f.polygons p i e in
    let real = found-finite f.search f.grid f.polygons p i e in
    contained-near (xy_of p) (cell_polygon_at f.polygons i).polygon (all-at (λ c. all_of xy_within c.polygon) no_polygon f.polygons i there.0 w) real.0 real.1 there.1

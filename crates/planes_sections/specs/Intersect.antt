-- `intersect`: the polygons in which a plane meets the cells. It reads no cell's values.
-- `PlaneCell`: a piece. `earlier_on`: the order of its points. `add_area`, `area_of`: its area. `section_centre`: its centre.
-- `wide`, `piece_about`, `piece_of`: the piece of a cell, where its area is large enough.
-- `pieces_from`, `intersect`: the pieces of all cells.
use Rattle.std.specs.Prelude.{ℕ, suc, Bool, cond, ◌&&◌, List, [], ◌∷◌, ◌++◌, leb, length, Float}
use Rattle.arith.specs.F64.{◌⊕◌, ◌⊗◌, ◌⊘◌, ◌≺◌, 0·0, 0·5, 1·0, ofℕ}
use Rattle.arith.specs.Lists.{fold, only, any_of, sort, Side, windows}
use Rattle.arith.specs.Vec.{origin, plus, minus, times, cross, norm}
use Rattle.arith_angles.specs.Angle.{turns_before}
use Rattle.arith.specs.declared.Vec3.{Vec3}
use Rattle.mesh_area.specs.Tables.{Mesh, Cell}
use Rattle.planes_cut.specs.declared.Plane.{Plane}
use Rattle.planes_cut.specs.declared.Cut.{Cut}
use Rattle.planes_cut.specs.Plane.{along}
use Rattle.planes_cut.specs.Cut.{cut_of}
use Rattle.planes_crossings.specs.Crossings.{foreign, crossings}

-- `PlaneCell`
pub record PlaneCell : Type 0 where
  pub cell : ℕ
  pub centre : Vec3
  pub polygon : List Vec3

-- ---- one cell

-- a turns before b about the centre, in the plane's axes
unfoldable pub earlier_on : Plane → Vec3 → Vec3 → Vec3 → Bool
earlier_on s centre a b = turns_before (along s (minus a centre)) (along s (minus b centre))

-- the sum of the areas of the triangles from the first vertex
unfoldable pub add_area : Vec3 → Float → Side Vec3 → Float
add_area o r t = r ⊕ norm (cross (minus t.from o) (minus t.to o)) ⊗ 0·5

-- `area`
unfoldable pub area_of : List Vec3 → Float
area_of [] = 0·0
area_of (o ∷ l) = fold (add_area o) 0·0 (windows l)

-- `center`: the sum, times one over the number
unfoldable pub section_centre : List Vec3 → Vec3
section_centre l = times (fold plus origin l) (1·0 ⊘ ofℕ (length l))

-- `area > eps * eps`
unfoldable pub wide : Cut → List Vec3 → Bool
wide c l = c.tolerance ⊗ c.tolerance ≺ area_of l

-- the points about their centre, where there are three or more, in angle order
unfoldable pub piece_about : Cut → ℕ → List Vec3 → Vec3 → List PlaneCell
piece_about c cell l centre =
    let polygon = sort (earlier_on c.plane centre) l in
    only (leb 3 (length l) && wide c polygon) (record { cell = cell; centre = centre; polygon = polygon })

-- the piece of a cell, a list of one or none
unfoldable pub piece_of : Mesh → Cut → ℕ → Cell → List PlaneCell
piece_of m c cell k =
    cond (any_of (foreign m c cell) k.faces) [] (piece_about c cell (crossings m c k.faces) (section_centre (crossings m c k.faces)))

-- ---- all cells, from number i on

-- their pieces, in order
unfoldable pub pieces_from : Mesh → Cut → ℕ → List Cell → List PlaneCell
pieces_from m c i [] = []
pieces_from m c i (k ∷ ks) = piece_of m c i k ++ pieces_from m c (suc i) ks

-- `intersect`
unfoldable pub intersect : Mesh → Plane → List PlaneCell
intersect m s = pieces_from m (cut_of m.points s) 0 m.cells

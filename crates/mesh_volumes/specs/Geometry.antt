-- mesh.rs's `cell_geometry`: a cell's centre and its area or volume, from the triangles or tetrahedra about its average.
-- `no_weight`, `add_part`: the sums.
-- `twice_area`, `add_triangle`, `centre_2d`: a cell in 2D.
-- `tetrahedron_volume`, `add_volume`, `add_tetrahedron`, `add_tetrahedra`, `tetrahedra_of`, `add_face_3d`, `centre_3d`: a cell in 3D.
-- `geometry_in`, `cell_geometry`: a cell, by dimension.
-- `cell_of`: what an answer means.
use Rattle.std.specs.Prelude.{ℕ, Bool, true, false, cond, List, [], ◌∷◌, eqb, get_or, Float, Some, None, Ok, Err}
use Rattle.arith.specs.F64.{◌⊕◌, ◌⊖◌, ◌⊗◌, ◌⊘◌, ◌≺◌, 0·0, 0·5, 3·0, 4·0, 6·0, 1e-12, abs}
use Rattle.arith.specs.Lists.{fold, Side, windows}
use Rattle.arith.specs.Vec.{origin, plus, minus, times, over, dot, cross}
use Rattle.arith.specs.declared.Vec3.{Vec3}
use Rattle.reading.specs.Result.{Refusable, ◌>>=◌, steps}
use Rattle.mesh_area.specs.Tables.{point_at}
use Rattle.mesh_geometry.specs.Faces.{Oriented, oriented_face}
use Rattle.mesh_volumes.specs.declared.Weight.{Weight}
use Rattle.mesh_volumes.specs.declared.CellGeometry.{CellGeometry}
use Rattle.std.specs.declared.option.Option.{Option}
use Rattle.refusal.specs.declared.Refusal.TheVariants.{NoVolume}

-- ---- sums of measures, and of centres weighted with them

-- nothing summed yet
unfoldable pub no_weight : Weight
no_weight = record { measure = 0·0; moment = origin }

-- one more part with its centre, or a multiple of it
unfoldable pub add_part : Weight → Float → Vec3 → Weight
add_part w m centre = record { measure = w.measure ⊕ m; moment = plus w.moment centre }

-- ---- in 2D, where every face is an edge

-- twice the signed area of the triangle of the average and an edge's ends a and b, both from the average
unfoldable pub twice_area : Vec3 → Vec3 → Float
twice_area a b = a.x ⊗ b.y ⊖ b.x ⊗ a.y

-- an edge's triangle added
unfoldable pub add_triangle : List Vec3 → Vec3 → Weight → List ℕ → Weight
add_triangle ps reference w edge =
    let a = minus (point_at ps (get_or edge 0 0)) reference in
    let b = minus (point_at ps (get_or edge 1 0)) reference in
    add_part w (twice_area a b) (times (plus a b) (twice_area a b))

-- the area is half the sum, the centre lies at a third of the moment; refusal 15, "zero volume"
unfoldable pub centre_2d : Vec3 → Weight → Refusable CellGeometry
centre_2d reference w =
    let area = abs (w.measure ⊗ 0·5) in
    cond (1e-12 ≺ area) (Ok (record { centre = plus reference (over w.moment (3·0 ⊗ w.measure)); volume = area })) (Err NoVolume)

-- ---- in 3D

-- the volume of the tetrahedron of the average and three points
unfoldable pub tetrahedron_volume : Vec3 → Vec3 → Vec3 → Vec3 → Float
tetrahedron_volume reference a b c = dot (minus a reference) (cross (minus b reference) (minus c reference)) ⊘ 6·0

-- one tetrahedron more: its centre is a quarter of its vertices' sum
unfoldable pub add_volume : Vec3 → Weight → Vec3 → Vec3 → Vec3 → Weight
add_volume reference w a b c =
    let v = tetrahedron_volume reference a b c in
    add_part w v (times (plus (plus (plus reference a) b) c) (v ⊘ 4·0))

-- the tetrahedron of the average, a face's first point a and two more in a row
unfoldable pub add_tetrahedron : List Vec3 → Vec3 → Vec3 → Weight → Side ℕ → Weight
add_tetrahedron ps reference a w side = add_volume reference w a (point_at ps side.from) (point_at ps side.to)

-- all tetrahedra of one face
unfoldable pub add_tetrahedra : List Vec3 → Vec3 → Weight → List ℕ → Weight
add_tetrahedra ps reference w [] = w
add_tetrahedra ps reference w (i ∷ l) = fold (add_tetrahedron ps reference (point_at ps i)) w (windows l)

-- the face, "turned outward"; it was found not degenerate before, so that it is not refused here
unfoldable pub tetrahedra_of : List Vec3 → Vec3 → Weight → Refusable Oriented → Refusable Weight
tetrahedra_of ps reference w (Err n) = Err NoVolume
tetrahedra_of ps reference w (Ok f) = Ok (add_tetrahedra ps reference w f.vertices)

-- a face's tetrahedra added
unfoldable pub add_face_3d : List Vec3 → Vec3 → Weight → List ℕ → Refusable Weight
add_face_3d ps reference w l = tetrahedra_of ps reference w (oriented_face 3 ps reference l)

-- the moment over the volume; refusal 15
unfoldable pub centre_3d : Weight → Refusable CellGeometry
centre_3d w = cond (1e-12 ≺ w.measure) (Ok (record { centre = over w.moment w.measure; volume = w.measure })) (Err NoVolume)

-- ---- by dimension

-- the centre and volume of a cell, in 2D or in 3D
unfoldable pub geometry_in : Bool → List Vec3 → Vec3 → List (List ℕ) → Refusable CellGeometry
geometry_in true ps reference faces = centre_2d reference (fold (add_triangle ps reference) no_weight faces)
geometry_in false ps reference faces = steps (add_face_3d ps reference) no_weight faces >>= centre_3d

-- the same, by the number of the dimension
unfoldable pub cell_geometry : ℕ → List Vec3 → Vec3 → List (List ℕ) → Refusable CellGeometry
cell_geometry d ps reference faces = geometry_in (eqb d 2) ps reference faces

-- ---- what an answer means: 15 "zero volume"

-- the geometry, or 15
unfoldable pub cell_of : Option CellGeometry → Refusable CellGeometry
cell_of (Some g) = Ok g
cell_of None = Err NoVolume

-- The words of the contracts: a mesh in the area, and what a cell's points show at a glance.
-- `bare`, `MeshLent`: a mesh in the area, and what is lent. `face_vertex`: a vertex of a face.
-- `sign_with`, `no_signs`, `add_sign`, `face_signs`, `signs_of`: the signs of points, of a face, and of a cell. `may_meet`: the plane may meet it.
use Rattle.std.specs.Prelude.{ℕ, ◌*◌, ◌≤◌, Bool, false, ◌&&◌, ◌||◌, List, [], length, get_or}
use Rattle.arith.specs.Limits.{most_points}
use Rattle.arith.specs.Lists.{fold}
use Rattle.arith.specs.declared.Vec3.{Vec3}
use Rattle.mesh_area.specs.declared.Sizes.{Sizes}
use Rattle.mesh_area.specs.Tables.{Mesh, point_at, face_at, cell_at}
use Rattle.mesh_area.specs.Layout.{points_in, mesh_in, LentWords}
use Rattle.planes_cut.specs.declared.Cut.{Cut}
use Rattle.planes_cut.specs.declared.Signs.{Signs}
use Rattle.planes_cut.specs.Cut.{near, below, above}

-- ---- a mesh in the area, without its measures, which no section uses

-- its points, faces and cells
unfoldable pub bare : List ℕ → ℕ → Sizes → List ℕ → Mesh
bare case points s words = mesh_in (points_in case points) s words []

-- what is lent, as the area's functions want it
pub record MeshLent (case : List ℕ) (points : ℕ) (s : Sizes) (words : List ℕ) : Type 0 where
  pub few-points : points ≤ most_points
  pub long-case : 24 * points ≤ length case
  pub long-words : LentWords s words

-- vertex k of face f
unfoldable pub face_vertex : Mesh → ℕ → ℕ → Vec3
face_vertex m f k = point_at m.points (get_or (face_at m.faces f).vertices k 0)

-- ---- what the points of a cell show at a glance: whether one lies in the plane, one below, one above

-- with those of one point
unfoldable pub sign_with : Cut → Signs → Vec3 → Signs
sign_with c g p = record { near = g.near || near c p; below = g.below || below c p; above = g.above || above c p }

-- those of no point
unfoldable pub no_signs : Signs
no_signs = record { near = false; below = false; above = false }

module _ (m : Mesh) (c : Cut) where
  -- with those of point i
  unfoldable pub add_sign : Signs → ℕ → Signs
  add_sign g i = sign_with c g (point_at m.points i)

  -- with those of face f
  unfoldable pub face_signs : Signs → ℕ → Signs
  face_signs g f = fold add_sign g (face_at m.faces f).vertices

  -- of a cell
  unfoldable pub signs_of : ℕ → Signs
  signs_of cell = fold face_signs no_signs (cell_at m.cells cell).faces

-- the plane may meet a cell with these signs
unfoldable pub may_meet : Signs → Bool
may_meet g = g.near || (g.below && g.above)

-- What the exported function answers, and leaves in its buffers.
use Rattle.std.specs.Prelude.{ℕ, ◌≡◌, cond, List, ltb, length, set, Float, Ok, Err}
use Rattle.arith.specs.declared.Vec3.{Vec3}
use Rattle.reading.specs.Result.{Refusable}
use Rattle.mesh_area.specs.Tables.{Mesh}
use Rattle.mesh_area.specs.Layout.{mesh_in}
use Rattle.mesh.specs.Ensures.{sizes_for}
use Rattle.refusal.specs.Number as numbers

-- the number of the refusal, or 0
unfoldable pub refusal_of : Refusable Mesh → ℕ
refusal_of (Err k) = numbers.number k
refusal_of (Ok m) = 0

-- the three sizes of a mesh with f slots, where there is room for them: F, its faces and its cells
unfoldable pub sizes_of : ℕ → Refusable Mesh → List ℕ → List ℕ
sizes_of f (Err k) l = l
sizes_of f (Ok m) l = cond (ltb (length l) 3) l (set (set (set l 0 f) 1 (length m.faces)) 2 (length m.cells))

-- the number of the refusal or 0, the sizes, and the mesh that stands in the area by them
pub record FromCellsExit (m : Refusable Mesh) (f : ℕ) (ps : List Vec3) (words : List ℕ) (floats : List Float) (sizes sizes' : List ℕ) (r : ℕ) : Type 0 where
  pub number : r ≡ refusal_of m
  pub stored : sizes' ≡ sizes_of f m sizes
  pub stands : (t : Mesh) → m ≡ Ok t → mesh_in ps (sizes_for f t) words floats ≡ t

-- The contracts of `from_cells` and its parts.
-- `built_as`, `sizes_for`, `LaidOut`: what an answer stands for, the sizes of a mesh, and an area that fits them.
-- `join`, `complete`, `fill`, `build` and `from_cells`: `BuildExit`. `partial_mesh_in`: the partial cells in the area.
-- `join`: `JoinEntry`. `complete`: `CompleteEntry`. `build`: `BuildEntry`.
use Rattle.std.specs.Prelude.{ℕ, ◌+◌, ◌*◌, ◌≤◌, ◌<◌, ◌≡◌, List, length, get_or, Float, Ok, Err}
use Rattle.arith.specs.declared.Vec3.{Vec3}
use Rattle.reading.specs.Result.{Refusable}
use Rattle.case_definitions.specs.Faces.{Definition, faces_counted}
use Rattle.case_definitions.specs.Definitions.{definitions}
use Rattle.case_file.specs.Trailer.{opened, words_of}
use Rattle.case_file.specs.declared.Counts.{Counts}
use Rattle.mesh_area.specs.Tables.{Mesh}
use Rattle.mesh_area.specs.Layout.{mesh_in, LentWords, LentFloats, faces_in}
use Rattle.mesh_area.specs.declared.Sizes.{Sizes}
use Rattle.mesh_neighbours.specs.Ensures.{CellLists}
use Rattle.mesh_cells.specs.Cells.{PartialMesh}
use Rattle.mesh_cells.specs.Partial.{partial_cells_in}
use Rattle.mesh_centres.specs.Ensures.{FinishCellsEntry}

-- what each answer of the builder stands for: the mesh that the area holds, or the refusal
unfoldable pub built_as : List Vec3 → List ℕ → List Float → Refusable Sizes → Refusable Mesh
built_as ps words floats (Ok s) = Ok (mesh_in ps s words floats)
built_as ps words floats (Err k) = Err k

-- the sizes of a mesh that has a slot for each of f faces
unfoldable pub sizes_for : ℕ → Mesh → Sizes
sizes_for f m = record { slots = f; faces = length m.faces; cells = length m.cells }

-- a mesh has a slot for each of f faces, in an area that is long enough
unfoldable pub LaidOut : ℕ → List ℕ → List Float → Refusable Sizes → Type 0
LaidOut f words floats (Ok s) = (s.slots ≡ f) × LentWords s words × LentFloats s floats
LaidOut f words floats (Err k) = Unit {0}

-- the answer stands for m, laid out for f faces; so a mesh's sizes are `sizes_for f`, since it has as many faces and cells as they say
pub record BuildExit (m : Refusable Mesh) (f : ℕ) (ps : List Vec3) (words : List ℕ) (floats : List Float) (r : Refusable Sizes) : Type 0 where
  pub answer : built_as ps words floats r ≡ m
  pub laid_out : LaidOut f words floats r

-- the partial cells that the area holds
unfoldable pub partial_mesh_in : List ℕ → Sizes → List ℕ → List Float → PartialMesh
partial_mesh_in ws s words floats = record { faces = faces_in s words floats; cells = partial_cells_in ws s words floats s.cells }

-- the cells have their centres
pub record JoinEntry (s : Sizes) (words : List ℕ) (floats : List Float) : Type 0 where
  pub lent-words : LentWords s words
  pub lent-floats : LentFloats s floats
  pub laid : CellLists s words

-- the cells are partial cells
pub record CompleteEntry (case : List ℕ) (points : ℕ) (ws words : List ℕ) (floats : List Float) (s : Sizes) : Type 0 where
  pub finishable : FinishCellsEntry case points ws words floats s
  pub vertices : (f : ℕ) → f < s.faces → get_or words (12 * f + 0) 0 ≤ 8

-- the case is right, and the area long enough for it
pub record BuildEntry (case : List ℕ) (n : Counts) (faces : ℕ) (words : List ℕ) (floats : List Float) : Type 0 where
  pub opens : opened case ≡ Ok n
  pub defs : List Definition
  pub right : definitions n.cells (words_of case n) ≡ Ok defs
  pub counted : faces ≡ faces_counted defs
  pub long-words : 16 * faces + 96 * n.cells ≤ length words
  pub long-floats : 12 * faces + 64 * n.cells ≤ length floats

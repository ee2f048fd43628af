-- The contracts of `finish_cells` and its parts.
-- `finish_cells`: `FinishCellsEntry`, `FinishCellsExit`. `cell_from`, `floats_of`: a cell's floats. `geometry_at`: its geometry.
-- `finish_record`: `FinishRecordEntry`, `FinishRecordExit`. `finish_cell`: `FinishCellEntry`, `FinishCellExit`.
use Rattle.std.specs.Prelude.{ℕ, ◌*◌, ◌≤◌, ◌+◌, ◌<◌, ◌≡◌, List, [], ◌∷◌, length, get_or, take, drop, Float, Ok, Err}
use Rattle.std.specs.Float.{nan}
use Rattle.arith.specs.declared.Vec3.{Vec3}
use Rattle.reading.specs.Result.{Refusable, map_all}
use Rattle.case_definitions.specs.Faces.{Definition, faces_of}
use Rattle.case_definitions.specs.Definitions.{definitions, Taken, definition}
use Rattle.mesh_area.specs.declared.Sizes.{Sizes}
use Rattle.mesh_area.specs.Layout.{cells_in, floats_end, LentWords, LentFloats, vec_from}
use Rattle.mesh_volumes.specs.Geometry.{cell_geometry}
use Rattle.mesh_coordinates.specs.Coordinates.{PointBytes}
use Rattle.mesh_cells.specs.Partial.{partial_cells_in}
use Rattle.mesh_cells.specs.Ensures.{FaceLists}
use Rattle.arith.specs.Records.{puts}
use Rattle.case_definitions.specs.Ensures.{HeadAt, definition_at}
use Rattle.case_definitions.specs.declared.Cursor.{Cursor}
use Rattle.case_definitions.specs.declared.Head.{Head}
use Rattle.mesh_volumes.specs.declared.CellGeometry.{CellGeometry}
use Rattle.mesh_centres.specs.Finish.{finished, definitions_of, finished_as}
use Rattle.std.specs.declared.option.Option.{Option}
use Rattle.refusal.specs.declared.Refusal.TheVariants.{NoVolume}
use Rattle.std.specs.Prelude.{Some}

-- what the caller of `finish_cells` shows: the area holds the partial cells of the definitions
pub record FinishCellsEntry (case : List ℕ) (points : ℕ) (ws words : List ℕ) (floats : List Float) (s : Sizes) : Type 0 where
  pub lent-words : LentWords s words
  pub lent-floats : LentFloats s floats
  pub points-there : PointBytes case points
  pub defs : List Definition
  pub right : definitions s.cells ws ≡ Ok defs
  pub lists : FaceLists ws s words s.cells s.slots
  pub defined : definitions_of (partial_cells_in ws s words floats s.cells) ≡ defs

-- what it leaves: the cells, or refusal 15; the faces before them and what stands behind them are as they were
pub record FinishCellsExit (d : ℕ) (ps : List Vec3) (ws : List ℕ) (s : Sizes) (words : List ℕ) (floats floats' : List Float) (r : Refusable (Unit {0})) : Type 0 where
  pub cells : map_all (finished d ps) (partial_cells_in ws s words floats s.cells) ≡ finished_as r (cells_in s words floats')
  pub faces : take (12 * s.slots) floats' ≡ take (12 * s.slots) floats
  pub long : length floats' ≡ length floats
  pub later : (j : ℕ) → floats_end s ≤ j → get_or floats' j nan ≡ get_or floats j nan

-- ---- one cell

-- where the floats of cell i start
abbrev pub cell_from : Sizes → ℕ → ℕ
cell_from s i = 12 * s.slots + 4 * i

-- a cell's centre and volume, as they are stored
abbrev pub floats_of : CellGeometry → List Float
floats_of g = g.centre.x ∷ g.centre.y ∷ g.centre.z ∷ g.volume ∷ []

-- the geometry of cell i, whose definition is at `at` and whose average stands where its centre will
unfoldable pub geometry_at : ℕ → List Vec3 → List ℕ → Sizes → List Float → ℕ → ℕ → Refusable CellGeometry
geometry_at d ps ws s floats i at = cell_geometry d ps (vec_from floats (cell_from s i)) (faces_of (definition_at ws at))

-- the floats, the points and the words are as cell i needs them
pub record FinishRecordEntry (case : List ℕ) (points : ℕ) (ws : List ℕ) (floats : List Float) (s : Sizes) (i : ℕ) (h : Head) : Type 0 where
  pub lent-floats : LentFloats s floats
  pub points-there : PointBytes case points
  pub cell : i < s.cells
  pub headed : HeadAt ws h

-- `finish_record`: the geometry of cell i is stored, or it has none
pub data FinishRecordExit (d : ℕ) (ps : List Vec3) (ws : List ℕ) (s : Sizes) (floats floats' : List Float) (i at : ℕ) : Refusable (Unit {0}) → Type 0 where
  stored : (g : CellGeometry) → geometry_at d ps ws s floats i at ≡ Ok g → floats' ≡ puts floats (cell_from s i) (floats_of g)
      → FinishRecordExit d ps ws s floats floats' i at (Ok tt)
  zero : geometry_at d ps ws s floats i at ≡ Err NoVolume → floats' ≡ floats → FinishRecordExit d ps ws s floats floats' i at (Err NoVolume)

-- a right record is at the cursor: `survey` has walked over all of them, so the walker does not refuse one here with 3
pub record FinishCellEntry (case : List ℕ) (points : ℕ) (ws : List ℕ) (floats : List Float) (s : Sizes) (i : ℕ) (c : Cursor) : Type 0 where
  pub lent-floats : LentFloats s floats
  pub points-there : PointBytes case points
  pub cell : i < s.cells
  pub taken : Taken Definition
  pub right : definition (drop c.at ws) ≡ Ok taken

-- `finish_cell`: the geometry of cell i is stored, and the next record starts at q; or it has none
pub data FinishCellExit (d : ℕ) (ps : List Vec3) (ws : List ℕ) (s : Sizes) (floats floats' : List Float) (i at : ℕ) : Refusable Cursor → Type 0 where
  next : (q : Cursor) (g : CellGeometry) → geometry_at d ps ws s floats i at ≡ Ok g → floats' ≡ puts floats (cell_from s i) (floats_of g)
      → definition (drop at ws) ≡ Ok (record { read = definition_at ws at; left = drop q.at ws })
      → FinishCellExit d ps ws s floats floats' i at (Ok q)
  zero : geometry_at d ps ws s floats i at ≡ Err NoVolume → floats' ≡ floats → FinishCellExit d ps ws s floats floats' i at (Err NoVolume)

-- The contracts of `prepare` and its parts: a room that stands in the work area.
-- `room_in`, `counts_in`: the room at a place, and the counts of its case. `Servable`, `RoomStands`: it can be served over.
-- `add_field`, `build_room` and `prepare`: `PrepareExit`. `shortage`: `Shortage`. `add_field`: `AddFieldEntry`.
use Rattle.std.specs.Prelude.{ℕ, ◌≤◌, ◌≡◌, true, List, length, Float, Ok, Err}
use Rattle.arith.specs.F64.{within}
use Rattle.arith.specs.Lists.{all_of}
use Rattle.arith.specs.Vec.{each3}
use Rattle.reading.specs.Result.{Refusable}
use Rattle.case_file.specs.declared.Counts.{Counts}
use Rattle.case_file.specs.Trailer.{opened}
use Rattle.mesh_area.specs.Layout.{points_in, mesh_in, LentWords, LentFloats}
use Rattle.lines_velocity.specs.Ensures.{tracer_field, TracerEntry}
use Rattle.job_room.specs.Room.{Room, flat, solid, Lent, shortage}
use Rattle.job_room.specs.declared.Place.{Place}
use Rattle.job_room.specs.declared.Place.TheVariants.{Flat, Solid}
use Rattle.case_definitions.specs.Faces.{Definition, faces_counted}
use Rattle.mesh_area.specs.declared.Sizes.{Sizes}
use Rattle.lines_field.specs.Ensures.{VertexLimit}
use Rattle.planes_crossings.specs.Ensures.{MeshLimits}
use Rattle.planes_samples.specs.Ensures as Planes
use Rattle.refusal.specs.declared.Refusal.{Refusal}

-- the room that stands at a place
unfoldable pub room_in : List ℕ → List ℕ → List Float → Place → Room
room_in file words floats (Flat t) = flat (tracer_field t file words floats)
room_in file words floats (Solid n s) = solid (mesh_in (points_in file n.points) s words floats)

-- the counts of its case
unfoldable pub counts_in : Place → Counts
counts_in (Flat t) = t.counts
counts_in (Solid n s) = n

-- what the tracer, or the planes, ask of it
unfoldable pub Servable : List ℕ → List ℕ → List Float → Place → Type 0
Servable file words floats (Flat t) = TracerEntry file words floats t
Servable file words floats (Solid n s) = (marks : List ℕ) → n.cells ≤ length marks → Planes.SampleEntry file n s words marks

-- the case is open, and what serves its requests stands in the area
pub record RoomStands (file words : List ℕ) (floats : List Float) (p : Place) : Type 0 where
  pub opens : opened file ≡ Ok (counts_in p)
  pub servable : Servable file words floats p

-- the room stands in the area, or the refusal
pub data PrepareExit (r : Refusable Room) (file words : List ℕ) (floats : List Float) : Refusable Place → Type 0 where
  standing : {p : Place} → r ≡ Ok (room_in file words floats p) → RoomStands file words floats p → PrepareExit r file words floats (Ok p)
  barred : {k : Refusal} → r ≡ Err k → PrepareExit r file words floats (Err k)

-- the refusal of a case with these counts and as many faces
unfoldable pub Shortage : Counts → ℕ → ℕ → Lent → Refusable (Unit {0}) → Type 0
Shortage n faces requests lent r = (defs : List Definition) → faces ≡ faces_counted defs → shortage (record { counts = n; definitions = defs }) requests lent ≡ r

-- the mesh of a case stands in the area, and no point is "beyond 1,048,576 in size"
pub record AddFieldEntry (case : List ℕ) (n : Counts) (s : Sizes) (words : List ℕ) (floats : List Float) : Type 0 where
  pub opens : opened case ≡ Ok n
  pub lent-words : LentWords s words
  pub lent-floats : LentFloats s floats
  pub cells : s.cells ≡ n.cells
  pub few : n.dimension ≡ 2 → VertexLimit (mesh_in (points_in case n.points) s words floats)
  pub bounded : MeshLimits (mesh_in (points_in case n.points) s words floats)
  pub points-within : all_of (each3 within) (points_in case n.points) ≡ true

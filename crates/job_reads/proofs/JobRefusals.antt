-- A job is refused with a number from 1 to 19, or with 45. Assumes nothing.
use Prim.Native.Nat.{ℕ, zero, suc}
use mathlib.Core.Path.{refl}
use mathlib.Core.Bool.{Bool, true, false, cond, ◌||◌}
use mathlib.Core.List.{List, [], ◌∷◌}
use lib.Dec.{leb, eqb}
use lib.ListN.{get_or, length}
use Rattle.arith.specs.F64.{◌⊗◌, ◌≺◌, 0·5, 1e-12, abs}
use Rattle.arith.specs.declared.Vec3.{Vec3}
use Rattle.reading.specs.Result.{Refusable, ◌>>=◌}
use Rattle.mesh_area.specs.Tables.{Face, Cell, Mesh}
use Rattle.case_file.specs.Trailer.{trailer_right, over_limit, counts_of, opened}
use Rattle.case_definitions.specs.Faces.{Definition}
use Rattle.case_definitions.specs.Definitions.{Taken, numbers, counted, face_lists, made, kinds, definition, definitions}
use Rattle.mesh_geometry.specs.Faces.{Oriented, enough, long_enough, face_area_vector, measured, turned_if, oriented_face}
use Rattle.mesh_volumes.specs.declared.Weight.{Weight}
use Rattle.mesh_volumes.specs.Geometry.{centre_2d, tetrahedra_of, add_face_3d, centre_3d, geometry_in, cell_geometry}
use Rattle.mesh_geometry.specs.declared.FaceGeometry.{FaceGeometry}
use Rattle.mesh_faces.specs.declared.Added.{Added}
use Rattle.mesh_faces.specs.Table.{numbered_face, add_face}
use Rattle.mesh_cell_parts.specs.Parts.{add_face_of}
use Rattle.mesh_cells.specs.Cells.{PartialCell, PartialMesh, add_cell, partial_mesh}
use Rattle.mesh_centres.specs.Finish.{finished}
use Rattle.mesh_coordinates.specs.Coordinates.{acceptable}
use Rattle.mesh.specs.Mesh.{joined, completed, filled, from_cells}
use Rattle.case_survey.specs.Survey.{CaseSurvey, survey_of}
use Rattle.mesh.specs.Case.{mesh_of}
use Rattle.lines_locate.specs.Field.{zoned}
use Rattle.lines_field.specs.Field.{grid_for, grid_of, field_of}
use Rattle.job_room.specs.Room.{Room, Lent, room_from, room_of, shortage, prepared}
use Rattle.job_reads.proofs.Ranges.{among, Ranged, due, none, bind, barred, either, through, each}
use Rattle.std.specs.Prelude.{Ok, Err}
use Rattle.case_file.specs.declared.Counts.{Counts}
use Rattle.refusal.specs.declared.Refusal.TheVariants.{WrongTrailer, CountOverLimit, WrongDefinitions, ShortWorkArea, ShortMarks, WrongRequestBytes, ShortAnswers, NoCells, CoordinateNotFinite, CoordinateTooLarge, WrongKind, NoSuchPoint, DegenerateFace, ThirdUser, NoVolume, WrongOrientation, NotConnected, FlatBounds, TooManyBins, ZoneTooLarge}

abbrev pub job_number : ℕ → Bool
job_number k = among 1 19 k || eqb k 45

abbrev pub Job : {A : Type 0} → Refusable A → Type 0
Job r = Ranged job_number r

-- ---- 1 to 3, and 45

opening : (file : List ℕ) → Job ((opened file))
unfolding opened
opening file = by (trailer_right file) (over_limit (counts_of file))
  where
    by : (a b : Bool) → Job ((cond a (cond b (Err CountOverLimit) (Ok (counts_of file))) (Err WrongTrailer)))
    by false b = due WrongTrailer refl
    by true true = due CountOverLimit refl
    by true false = none

taking : (n : ℕ) (ws : List ℕ) → Job (numbers n ws)
unfolding numbers
taking n ws = either (leb n (length ws)) none (due WrongDefinitions refl)

counting : {A : Type 0} (limit : ℕ) (rest : ℕ → List ℕ → Refusable (Taken A)) → ((n : ℕ) (ws : List ℕ) → Job (rest n ws)) → (ws : List ℕ) → Job (counted limit rest ws)
unfolding counted
counting limit rest h [] = due WrongDefinitions refl
counting {A} limit rest h (n ∷ ws) = by (leb n limit)
  where
    by : (t : Bool) → Job {A = Taken A} (elim t [ false ↦ Err WrongDefinitions | true ↦ rest n ws ])
    by true = h n ws
    by false = due WrongDefinitions refl

listing : (n : ℕ) (ws : List ℕ) → Job (face_lists n ws)
unfolding face_lists
listing zero ws = none
listing (suc n) ws = bind (counting 8 numbers taking ws) (λ f. bind (listing n f.left) (λ fs. none))

making : {A : Type 0} (f : A → Definition) (r : Refusable (Taken A)) → Job r → Job (made f r)
unfolding made
making f r h = bind h (λ w. none)

defining : (ws : List ℕ) → Job (definition ws)
unfolding definition kinds
defining [] = due WrongDefinitions refl
defining (k ∷ ws) = by k
  where
    by : (k : ℕ) → Job (get_or kinds k (λ ws. Err WrongDefinitions) ws)
    by zero = making _ _ (counting 24 numbers taking ws)
    by (suc zero) = making _ _ (taking 4 ws)
    by (suc (suc zero)) = making _ _ (taking 8 ws)
    by (suc (suc (suc zero))) = making _ _ (taking 6 ws)
    by (suc (suc (suc (suc zero)))) = making _ _ (taking 5 ws)
    by (suc (suc (suc (suc (suc zero))))) = making _ _ (counting 24 face_lists listing ws)
    by (suc (suc (suc (suc (suc (suc k)))))) = due WrongDefinitions refl

all-defining : (n : ℕ) (ws : List ℕ) → Job (definitions n ws)
unfolding definitions
all-defining zero [] = none
all-defining zero (w ∷ ws) = due WrongDefinitions refl
all-defining (suc n) ws = bind (defining ws) (λ d. bind (all-defining n d.left) (λ ds. none))

surveying : (file : List ℕ) → Job (survey_of file)
unfolding survey_of
surveying file = bind (opening file) (λ n. bind (all-defining _ _) (λ ds. bind (barred ZoneTooLarge _ refl) (λ _. none)))

-- ---- 4 to 7

lending : (c : CaseSurvey) (requests : ℕ) (lent : Lent) → Job (shortage c requests lent)
unfolding shortage
lending c requests lent =
    bind (barred ShortWorkArea _ refl) (λ _. bind (barred ShortMarks _ refl) (λ _. bind (barred WrongRequestBytes _ refl) (λ _. barred ShortAnswers _ refl)))

-- ---- 8 to 17

module _ (d : ℕ) (ps : List Vec3) where
  measuring : (l : List ℕ) → Job (measured d ps l)
  unfolding measured face_area_vector long_enough
  measuring l =
      bind (either (enough d l) (either (1e-12 ≺ _) none (due DegenerateFace refl)) (due DegenerateFace refl)) (λ v. none)

  turning : (t : Bool) (f : Oriented) → Job (turned_if t d ps f)
  unfolding turned_if
  turning true f = measuring _
  turning false f = none

  orienting : (reference : Vec3) (l : List ℕ) → Job (oriented_face d ps reference l)
  unfolding oriented_face
  orienting reference l = bind (measuring l) (λ f. turning _ f)

  placing : (a : Added) (fs : List Face) → Job (numbered_face a fs)
  unfolding numbered_face
  placing (Added.New i) fs = none
  placing (Added.Second i) fs = none
  placing Added.Third fs = due ThirdUser refl

  adding-one : (cell : ℕ) (l : List ℕ) (m : FaceGeometry) (fs : List Face) → Job (add_face cell l m fs)
  unfolding add_face
  adding-one cell l m fs = placing _ _

  drafting : (defs : List Definition) → Job (partial_mesh d ps defs)
  unfolding partial_mesh add_cell add_face_of
  drafting defs =
      through (add_cell d ps)
      (λ t def.
      bind (barred WrongKind _ refl) (λ _.
      bind (barred NoSuchPoint _ refl) (λ _.
      bind (through _ (λ g l. bind (orienting _ l) (λ o. bind (adding-one _ _ _ _) (λ p. none))) _ _) (λ g. none))))
      _
      defs

  fanning : (reference : Vec3) (w : Weight) (r : Refusable Oriented) → Job (tetrahedra_of ps reference w r)
  unfolding tetrahedra_of
  fanning reference w (Err n) = due NoVolume refl
  fanning reference w (Ok f) = none

  summing : (reference : Vec3) (w : Weight) (l : List ℕ) → Job (add_face_3d ps reference w l)
  unfolding add_face_3d
  summing reference w l = fanning reference w _

  centring-2d : (reference : Vec3) (w : Weight) → Job (centre_2d reference w)
  unfolding centre_2d
  centring-2d reference w = either (1e-12 ≺ abs (w.measure ⊗ 0·5)) none (due NoVolume refl)

  centring-3d : (w : Weight) → Job (centre_3d w)
  unfolding centre_3d
  centring-3d w = either (1e-12 ≺ w.measure) none (due NoVolume refl)

  weighing : (t : Bool) (reference : Vec3) (faces : List (List ℕ)) → Job (geometry_in t ps reference faces)
  unfolding geometry_in
  weighing true reference faces = centring-2d reference _
  weighing false reference faces = bind (through (add_face_3d ps reference) (summing reference) _ faces) centring-3d

  finishing : (c : PartialCell) → Job (finished d ps c)
  unfolding finished cell_geometry
  finishing c = bind (weighing (eqb d 2) _ _) (λ g. none)

  joining : (fs : List Face) (cs : List Cell) → Job (joined ps fs cs)
  unfolding joined
  joining fs cs = bind (barred WrongOrientation _ refl) (λ _. bind (barred NotConnected _ refl) (λ _. none))

  completing : (t : PartialMesh) → Job (completed d ps t)
  unfolding completed
  completing t = bind (each (finished d ps) finishing t.cells) (λ cs. joining _ cs)

  accepting : (defs : List Definition) → Job (acceptable ps defs)
  unfolding acceptable
  accepting defs =
      bind (barred NoCells _ refl) (λ _. bind (barred CoordinateNotFinite _ refl) (λ _. barred CoordinateTooLarge _ refl))

  meshing : (defs : List Definition) → Job (from_cells d ps defs)
  unfolding from_cells filled
  meshing defs = bind (accepting defs) (λ _. bind (drafting defs) (λ t. completing t))

-- ---- 18 and 19

gridding : (m : Mesh) → Job (field_of m)
unfolding field_of grid_of grid_for
gridding m =
    bind (bind (barred FlatBounds _ refl) (λ _. bind (barred TooManyBins _ refl) (λ _. none))) (λ g. none)

rooming : (d : ℕ) (zones : List ℕ) (m : Mesh) → Job (room_from d zones m)
unfolding room_from
rooming d zones m = by (eqb d 2)
  where
    by : (t : Bool) → Job {A = Room} (elim t as (λ _. Refusable Room) [ true ↦ field_of m >>= λ f. Ok (Room.flat (zoned zones f)) | false ↦ Ok (Room.solid m) ])
    by true = bind (gridding m) (λ f. none)
    by false = none

-- ---- all

pub job-refusals : (file : List ℕ) (requests : ℕ) (lent : Lent) → Job (prepared file requests lent)
unfolding prepared room_of mesh_of
job-refusals file requests lent =
    bind (surveying file) (λ c. bind (lending c requests lent) (λ _. bind (meshing _ _ _) (λ m. rooming _ _ m)))

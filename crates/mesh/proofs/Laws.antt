-- Laws of the parts of `from_cells`. Assumes nothing.
use Prim.Native.Nat.{ℕ, zero, suc, ◌+◌, ◌*◌, ◌≤◌, ◌<◌}
use native.Mathlib.Omega.{arith}
use mathlib.Core.Path.{◌≡◌, refl, ap, ap₂, sym, ◌∙◌, subst}
use mathlib.Core.Bool.{Bool, true, false, ◌||◌}
use mathlib.Core.List.{List}
use lib.ListN.{length, get_or}
use lib.Dec.{ltb}
use lib.Ieee.{Float}
use borrow.Author.Tests.{lt-ltb, le-ltb, ltb-false}
use Rattle.arith.specs.Lists.{any_of}
use Rattle.arith.specs.declared.Vec3.{Vec3}
use Rattle.reading.specs.Result.{Refusable, ◌>>=◌, refuse, map_all}
use Rattle.case_definitions.specs.Faces.{Definition, faces_counted}
use Rattle.case_definitions.specs.Definitions.{definitions}
use Rattle.case_file.specs.Trailer.{opened, words_of}
use Rattle.case_file.specs.declared.Counts.{Counts}
use Rattle.mesh_area.specs.declared.Sizes.{Sizes}
use Rattle.mesh_area.specs.Tables.{Face, Cell, Mesh}
use Rattle.mesh_area.specs.Layout.{faces_in, cells_in, mesh_in, LentWords, LentFloats, points_in}
use Rattle.mesh_area.proofs.LayoutLaws.{length-faces_in, length-cells_in, mesh-same}
use Rattle.mesh_orientation.specs.Orientation.{misplaced}
use Rattle.mesh_neighbours.specs.Neighbours.{linked}
use Rattle.mesh_neighbours.specs.Ensures.{FillNeighboursExit, CellLists}
use Rattle.mesh_connection.specs.Connection.{connected_cells}
use Rattle.mesh_connection.specs.Ensures.{EnsureConnectedExit}
use Rattle.mesh.specs.Mesh.{joined}
use Rattle.case_survey.specs.Survey.{survey_of}
use Rattle.case_survey.proofs.Laws.{survey-right}
use Rattle.mesh.specs.Case.{area_short, mesh_of, case_faces, mesh_from}
use Rattle.mesh.specs.Ensures.{built_as, sizes_for, LaidOut, BuildExit, partial_mesh_in}
use Rattle.arith.proofs.RecordLaws.{tab-same}
use Rattle.case_file.specs.Field.{outside, zones_within}
use Rattle.case_file.proofs.OutsideLaws.{outside-point}
use Rattle.mesh_faces.specs.Ensures.{with_faces}
use Rattle.mesh_cells.specs.Cells.{PartialCell, PartialMesh, partial_mesh}
use Rattle.mesh_cells.specs.Ensures as cells
use Rattle.mesh_cells.specs.Partial.{partial_cell_in, partial_cells_in}
use Rattle.mesh_cells.specs.Ensures.{FaceLists, PartialMeshHeld, AddCellsExit, added}
use Rattle.mesh_centres.specs.Finish.{finished, finished_as}
use Rattle.mesh_coordinates.specs.Coordinates.{acceptable}
use Rattle.mesh.specs.Mesh.{completed, filled, from_cells}
use Rattle.std.specs.Prelude.{Ok, Err}
use Rattle.refusal.specs.declared.Refusal.{Refusal}
use Rattle.refusal.specs.declared.Refusal.TheVariants.{ShortWorkArea, NoVolume, WrongOrientation, NotConnected}

-- ---- what the builder answers

-- a mesh that stands in the area
pub record Standing (m : Refusable Mesh) (n : ℕ) (ps : List Vec3) (w : List ℕ) (f : List Float) (s : Sizes) : Type 0 where
  pub mesh : m ≡ Ok (mesh_in ps s w f)
  pub slots : s.slots ≡ n
  pub lent-words : LentWords s w
  pub lent-floats : LentFloats s f

module _ {m : Refusable Mesh} {n : ℕ} {ps : List Vec3} {w : List ℕ} {f : List Float} where
  pub built : {s : Sizes} → m ≡ Ok (mesh_in ps s w f) → s.slots ≡ n → LentWords s w → LentFloats s f → BuildExit m n ps w f (Ok s)
  unfolding built_as LaidOut
  built e k lw lf = record { answer = sym e; laid_out = (k, lw, lf) }

  pub barred : {k : Refusal} → m ≡ Err k → BuildExit m n ps w f (Err k)
  unfolding built_as LaidOut
  barred e = record { answer = sym e; laid_out = tt }

  pub building-refused : {r : Refusable Sizes} (k : Refusal) → BuildExit m n ps w f r → r ≡ Err k → m ≡ Err k
  unfolding built_as
  building-refused k b e = sym b.answer ∙ ap (built_as ps w f) e

  pub building-mesh : {r : Refusable Sizes} (s : Sizes) → BuildExit m n ps w f r → r ≡ Ok s → Standing m n ps w f s
  unfolding built_as LaidOut
  building-mesh s b e =
      let l = rw e at b.laid_out in
      record { mesh = sym b.answer ∙ ap (built_as ps w f) e; slots = l.0; lent-words = l.1; lent-floats = l.2 }

  -- so the answer is determined
  pub standing-sizes : (s : Sizes) (t : Mesh) → Standing m n ps w f s → m ≡ Ok t → s ≡ sizes_for n t
  unfolding sizes_for mesh_in
  standing-sizes s t p e =
      let g : mesh_in ps s w f ≡ t = cc p.mesh in
      rw (← g, length-faces_in s w f, length-cells_in s w f, ← p.slots)

-- the mesh or F of a definition are those of another
pub built-as : {m m' : Refusable Mesh} {n n' : ℕ} {ps : List Vec3} {w : List ℕ} {f : List Float} {r : Refusable Sizes} → m ≡ m' → n ≡ n' → BuildExit m n ps w f r → BuildExit m' n' ps w f r
built-as {ps} {w} {f} {r} e k b = rw (← e, ← k) b

-- ---- 16 and 17

module _ (ps : List Vec3) (fs : List Face) (cs : List Cell) where
  pub join-16 : any_of (misplaced cs) fs ≡ true → joined ps fs cs ≡ Err WrongOrientation
  unfolding joined refuse ◌>>=◌
  join-16 e = rw (e, refuse, ◌>>=◌)

  pub join-17 : any_of (misplaced cs) fs ≡ false → connected_cells (linked fs cs) ≡ false → joined ps fs cs ≡ Err NotConnected
  unfolding joined refuse ◌>>=◌
  join-17 e g = rw (e, g, refuse, ◌>>=◌)

  pub join-fine : any_of (misplaced cs) fs ≡ false → connected_cells (linked fs cs) ≡ true → joined ps fs cs ≡ Ok (record { points = ps; faces = fs; cells = linked fs cs })
  unfolding joined refuse ◌>>=◌
  join-fine e g = rw (e, g, refuse, ◌>>=◌)

-- what neighbours and search leave
module _ (ps : List Vec3) (s : Sizes) (w w' w'' : List ℕ) (floats : List Float) (r : Bool) (l : FillNeighboursExit s w w') (k : EnsureConnectedExit s w' w'' r) where
  reached : r ≡ connected_cells (linked (faces_in s w floats) (cells_in s w floats))
  reached = k.result floats ∙ ap connected_cells (l.cells floats)

  mesh-joined : mesh_in ps s w'' floats ≡ record { points = ps; faces = faces_in s w floats; cells = linked (faces_in s w floats) (cells_in s w floats) }
  unfolding mesh_in
  mesh-joined = mesh-same ps s w' w'' floats floats k.kept refl ∙ rw (l.faces floats, l.cells floats)

  pub joined-17 : any_of (misplaced (cells_in s w floats)) (faces_in s w floats) ≡ false → r ≡ false → BuildExit (joined ps (faces_in s w floats) (cells_in s w floats)) s.slots ps w'' floats (Err NotConnected)
  joined-17 e g = barred (join-17 ps (faces_in s w floats) (cells_in s w floats) e (sym reached ∙ g))

  pub joined-mesh : any_of (misplaced (cells_in s w floats)) (faces_in s w floats) ≡ false → r ≡ true → LentWords s w → LentFloats s floats → length w'' ≡ length w → BuildExit (joined ps (faces_in s w floats) (cells_in s w floats)) s.slots ps w'' floats (Ok s)
  joined-mesh e g lw lf n =
      built (join-fine ps (faces_in s w floats) (cells_in s w floats) e (sym reached ∙ g) ∙ ap Ok (sym mesh-joined)) refl
      (record { few-slots = lw.few-slots; few-faces = lw.few-faces; few-cells = lw.few-cells; long = rw n lw.long }) lf

-- ---- the points of a case stand outside its field

pub outside-points : (file : List ℕ) (n : Counts) → opened file ≡ Ok n → points_in (outside file) n.points ≡ points_in file n.points
unfolding points_in
outside-points file n o = tab-same _ _ n.points (outside-point file n o)

-- ---- 8, 9 and 10

module _ (ps : List Vec3) (defs : List Definition) where
  pub from-refused : (d : ℕ) (k : Refusal) → Err k ≡ acceptable ps defs → from_cells d ps defs ≡ Err k
  unfolding from_cells ◌>>=◌
  from-refused d k e = rw (← e, ◌>>=◌)

  pub from-filled : (d : ℕ) → Ok tt ≡ acceptable ps defs → from_cells d ps defs ≡ filled d ps defs
  unfolding from_cells ◌>>=◌
  from-filled d e = rw (← e, ◌>>=◌)

  -- ---- 11 to 15

  pub filled-refused : (d : ℕ) (k : Refusal) → partial_mesh d ps defs ≡ Err k → filled d ps defs ≡ Err k
  unfolding filled ◌>>=◌
  filled-refused d k e = rw (e, ◌>>=◌)

  pub filled-fine : (d : ℕ) (t : PartialMesh) → partial_mesh d ps defs ≡ Ok t → completed d ps t ≡ filled d ps defs
  unfolding filled ◌>>=◌
  filled-fine d t e = rw (e, ◌>>=◌)

pub completed-15 : (d : ℕ) (ps : List Vec3) (t : PartialMesh) (k : Refusal) → map_all (finished d ps) t.cells ≡ Err k → completed d ps t ≡ Err k
unfolding completed ◌>>=◌
completed-15 d ps t k e = rw (e, ◌>>=◌)

pub completed-fine : (d : ℕ) (ps : List Vec3) (t : PartialMesh) (cs : List Cell) → map_all (finished d ps) t.cells ≡ Ok cs → joined ps t.faces cs ≡ completed d ps t
unfolding completed ◌>>=◌
completed-fine d ps t cs e = rw (e, ◌>>=◌)

-- what `add_cells` answers
pub record Partial-mesh (d : ℕ) (ps : List Vec3) (ws : List ℕ) (defs : List Definition) (s : Sizes) (words : List ℕ) (floats : List Float) (n : ℕ) : Type 0 where
  pub t : PartialMesh
  pub partial : partial_mesh d ps defs ≡ Ok t
  pub held : PartialMeshHeld ws s words floats n t

module _ {d : ℕ} {ps : List Vec3} {ws : List ℕ} {defs : List Definition} {s : Sizes} {words : List ℕ} {floats : List Float} where
  pub adding-refused : {r : Refusable ℕ} (k : Refusal) → AddCellsExit d ps ws defs s words floats r → r ≡ Err k → partial_mesh d ps defs ≡ Err k
  adding-refused k (cells.refusing {k = j} e) g = let h : j ≡ k = cc in e ∙ ap Err h
  adding-refused k (added e h) g = absurd (let z : ◌≡◌ {A = ℕ} 0 1 = cc in omega arith)

  pub adding-faces : {r : Refusable ℕ} (n : ℕ) → AddCellsExit d ps ws defs s words floats r → r ≡ Ok n → Partial-mesh d ps ws defs s words floats n
  adding-faces n (cells.refusing e) g = absurd (let z : ◌≡◌ {A = ℕ} 0 1 = cc in omega arith)
  adding-faces n (added {n = m} {t = t} e h) g = let p : m ≡ n = cc in record { t = t; partial = e; held = subst (λ (x : ℕ). PartialMeshHeld ws s words floats x t) p h }

-- the partial cells that the area holds are those
pub held-is : (ws : List ℕ) (s : Sizes) (words : List ℕ) (floats : List Float) (n : ℕ) (t : PartialMesh) → PartialMeshHeld ws s words floats n t → partial_mesh_in ws (with_faces s n) words floats ≡ t
unfolding partial_mesh_in partial_cells_in partial_cell_in
held-is ws s words floats n t h = ap₂ (λ (f : List Face) (c : List PartialCell). record { faces = f; cells = c }) h.table h.cells

-- the lists of the cells follow each other
pub laid_out : (ws : List ℕ) (s : Sizes) (words : List ℕ) → FaceLists ws s words s.cells s.slots → ((f : ℕ) → f < s.faces → get_or words (12 * f + 0) 0 ≤ 8) → CellLists s words
laid_out ws s words l c =
    record {
      vertices = c;
      next = λ i h. let e = l.next i h in omega arith;
      last = λ i h. let e = l.last i h in omega arith;
    }

-- the number of faces in the sizes does not matter to the partial cells
pub held-sized : (ws : List ℕ) (s : Sizes) (words : List ℕ) (floats : List Float) (n : ℕ) (t : PartialMesh) → PartialMeshHeld ws s words floats n t → PartialMeshHeld ws (with_faces s n) words floats n t
unfolding partial_cells_in partial_cell_in
held-sized ws s words floats n t h =
    record {
      table = h.table;
      few = h.few;
      vertices = h.vertices;
      cells = h.cells;
      lists =
          record {
            first = h.lists.first;
            next = h.lists.next;
            last = h.lists.last;
            none = h.lists.none;
            few = h.lists.few;
            counts = h.lists.counts;
            unlinked = h.lists.unlinked;
          };
    }

-- an area that is as long as before is lent for n faces
pub lent-words : (s : Sizes) (n : ℕ) (w w' : List ℕ) → LentWords s w → length w' ≡ length w → n ≤ s.slots → LentWords (with_faces s n) w'
lent-words s n w w' l e h = record { few-slots = l.few-slots; few-faces = h; few-cells = l.few-cells; long = rw e l.long }

pub lent-floats : (s : Sizes) (n : ℕ) (f f' : List Float) → LentFloats s f → length f' ≡ length f → n ≤ s.slots → LentFloats (with_faces s n) f'
lent-floats s n f f' l e h = record { few-slots = l.few-slots; few-faces = h; few-cells = l.few-cells; long = rw e l.long }

-- ---- 4

module _ (file : List ℕ) (n : Counts) (ds : List Definition) (o : opened file ≡ Ok n) (r : definitions n.cells (words_of file n) ≡ Ok ds) (z : zones_within file ≡ true) (words floats : ℕ) where
  there : survey_of file ≡ Ok (record { counts = n; definitions = ds })
  there = survey-right file n o ds r z

  pub faces-all : faces_counted ds ≡ case_faces (survey_of file)
  unfolding case_faces
  faces-all = sym (ap case_faces there)

  pub short-area : area_short (record { counts = n; definitions = ds }) words floats ≡ true → mesh_from file words floats ≡ Err ShortWorkArea
  unfolding mesh_from refuse ◌>>=◌
  short-area h = rw (there, ◌>>=◌) (rw (h, refuse, ◌>>=◌))

  pub long-area : area_short (record { counts = n; definitions = ds }) words floats ≡ false → mesh_from file words floats ≡ from_cells n.dimension (points_in file n.points) ds
  unfolding mesh_from mesh_of refuse ◌>>=◌
  long-area h = rw (there, ◌>>=◌) (rw (h, refuse, ◌>>=◌))

module _ (n : Counts) (faces words floats : ℕ) where
  pub short-words : words < 16 * faces + 96 * n.cells → (defs : List Definition) → faces ≡ faces_counted defs → true ≡ area_short (record { counts = n; definitions = defs }) words floats
  unfolding area_short
  short-words h defs e = rw (← e, lt-ltb words (16 * faces + 96 * n.cells) h)

  pub short-floats : 16 * faces + 96 * n.cells ≤ words → (defs : List Definition) → faces ≡ faces_counted defs
      → ltb floats (12 * faces + 64 * n.cells) ≡ area_short (record { counts = n; definitions = defs }) words floats
  unfolding area_short
  short-floats h defs e = rw (← e, le-ltb words (16 * faces + 96 * n.cells) h)

or_left : (a b : Bool) → (a || b) ≡ false → a ≡ false
or_left true b e = e
or_left false b e = refl

or_right : (a b : Bool) → (a || b) ≡ false → b ≡ false
or_right true b e = absurd (let z : ◌≡◌ {A = ℕ} 0 1 = cc in omega arith)
or_right false b e = e

-- what an area that is not too short has room for
pub record Long (n : Counts) (faces words floats : ℕ) : Type 0 where
  pub words_long : 16 * faces + 96 * n.cells ≤ words
  pub floats-long : 12 * faces + 64 * n.cells ≤ floats

pub area-long : (n : Counts) (faces words floats : ℕ) (defs : List Definition) → faces ≡ faces_counted defs
    → area_short (record { counts = n; definitions = defs }) words floats ≡ false → Long n faces words floats
unfolding area_short
area-long n faces words floats defs e h =
    record {
      words_long = rw e (ltb-false _ _ (or_left _ _ h));
      floats-long = rw e (ltb-false _ _ (or_right (ltb words (16 * faces_counted defs + 96 * n.cells)) _ h));
    }

pub mesh-shut : (file : List ℕ) (words floats : ℕ) (k : Refusal) → survey_of file ≡ Err k → mesh_from file words floats ≡ Err k
unfolding mesh_from ◌>>=◌
mesh-shut file words floats k e = rw (e, ◌>>=◌)

-- ---- what `finish_cells` answers

pub finish-zero : (m : Refusable (List Cell)) (r : Refusable (Unit {0})) (cs : List Cell) (x : Refusal) → m ≡ finished_as r cs → r ≡ Err x → m ≡ Err x
unfolding finished_as
finish-zero m r cs x e g = e ∙ ap (λ (r : Refusable (Unit {0})). finished_as r cs) g

pub finish-done : (m : Refusable (List Cell)) (r : Refusable (Unit {0})) (cs : List Cell) → m ≡ finished_as r cs → r ≡ (Ok tt) → m ≡ Ok cs
unfolding finished_as
finish-done m r cs e g = e ∙ ap (λ (r : Refusable (Unit {0})). finished_as r cs) g

module _ (d : ℕ) (ps : List Vec3) (ws : List ℕ) (s : Sizes) (words : List ℕ) (floats : List Float) where
  pub complete-15 : (w : List ℕ) (f : List Float) (k : Refusal) → map_all (finished d ps) (partial_cells_in ws s words floats s.cells) ≡ Err k → BuildExit (completed d ps (partial_mesh_in ws s words floats)) s.slots ps w f (Err k)
  unfolding partial_mesh_in
  complete-15 w f k e = barred (completed-15 d ps (partial_mesh_in ws s words floats) k e)

  pub complete-done : (fs : List Face) (cs : List Cell) (w : List ℕ) (f : List Float) (r : Refusable Sizes) → fs ≡ faces_in s words floats
      → map_all (finished d ps) (partial_cells_in ws s words floats s.cells) ≡ Ok cs → BuildExit (joined ps fs cs) s.slots ps w f r → BuildExit (completed d ps (partial_mesh_in ws s words floats)) s.slots ps w f r
  unfolding partial_mesh_in
  complete-done fs cs w f r e g b =
      built-as (ap (λ (x : List Face). joined ps x cs) e ∙ completed-fine d ps (partial_mesh_in ws s words floats) cs g) refl b

-- What the mesh of a case has of its partial cells, and so how many vertices, faces and vertices it has. Assumes nothing.
use Prim.Native.Nat.{ℕ, zero, suc, ◌≤◌, ◌<◌}
use native.Mathlib.Omega.{arith}
use mathlib.Core.Path.{◌≡◌, refl, ap, sym, ◌∙◌}
use mathlib.Core.Bool.{true}
use mathlib.Core.List.{List, [], ◌∷◌}
use mathlib.Core.Logic.{◌⊎◌, inl, inr}
use lib.ListN.{length, get_or, get_or-eq_default}
use borrow.Author.Tests.{not-false}
use Rattle.arith.specs.F64.{finite, within}
use Rattle.arith.specs.Lists.{all_of}
use Rattle.arith.specs.Vec.{each3, origin}
use Rattle.arith.specs.declared.Vec3.{Vec3}
use Rattle.arith.proofs.RecordLaws.{length-tab, get_or-tab, lt-or-ge}
use Rattle.reading.specs.Result.{Refusable, map_all}
use Rattle.reading.proofs.ResultLaws.{bound, not-due, length-map_all}
use Rattle.case_definitions.specs.Faces.{Definition, polygon}
use Rattle.case_definitions.specs.Definitions.{definitions}
use Rattle.mesh_area.specs.Tables.{Face, Cell, Mesh, no_cell, cell_at}
use Rattle.mesh_neighbours.specs.Neighbours.{linked, linked_at}
use Rattle.mesh_cells.specs.Cells.{PartialCell, PartialMesh, partial_mesh}
use Rattle.mesh_centres.specs.Finish.{finished}
use Rattle.mesh_coordinates.specs.Coordinates.{acceptable}
use Rattle.mesh.specs.Mesh.{joined, completed, filled, from_cells}
use Rattle.lines_field.specs.Ensures.{VertexLimit}
use Rattle.planes_crossings.specs.Ensures.{MeshLimits}
use Rattle.lines_vertices.proofs.Shapes.{Limited, Over}
use Rattle.lines_vertices.proofs.CellLaws.{cells-counted, faces-of-cells, limited-faces, eight-vertices}
use Rattle.lines_vertices.proofs.VertexLaws.{few-polygon-vertices}
use Rattle.lines_vertices.proofs.LimitLaws.{all-limited}
use Rattle.std.specs.Prelude.{Ok}
use Rattle.refusal.specs.declared.Refusal.TheVariants.{CoordinateNotFinite, CoordinateTooLarge}

pub fine-same : {A : Type 0} {a b : A} → ◌≡◌ {A = Refusable A} (Ok a) (Ok b) → a ≡ b
fine-same e = cc

-- the value of each element
map_all-at : {A B : Type 0} (f : A → Refusable B) (l : List A) (k : List B) (a : A) (b : B) → map_all f l ≡ Ok k → (i : ℕ) → i < length l → f (get_or l i a) ≡ Ok (get_or k i b)
unfolding map_all
map_all-at f [] k a b e i h = absurd (omega arith)
map_all-at f (x ∷ l) k a b e zero h =
    let b1 = bound _ _ _ e in
    let b2 = bound _ _ _ b1.then in
    let w : b1.value ∷ b2.value ≡ k = fine-same b2.then in
    rw (← w) b1.had
map_all-at f (x ∷ l) k a b e (suc i) h =
    let b1 = bound _ _ _ e in
    let b2 = bound _ _ _ b1.then in
    let w : b1.value ∷ b2.value ≡ k = fine-same b2.then in
    rw (← w) (map_all-at f l b2.value a b b2.had i (omega arith))

-- ---- a cell that is finished, and one with its neighbours, has the faces of its partial cell

finished-faces : (d : ℕ) (ps : List Vec3) (c : PartialCell) (k : Cell) → finished d ps c ≡ Ok k → k.faces ≡ c.faces
unfolding finished
finished-faces d ps c k e = let b = bound _ _ _ e in ap (λ (k : Cell). k.faces) (sym (fine-same b.then))

length-linked : (fs : List Face) (cs : List Cell) → length (linked fs cs) ≡ length cs
unfolding linked
length-linked fs cs = length-tab (linked_at fs cs) (length cs)

linked-faces : (fs : List Face) (cs : List Cell) (i : ℕ) → i < length cs → (cell_at (linked fs cs) i).faces ≡ (get_or cs i no_cell).faces
unfolding linked linked_at cell_at
linked-faces fs cs i h = ap (λ (c : Cell). c.faces) (get_or-tab (linked_at fs cs) (length cs) i no_cell h)

-- a cell that is not there
past : (cs : List Cell) (i : ℕ) → length cs ≤ i → cell_at cs i ≡ no_cell
unfolding cell_at
past cs i h = get_or-eq_default cs no_cell h

-- ---- the partial cells of a mesh

pub record FromDrafts (d : ℕ) (ps : List Vec3) (defs : List Definition) (m : Mesh) : Type 0 where
  pub t : PartialMesh
  pub partial : partial_mesh d ps defs ≡ Ok t
  pub whole : all_of (each3 finite) ps ≡ true
  pub near : all_of (each3 within) ps ≡ true
  pub over : (none : PartialCell) → Over ps t none m

all-finite : (ps : List Vec3) (defs : List Definition) (u : Unit {0}) → acceptable ps defs ≡ Ok u → all_of (each3 finite) ps ≡ true
unfolding acceptable
all-finite ps defs u e =
    let b8 = bound _ _ _ e in
    let b9 = bound _ _ _ b8.then in
    not-false _ (not-due CoordinateNotFinite _ _ b9.had)

all-within : (ps : List Vec3) (defs : List Definition) (u : Unit {0}) → acceptable ps defs ≡ Ok u → all_of (each3 within) ps ≡ true
unfolding acceptable
all-within ps defs u e =
    let b8 = bound _ _ _ e in
    let b9 = bound _ _ _ b8.then in
    not-false _ (not-due CoordinateTooLarge _ _ b9.then)

joined_is : (ps : List Vec3) (fs : List Face) (cs : List Cell) (m : Mesh) → joined ps fs cs ≡ Ok m → record { points = ps; faces = fs; cells = linked fs cs } ≡ m
unfolding joined
joined_is ps fs cs m e =
    let b1 = bound _ _ _ e in
    let b2 = bound _ _ _ b1.then in
    fine-same b2.then

completed-over : (d : ℕ) (ps : List Vec3) (t : PartialMesh) (m : Mesh) (none : PartialCell) → completed d ps t ≡ Ok m → Over ps t none m
unfolding completed
completed-over d ps t m none e =
    let b = bound _ _ _ e in
    let w = joined_is ps t.faces b.value m b.then in
    let n = length-map_all (finished d ps) t.cells b.value b.had in
    rw (← w)
    (record {
      points = refl;
      faces = refl;
      count = length-linked t.faces b.value ∙ n;
      numbers = λ i h.
          linked-faces t.faces b.value i (omega (arith, n))
          ∙ finished-faces d ps (get_or t.cells i none) (get_or b.value i no_cell) (map_all-at (finished d ps) t.cells b.value none no_cell b.had i h);
    })

pub from-drafts : (d : ℕ) (ps : List Vec3) (defs : List Definition) (m : Mesh) → from_cells d ps defs ≡ Ok m → FromDrafts d ps defs m
unfolding from_cells filled
from-drafts d ps defs m e =
    let b1 = bound _ _ _ e in
    let b2 = bound _ _ _ b1.then in
    record {
      t = b2.value;
      partial = b2.had;
      whole = all-finite ps defs b1.value b1.had;
      near = all-within ps defs b1.value b1.had;
      over = λ none. completed-over d ps b2.value m none b2.then;
    }

-- ---- the mesh of the definitions of a case

module _ (d n : ℕ) (ps : List Vec3) (ws : List ℕ) (defs : List Definition) (m : Mesh) (right : definitions n ws ≡ Ok defs) (e : from_cells d ps defs ≡ Ok m) where
  f : FromDrafts d ps defs m
  f = from-drafts d ps defs m e

  abbrev none : PartialCell
  none = record { definition = polygon []; faces = []; reference = origin }

  pub mesh-count : length m.cells ≡ length defs
  mesh-count = (f.over none).count ∙ cells-counted d ps defs f.t f.partial

  limited : (i : ℕ) → i < length f.t.cells → Limited (get_or f.t.cells i none).definition
  limited i h = limited-faces d ps defs f.t none (all-limited n ws defs right) f.partial i h

  pub mesh-few : d ≡ 2 → VertexLimit m
  mesh-few two = few-polygon-vertices d ps defs f.t m none two f.partial f.whole (λ i h. (limited i h).faces) (f.over none)

  pub mesh-within : all_of (each3 within) ps ≡ true
  mesh-within = f.near

  own-few : (i : ℕ) → (i < length f.t.cells) ⊎ (length f.t.cells ≤ i) → length (cell_at m.cells i).faces ≤ 24
  own-few i (inl h) =
      let c = (faces-of-cells d ps defs f.t f.partial i none h).count in
      rw ((f.over none).numbers i h) (omega (arith, c, (limited i h).faces))
  own-few i (inr h) = rw (past m.cells i (omega (arith, (f.over none).count))) (omega arith)

  pub mesh-bounded : MeshLimits m
  mesh-bounded =
      record {
        few-faces = λ i. own-few i (lt-or-ge i (length f.t.cells));
        few-vertices = λ k. rw (f.over none).faces (eight-vertices d ps defs f.t (all-limited n ws defs right) f.partial k);
      }

-- A mesh has as many cells as definitions, and its faces and cells name only those. Assumes nothing.
use Prim.Native.Nat.{ℕ, zero, suc, ◌+◌, ◌<◌}
use native.Mathlib.Omega.{arith}
use mathlib.Core.Path.{◌≡◌, refl, ◌∙◌}
use mathlib.Core.Bool.{Bool, true, false, cond}
use mathlib.Core.List.{List, [], ◌∷◌, ◌++◌}
use lib.Dec.{eqb}
use lib.ListN.{length, set, length-append}
use borrow.Author.Tests.{eqb-false}
use Rattle.arith.specs.Lists.{sorted}
use Rattle.arith.specs.Records.{tab}
use Rattle.arith.specs.declared.Vec3.{Vec3}
use Rattle.arith.proofs.All.{All, all_append, all_get_or, all_set, all_more, all-add_new, foldl-keeps}
use Rattle.arith.proofs.RecordLaws.{length-tab}
use Rattle.reading.proofs.ResultLaws.{bound, not-due, length-map_all, steps-keep}
use Rattle.case_definitions.specs.Faces.{Definition}
use Rattle.mesh_area.specs.Tables.{Face, Cell, Mesh, face_at, no_face, cell_at, no_cell}
use Rattle.mesh_geometry.specs.declared.FaceGeometry.{FaceGeometry}
use Rattle.mesh_faces.specs.Table.{face_with_key, new_face, with_neighbour, joining, settled, use_face, NumberedFace, numbered_face, add_face}
use Rattle.mesh_cell_parts.specs.Parts.{CellFaces, add_face_of}
use Rattle.mesh_cells.specs.Cells.{PartialMesh, add_cell, partial_mesh}
use Rattle.mesh_neighbours.specs.Neighbours.{other_cell, beyond, add_found, add_neighbour, neighbours_of, linked_at, linked}
use Rattle.mesh_centres.specs.Finish.{finished}
use Rattle.mesh_coordinates.specs.Coordinates.{acceptable}
use Rattle.mesh.specs.Mesh.{joined, completed, filled, from_cells}
use Rattle.job_reads.proofs.Within.{Beside, Numbered, Numbers}
use Rattle.std.specs.Prelude.{Some, None, Ok}
use Rattle.std.specs.declared.option.Option.{Option}
use Rattle.refusal.specs.declared.Refusal.TheVariants.{NoCells}
use Rattle.reading.specs.Result.{Refusable}

-- ---- the cells of a face are below n

beside-more : (n : ℕ) (r : Option ℕ) → Beside n r → Beside (suc n) r
beside-more n None h = tt
beside-more n (Some k) h = omega arith

numbered_more : (n : ℕ) (f : Face) → Numbered n f → Numbered (suc n) f
numbered_more n f h = record { owner = omega (arith, h.owner); neighbour = beside-more n f.neighbour h.neighbour }

no-face-numbered : (n : ℕ) → 0 < n → Numbered n no_face
no-face-numbered n h = record { owner = h; neighbour = tt }

module _ (n cell : ℕ) (below : cell < n) where
  new-numbered : (v : List ℕ) (m : FaceGeometry) → Numbered n (new_face cell v m)
  unfolding new_face
  new-numbered v m = record { owner = below; neighbour = tt }

  second-numbered : (f : Face) → Numbered n f → Numbered n (with_neighbour cell f)
  unfolding with_neighbour
  second-numbered f h = record { owner = h.owner; neighbour = below }

  module _ (v : List ℕ) (m : FaceGeometry) (fs : List Face) (p : NumberedFace) (old : All (Numbered n) fs) where
    at : (i : ℕ) → Numbered n (face_at fs i)
    unfolding face_at
    at i = all_get_or (Numbered n) fs i no_face (no-face-numbered n (omega arith)) old

    joining-numbered : (r : Option ℕ) (i : ℕ) → numbered_face (joining r cell fs i).answer (joining r cell fs i).faces ≡ Ok p → All (Numbered n) p.faces
    unfolding joining numbered_face
    joining-numbered None i e =
        let f : Face = face_at fs i in
        let w : record { faces = set fs i (with_neighbour cell f); number = i } ≡ p = cc in
        rw (← w) (all_set (Numbered n) fs i (with_neighbour cell f) (second-numbered f (at i)) old)
    joining-numbered (Some k) i e = absurd (let z : ◌≡◌ {A = ℕ} 0 1 = cc in omega arith)

    settled-numbered : (r : Option ℕ) → numbered_face (settled r cell v m fs).answer (settled r cell v m fs).faces ≡ Ok p → All (Numbered n) p.faces
    unfolding settled numbered_face
    settled-numbered None e =
        let w : record { faces = fs ++ new_face cell v m ∷ []; number = length fs } ≡ p = cc in
        rw (← w) (all_append (Numbered n) fs (new_face cell v m ∷ []) old (new-numbered v m, tt))
    settled-numbered (Some i) e = joining-numbered (face_at fs i).neighbour i e

    add-numbered : add_face cell v m fs ≡ Ok p → All (Numbered n) p.faces
    unfolding add_face use_face
    add-numbered e = settled-numbered (face_with_key (sorted v) fs) e

  face-numbered : (d : ℕ) (ps : List Vec3) (reference : Vec3) (g : CellFaces) (l : List ℕ) (h : CellFaces) → All (Numbered n) g.faces
      → add_face_of d ps cell reference g l ≡ Ok h → All (Numbered n) h.faces
  unfolding add_face_of
  face-numbered d ps reference g l h old e =
      let b = bound _ _ _ e in
      let c = bound _ _ _ b.then in
      let w : record { faces = c.value.faces; numbers = g.numbers ++ c.value.number ∷ [] } ≡ h = cc c.then in
      rw (← w) (add-numbered _ _ g.faces c.value old c.had)

-- ---- after k cells

record CellsAdded (k : ℕ) (t : PartialMesh) : Type 0 where
  cells : length t.cells ≡ k
  faces : All (Numbered k) t.faces

cell-drafted : (d : ℕ) (ps : List Vec3) (k : ℕ) (t : PartialMesh) (def : Definition) (u : PartialMesh) → CellsAdded k t → add_cell d ps t def ≡ Ok u → CellsAdded (suc k) u
unfolding add_cell
cell-drafted d ps k t def u h e =
    let a = bound _ _ _ e in
    let b = bound _ _ _ a.then in
    let c = bound _ _ _ b.then in
    let first : All (Numbered (suc k)) t.faces = all_more (Numbered k) (Numbered (suc k)) (numbered_more k) t.faces h.faces in
    let w = fine-same c.then in
    rw (← w)
    (record {
      cells = length-append t.cells _ ∙ omega (arith, h.cells);
      faces =
          steps-keep (λ _ g. All (Numbered (suc k)) g.faces) _
          (λ _ g l g' old q. face-numbered (suc k) (length t.cells) (omega (arith, h.cells)) d ps _ g l g' old q) 0 _ _ c.value first c.had;
    })
  where
    fine-same : {A : Type 0} {x y : A} → ◌≡◌ {A = Refusable A} (Ok x) (Ok y) → x ≡ y
    fine-same e = cc

all-drafted : (d : ℕ) (ps : List Vec3) (defs : List Definition) (t : PartialMesh) → partial_mesh d ps defs ≡ Ok t → CellsAdded (length defs) t
unfolding partial_mesh
all-drafted d ps defs t e =
    let z : 0 + length defs ≡ length defs = omega arith in
    rw z at (steps-keep CellsAdded (add_cell d ps) (cell-drafted d ps) 0 (record { faces = []; cells = [] }) defs t (record { cells = refl; faces = tt }) e)

-- ---- the neighbours of the cells

all-tab : {A : Type 0} (P : A → Type 0) (g : ℕ → A) (k : ℕ) → ((i : ℕ) → P (g i)) → All P (tab g k)
unfolding tab
all-tab P g zero h = tt
all-tab P g (suc k) h = all_append P (tab g k) (g k ∷ []) (all-tab P g k h) (h k, tt)

module _ (n : ℕ) (some : 0 < n) (fs : List Face) (old : All (Numbered n) fs) where
  abbrev Low : List ℕ → Type 0
  Low l = All (λ k. k < n) l

  other-below : (cell owner : ℕ) (r : Option ℕ) → owner < n → Beside n r → Beside n (other_cell cell owner r)
  unfolding other_cell
  other-below cell owner None h b = tt
  other-below cell owner (Some k) h b = by (eqb owner cell)
    where
      by : (t : Bool) → cond t k owner < n
      by true = b
      by false = h

  beyond-below : (cell : ℕ) (f : Face) → Numbered n f → Beside n (beyond cell f)
  unfolding beyond
  beyond-below cell f h = other-below cell f.owner f.neighbour h.owner h.neighbour

  found-low : (l : List ℕ) (r : Option ℕ) → Low l → Beside n r → Low (add_found l r)
  unfolding add_found
  found-low l None w h = w
  found-low l (Some k) w h = all-add_new (λ j. j < n) eqb l k w h

  neighbour-low : (cell : ℕ) (l : List ℕ) (i : ℕ) → Low l → Low (add_neighbour fs cell l i)
  unfolding add_neighbour face_at
  neighbour-low cell l i w =
      found-low l _ w (beyond-below cell _ (all_get_or (Numbered n) fs i no_face (no-face-numbered n some) old))

  neighbours-low : (cell : ℕ) (faces : List ℕ) → Low (neighbours_of fs cell faces)
  unfolding neighbours_of
  neighbours-low cell faces = foldl-keeps Low (add_neighbour fs cell) [] faces tt (neighbour-low cell)

  linked-at-low : (cs : List Cell) (i : ℕ) → Low (linked_at fs cs i).neighbours
  unfolding linked_at
  linked-at-low cs i = neighbours-low i _

  linked-low : (cs : List Cell) (i : ℕ) → Low (cell_at (linked fs cs) i).neighbours
  unfolding cell_at linked
  linked-low cs i =
      all_get_or (λ c. Low c.neighbours) (tab (linked_at fs cs) (length cs)) i no_cell tt
      (all-tab (λ c. Low c.neighbours) (linked_at fs cs) (length cs) (linked-at-low cs))

-- ---- the mesh

length-linked : (fs : List Face) (cs : List Cell) → length (linked fs cs) ≡ length cs
unfolding linked
length-linked fs cs = length-tab (linked_at fs cs) (length cs)

joined_numbers : (n : ℕ) (ps : List Vec3) (fs : List Face) (cs : List Cell) (m : Mesh) → 0 < n → All (Numbered n) fs → length cs ≡ n → joined ps fs cs ≡ Ok m → Numbers n m
unfolding joined
joined_numbers n ps fs cs m some old count e =
    let a = bound _ _ _ e in
    let b = bound _ _ _ a.then in
    let w : record { points = ps; faces = fs; cells = linked fs cs } ≡ m = cc b.then in
    rw (← w) (record { cells = length-linked fs cs ∙ count; near = linked-low n some fs old cs })

completed-numbers : (n d : ℕ) (ps : List Vec3) (t : PartialMesh) (m : Mesh) → 0 < n → CellsAdded n t → completed d ps t ≡ Ok m → Numbers n m
unfolding completed
completed-numbers n d ps t m some h e =
    let a = bound _ _ _ e in
    joined_numbers n ps t.faces a.value m some h.faces (length-map_all (finished d ps) t.cells a.value a.had ∙ h.cells) a.then

filled-numbers : (d : ℕ) (ps : List Vec3) (defs : List Definition) (m : Mesh) → 0 < length defs → filled d ps defs ≡ Ok m → Numbers (length defs) m
unfolding filled
filled-numbers d ps defs m some e =
    let a = bound _ _ _ e in completed-numbers (length defs) d ps a.value m some (all-drafted d ps defs a.value a.had) a.then

-- 8 was not due
some-cells : (ps : List Vec3) (defs : List Definition) (u : Unit {0}) → acceptable ps defs ≡ Ok u → 0 < length defs
unfolding acceptable
some-cells ps defs u e = let a = bound _ _ _ e in omega (arith, eqb-false (length defs) 0 (not-due NoCells _ _ a.had))

pub mesh-numbers : (d : ℕ) (ps : List Vec3) (defs : List Definition) (m : Mesh) → from_cells d ps defs ≡ Ok m → Numbers (length defs) m
unfolding from_cells
mesh-numbers d ps defs m e = let a = bound _ _ _ e in filled-numbers d ps defs m (some-cells ps defs a.value a.had) a.then

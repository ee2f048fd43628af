-- The faces that the cells name, and the vertices of all faces, by induction over the cells and over the faces of each. Assumes nothing.
use Prim.Native.Nat.{ℕ, zero, suc, ◌≤◌, ◌<◌}
use native.Mathlib.Omega.{arith}
use mathlib.Core.Path.{◌≡◌, refl, sym, ap, ap₂, ◌∙◌}
use mathlib.Core.Bool.{true, false}
use mathlib.Core.List.{List, [], ◌∷◌, ◌++◌, map, append_assoc, append-nil}
use borrow.Author.Tests.{eqb-true}
use lib.ListN.{length, get_or, length-map, get_or-map}
use Rattle.arith.specs.Lists.{sorted}
use Rattle.arith.specs.declared.Vec3.{Vec3}
use Rattle.arith.proofs.All.{All, all_append, all_get_or, all_more}
use Rattle.reading.specs.Result.{steps}
use Rattle.reading.proofs.ResultLaws.{bound, not-due, steps-keep}
use Rattle.mesh_area.specs.Tables.{Face, face_at, no_face}
use Rattle.case_definitions.specs.Faces.{Definition, faces_of}
use Rattle.mesh_points.specs.Collect.{wrong_kind, reference_of}
use Rattle.mesh_geometry.specs.Faces.{enough}
use Rattle.mesh_geometry.specs.declared.FaceGeometry.{FaceGeometry}
use Rattle.mesh_faces.specs.Table.{NumberedFace, add_face}
use Rattle.mesh_cell_parts.specs.Parts.{CellFaces, add_face_of, measured_from}
use Rattle.mesh_cells.specs.Cells.{PartialCell, PartialMesh, add_cell, partial_mesh}
use Rattle.lines_vertices.proofs.Shapes.{key_in, Turned, Later, Placing, Naming, Named, FacesNamed, Limited}
use Rattle.lines_vertices.proofs.TableLaws.{turned, later-self, later_more, all-at, AllFaces, placing, placing-all}
use Rattle.std.specs.Prelude.{Ok}
use Rattle.refusal.specs.declared.Refusal.TheVariants.{WrongKind}

-- ---- numbers name the same faces in a later table

map-append : {A B : Type 0} (f : A → B) (l k : List A) → map f (l ++ k) ≡ map f l ++ map f k
map-append f [] k = refl
map-append f (a ∷ l) k = ap (λ t. f a ∷ t) (map-append f l k)

keys-later : (fs gs : List Face) → Later fs gs → (own : List ℕ) → All (λ n. n < length fs) own → map (key_in gs) own ≡ map (key_in fs) own
unfolding key_in
keys-later fs gs h [] b = refl
keys-later fs gs h (n ∷ own) b = ap₂ (λ (a : List ℕ) (t : List (List ℕ)). a ∷ t) (ap sorted (h.stays n b.0)) (keys-later fs gs h own b.1)

naming-later : (fs gs : List Face) (own : List ℕ) (ls : List (List ℕ)) → Later fs gs → Naming fs own ls → Naming gs own ls
naming-later fs gs own ls h n =
    record {
      below = all_more (λ k. k < length fs) (λ k. k < length gs) (λ k b. omega (arith, h.more)) own n.below;
      keys = keys-later fs gs h own n.below ∙ n.keys;
    }

-- one number more
naming-next : (fs gs : List Face) (own : List ℕ) (ls : List (List ℕ)) (l v : List ℕ) (n : ℕ) → Naming fs own ls → Placing fs gs v n → sorted v ≡ sorted l
    → Naming gs (own ++ n ∷ []) (ls ++ l ∷ [])
naming-next fs gs own ls l v n h p e =
    let q = naming-later fs gs own ls p.later h in
    record {
      below = all_append (λ k. k < length gs) own (n ∷ []) q.below (p.below, tt);
      keys =
          map-append (key_in gs) own (n ∷ [])
          ∙ ap₂ (λ (a : List (List ℕ)) (b : List ℕ). a ++ b ∷ []) q.keys (p.key ∙ e)
          ∙ sym (map-append sorted ls (l ∷ []));
    }

-- ---- the faces of one cell

-- a face that was added: its vertices, its place in the table, and the numbers so far
record FaceStep (d cell : ℕ) (g h : CellFaces) (l : List ℕ) : Type 0 where
  v : List ℕ
  m : FaceGeometry
  p : NumberedFace
  turns : Turned d l v
  placed : add_face cell v m g.faces ≡ Ok p
  same : h ≡ record { faces = p.faces; numbers = g.numbers ++ p.number ∷ [] }

module _ (d : ℕ) (ps : List Vec3) (cell : ℕ) (reference : Vec3) where
  face-step : (g h : CellFaces) (l : List ℕ) → add_face_of d ps cell reference g l ≡ Ok h → FaceStep d cell g h l
  unfolding add_face_of
  face-step g h l e =
      let b = bound _ _ _ e in
      let c = bound _ _ _ b.then in
      record {
        v = b.value.vertices;
        m = measured_from b.value;
        p = c.value;
        turns = turned d ps reference l b.value b.had;
        placed = c.had;
        same = cc c.then;
      }

  face-naming : (g h : CellFaces) (l : List ℕ) (ls : List (List ℕ)) → add_face_of d ps cell reference g l ≡ Ok h → Naming g.faces g.numbers ls
      → Naming h.faces h.numbers (ls ++ l ∷ [])
  face-naming g h l ls e n =
      let s = face-step g h l e in
      rw s.same (naming-next g.faces s.p.faces g.numbers ls l s.v s.p.number n (placing cell s.v s.m g.faces s.p s.placed) s.turns.key)

  face-later : (g h : CellFaces) (l : List ℕ) → add_face_of d ps cell reference g l ≡ Ok h → Later g.faces h.faces
  face-later g h l e =
      let s = face-step g h l e in rw s.same (placing cell s.v s.m g.faces s.p s.placed).later

  -- all of them
  faces-naming : (k : List (List ℕ)) (g h : CellFaces) (ls : List (List ℕ)) → steps (add_face_of d ps cell reference) g k ≡ Ok h → Naming g.faces g.numbers ls
      → Naming h.faces h.numbers (ls ++ k)
  unfolding steps
  faces-naming [] g h ls e n = let w : g ≡ h = cc in rw (← w, append-nil ls) n
  faces-naming (l ∷ k) g h ls e n =
      let b = bound _ _ _ e in
      rw (append_assoc ls (l ∷ []) k) at (faces-naming k b.value h (ls ++ l ∷ []) b.then (face-naming g b.value l ls b.had n))

  faces-later : (g h : CellFaces) (k : List (List ℕ)) → steps (add_face_of d ps cell reference) g k ≡ Ok h → Later g.faces h.faces
  faces-later g h k e =
      steps-keep (λ n t. Later g.faces t.faces) (add_face_of d ps cell reference)
      (λ n s l t w q. later_more g.faces s.faces t.faces w (face-later s t l q)) 0 g k h (later-self g.faces) e

-- ---- all cells

-- a cell that was added
record CellStep (d : ℕ) (ps : List Vec3) (t u : PartialMesh) (def : Definition) : Type 0 where
  g : CellFaces
  kind : wrong_kind d def ≡ false
  faces : steps (add_face_of d ps (length t.cells) (reference_of ps def)) (record { faces = t.faces; numbers = [] }) (faces_of def) ≡ Ok g
  same : u ≡ record { faces = g.faces; cells = t.cells ++ record { definition = def; faces = g.numbers; reference = reference_of ps def } ∷ [] }

module _ (d : ℕ) (ps : List Vec3) where
  cell-step : (t u : PartialMesh) (def : Definition) → add_cell d ps t def ≡ Ok u → CellStep d ps t u def
  unfolding add_cell
  cell-step t u def e =
      let a = bound _ _ _ e in
      let b = bound _ _ _ a.then in
      let c = bound _ _ _ b.then in
      record { g = c.value; kind = not-due WrongKind _ a.value a.had; faces = c.had; same = cc c.then }

  cell-named : (t u : PartialMesh) (def : Definition) → add_cell d ps t def ≡ Ok u → All (Named d t.faces) t.cells → All (Named d u.faces) u.cells
  cell-named t u def e n =
      let s = cell-step t u def e in
      let at : ℕ = length t.cells in
      let first : CellFaces = record { faces = t.faces; numbers = [] } in
      let h = faces-later d ps at (reference_of ps def) first s.g (faces_of def) s.faces in
      let own = faces-naming d ps at (reference_of ps def) (faces_of def) first s.g [] s.faces (record { below = tt; keys = refl }) in
      let old : All (Named d s.g.faces) t.cells =
      all_more (Named d t.faces) (Named d s.g.faces)
      (λ c m. record { kind = m.kind; faces = naming-later t.faces s.g.faces c.faces (faces_of c.definition) h m.faces }) t.cells n in
      rw s.same
      (all_append (Named d s.g.faces) t.cells (record { definition = def; faces = s.g.numbers; reference = reference_of ps def } ∷ []) old
      (record { kind = s.kind; faces = own }, tt))

  -- every cell names the faces of its definition
  pub cells-named : (defs : List Definition) (t : PartialMesh) → partial_mesh d ps defs ≡ Ok t → All (Named d t.faces) t.cells
  unfolding partial_mesh
  cells-named defs t e =
      steps-keep (λ n t. All (Named d t.faces) t.cells) (add_cell d ps) (λ n s def t w q. cell-named s t def q w) 0
      (record { faces = []; cells = [] }) defs t tt e

  cell-definitions : (t u : PartialMesh) (def : Definition) → add_cell d ps t def ≡ Ok u → map (λ c. c.definition) u.cells ≡ map (λ c. c.definition) t.cells ++ def ∷ []
  cell-definitions t u def e =
      let s = cell-step t u def e in
      rw s.same (map-append (λ c. c.definition) t.cells (record { definition = def; faces = s.g.numbers; reference = reference_of ps def } ∷ []))

  steps-definitions : (defs : List Definition) (t u : PartialMesh) → steps (add_cell d ps) t defs ≡ Ok u
      → map (λ c. c.definition) u.cells ≡ map (λ c. c.definition) t.cells ++ defs
  unfolding steps
  steps-definitions [] t u e = let w : t ≡ u = cc in rw (← w) (sym (append-nil (map (λ c. c.definition) t.cells)))
  steps-definitions (def ∷ defs) t u e =
      let b = bound _ _ _ e in
      steps-definitions defs b.value u b.then ∙ ap (λ k. k ++ defs) (cell-definitions t b.value def b.had)
      ∙ append_assoc (map (λ c. c.definition) t.cells) (def ∷ []) defs

  -- a cell for each definition
  pub cells-defined : (defs : List Definition) (t : PartialMesh) → partial_mesh d ps defs ≡ Ok t → map (λ c. c.definition) t.cells ≡ defs
  unfolding partial_mesh
  cells-defined defs t e = steps-definitions defs (record { faces = []; cells = [] }) t e

  pub cells-counted : (defs : List Definition) (t : PartialMesh) → partial_mesh d ps defs ≡ Ok t → length t.cells ≡ length defs
  cells-counted defs t e = sym (length-map t.cells (λ c. c.definition)) ∙ ap length (cells-defined defs t e)

  -- ---- what holds of every face: Q of the definitions' faces, P of those that stand in the table
  module _ (Q P : List ℕ → Type 0) (turning : (l v : List ℕ) → Q l → Turned d l v → P v) where
    steps_all : (cell : ℕ) (reference : Vec3) (k : List (List ℕ)) (g h : CellFaces) → All Q k → steps (add_face_of d ps cell reference) g k ≡ Ok h
        → AllFaces P g.faces → AllFaces P h.faces
    unfolding steps
    steps_all cell reference [] g h q e a = let w : g ≡ h = cc in rw (← w) a
    steps_all cell reference (l ∷ k) g h q e a =
        let b = bound _ _ _ e in
        let s = face-step d ps cell reference g b.value l b.had in
        let n : AllFaces P b.value.faces =
        rw s.same (placing-all cell s.v s.m g.faces s.p P (turning l s.v q.0 s.turns) a s.placed) in
        steps_all cell reference k b.value h q.1 b.then n

    cells-all : (defs : List Definition) (t u : PartialMesh) → All (λ def. All Q (faces_of def)) defs → steps (add_cell d ps) t defs ≡ Ok u
        → AllFaces P t.faces → AllFaces P u.faces
    unfolding steps
    cells-all [] t u q e a = let w : t ≡ u = cc in rw (← w) a
    cells-all (def ∷ defs) t u q e a =
        let b = bound _ _ _ e in
        let s = cell-step t b.value def b.had in
        let n : AllFaces P b.value.faces =
        rw s.same (steps_all (length t.cells) (reference_of ps def) (faces_of def) (record { faces = t.faces; numbers = [] }) s.g q.0 s.faces a) in
        cells-all defs b.value u q.1 b.then n

    pub faces-all : (defs : List Definition) (t : PartialMesh) → All (λ def. All Q (faces_of def)) defs → partial_mesh d ps defs ≡ Ok t → AllFaces P t.faces
    unfolding partial_mesh
    faces-all defs t q e = cells-all defs (record { faces = []; cells = [] }) t q e tt

-- ---- by number

-- the element at a place, of two lists that agree under two functions
at_same : {A B C : Type 0} (f : A → C) (g : B → C) (l : List A) (k : List B) (i : ℕ) (d : A) (e : B) → map f l ≡ map g k → i < length l → f (get_or l i d) ≡ g (get_or k i e)
at_same f g [] k i d e w b = absurd (omega arith)
at_same f g (a ∷ l) [] i d e w b = absurd (let z : length (f a ∷ map f l) ≡ 0 = ap length w in omega arith)
at_same f g (a ∷ l) (c ∷ k) zero d e w b = cc
at_same f g (a ∷ l) (c ∷ k) (suc i) d e w b = let r : map f l ≡ map g k = cc in at_same f g l k i d e r (omega arith)

as_long : {A B C : Type 0} (f : A → C) (g : B → C) (l : List A) (k : List B) → map f l ≡ map g k → length l ≡ length k
as_long f g l k w = sym (length-map l f) ∙ ap length w ∙ length-map k g

-- the k-th number of cell i names a face with the numbers of the k-th face of its definition
pub faces-of-cells : (d : ℕ) (ps : List Vec3) (defs : List Definition) (t : PartialMesh) → partial_mesh d ps defs ≡ Ok t
    → (i : ℕ) (none : PartialCell) → i < length t.cells → FacesNamed t.faces (get_or t.cells i none)
unfolding key_in
faces-of-cells d ps defs t e i none b =
    let c : PartialCell = get_or t.cells i none in
    let n = (all-at (Named d t.faces) t.cells i none b (cells-named d ps defs t e)).faces in
    record {
      count = as_long (key_in t.faces) sorted c.faces (faces_of c.definition) n.keys;
      below = λ k h. all-at (λ j. j < length t.faces) c.faces k 0 h n.below;
      key = λ k h. at_same (key_in t.faces) sorted c.faces (faces_of c.definition) k 0 [] n.keys h;
    }

-- ---- how many vertices a face has

all_of : {A : Type 0} (P : A → Type 0) → ((a : A) → P a) → (l : List A) → All P l
all_of P f [] = tt
all_of P f (a ∷ l) = (f a, all_of P f l)

-- in 2D exactly two
two-enough : (l : List ℕ) → enough 2 l ≡ true → length l ≡ 2
unfolding enough
two-enough l e = eqb-true (length l) 2 e

pub all_two : (d : ℕ) (ps : List Vec3) (defs : List Definition) (t : PartialMesh) → d ≡ 2 → partial_mesh d ps defs ≡ Ok t → AllFaces (λ v. length v ≡ 2) t.faces
all_two d ps defs t two e =
    faces-all d ps (λ l. Unit {0}) (λ v. length v ≡ 2) (λ l v q w. two-enough v (rw two at w.many)) defs t
    (all_of (λ def. All (λ l. Unit {0}) (faces_of def)) (λ def. all_of (λ l. Unit {0}) (λ l. tt) (faces_of def)) defs) e

pub two-vertices : (d : ℕ) (ps : List Vec3) (defs : List Definition) (t : PartialMesh) → d ≡ 2 → partial_mesh d ps defs ≡ Ok t
    → (f : ℕ) → f < length t.faces → length (face_at t.faces f).vertices ≡ 2
unfolding face_at
two-vertices d ps defs t two e f b = all-at (λ f. length f.vertices ≡ 2) t.faces f no_face b (all_two d ps defs t two e)

-- of definitions within the limits of the case file
pub limited-faces : (d : ℕ) (ps : List Vec3) (defs : List Definition) (t : PartialMesh) (none : PartialCell) → All Limited defs → partial_mesh d ps defs ≡ Ok t
    → (i : ℕ) → i < length t.cells → Limited (get_or t.cells i none).definition
limited-faces d ps defs t none few e i b =
    let n = cells-counted d ps defs t e in
    let w : (get_or t.cells i none).definition ≡ get_or defs i none.definition =
    sym (get_or-map (λ c. c.definition) t.cells i none) ∙ ap (λ l. get_or l i none.definition) (cells-defined d ps defs t e) in
    rw w (all-at Limited defs i none.definition (omega arith) few)

-- "per face a count (at most 8)"
pub eight-vertices : (d : ℕ) (ps : List Vec3) (defs : List Definition) (t : PartialMesh) → All Limited defs → partial_mesh d ps defs ≡ Ok t
    → (f : ℕ) → length (face_at t.faces f).vertices ≤ 8
unfolding face_at
eight-vertices d ps defs t few e f =
    all_get_or (λ f. length f.vertices ≤ 8) t.faces f no_face (omega arith)
    (faces-all d ps (λ l. length l ≤ 8) (λ v. length v ≤ 8) (λ l v q w. omega (arith, w.long)) defs t
    (all_more Limited (λ def. All (λ l. length l ≤ 8) (faces_of def)) (λ def n. n.numbers) defs few) e)

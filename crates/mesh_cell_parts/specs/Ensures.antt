-- What `place_face` and `put_cell` leave in the area, and what the answer means.
use Rattle.std.specs.Prelude.{ℕ, ◌+◌, ◌*◌, ◌≤◌, ◌<◌, ◌≡◌, List, [], ◌∷◌, ◌++◌, drop, Float, Ok, Err}
use Rattle.arith.specs.Records.{puts}
use Rattle.arith.specs.declared.Vec3.{Vec3}
use Rattle.mesh_area.specs.declared.Sizes.{Sizes}
use Rattle.mesh_area.specs.Layout.{faces_in}
use Rattle.mesh_face_table.specs.Chains.{Chained}
use Rattle.mesh_faces.specs.Ensures.{with_faces}
use Rattle.mesh_cell_parts.specs.declared.NewCell.{NewCell}
use Rattle.mesh_cell_parts.specs.Parts.{CellFaces, add_face_of}
use Rattle.refusal.specs.declared.Refusal.{Refusal}
use Rattle.reading.specs.Result.{Refusable}

-- the table has n faces, face f among them, and nothing after it has changed
pub record TableGrowth (s : Sizes) (words words' : List ℕ) (floats floats' : List Float) (f n : ℕ) : Type 0 where
  pub chained : Chained (with_faces s n) words'
  pub more : n ≤ s.faces + 1
  pub number : f < n
  pub words-kept : drop (13 * s.slots) words' ≡ drop (13 * s.slots) words
  pub floats-kept : drop (12 * s.slots) floats' ≡ drop (12 * s.slots) floats

-- `place_face`: the face's number and the number of faces, or refusal 13 or 14
pub data PlaceFaceExit (d : ℕ) (ps : List Vec3) (cell : NewCell) (s : Sizes) (words words' : List ℕ) (floats floats' : List Float) (vertices : List ℕ) : Refusable (ℕ × ℕ) → Type 0 where
  placed : (f n : ℕ) → ((own : List ℕ) → add_face_of d ps cell.number cell.reference (record { faces = faces_in s words floats; numbers = own }) vertices
      ≡ Ok (record { faces = faces_in (with_faces s n) words' floats'; numbers = own ++ f ∷ [] }))
      → TableGrowth s words words' floats floats' f n → PlaceFaceExit d ps cell s words words' floats floats' vertices (Ok (f, n))
  refusing : (k : Refusal) → ((g : CellFaces) → g.faces ≡ faces_in s words floats → add_face_of d ps cell.number cell.reference g vertices ≡ Err k)
      → PlaceFaceExit d ps cell s words words' floats floats' vertices (Err k)

-- `put_cell`: the record of cell i
pub record PutCellExit (s : Sizes) (words words' : List ℕ) (floats floats' : List Float) (i at first count : ℕ) (reference : Vec3) : Type 0 where
  pub words-put : words' ≡ puts words (16 * s.slots + 8 * i) (at ∷ first ∷ count ∷ 0 ∷ [])
  pub floats-put : floats' ≡ puts floats (12 * s.slots + 4 * i) (reference.x ∷ reference.y ∷ reference.z ∷ [])

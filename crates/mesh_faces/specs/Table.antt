-- The face table of `from_cells` as a list, and what the use of a face by a cell does to it.
-- `has_key`, `face_with_key`: the face that has these numbers.
-- `new_face`, `with_neighbour`: a face of one cell, and of two.
-- `AfterUse`, `joining`, `settled`, `use_face`: the table after the use of a face, and the answer.
-- `NumberedFace`, `numbered_face`, `add_face`: the same, or refusal 14.
use Rattle.std.specs.Prelude.{ℕ, Bool, List, [], ◌∷◌, ◌++◌, length, set, Some, None, Ok, Err}
use Rattle.arith.specs.Lists.{first_from, same, sorted}
use Rattle.mesh_area.specs.Tables.{Face, face_at}
use Rattle.reading.specs.Result.{Refusable}
use Rattle.mesh_geometry.specs.declared.FaceGeometry.{FaceGeometry}
use Rattle.mesh_faces.specs.declared.Added.{Added}
use Rattle.mesh_faces.specs.declared.Added.TheVariants.{New, Second, Third}
use Rattle.std.specs.declared.option.Option.{Option}
use Rattle.refusal.specs.declared.Refusal.TheVariants.{ThirdUser}

-- the face has these numbers in any order: they are its own, sorted
unfoldable pub has_key : List ℕ → Face → Bool
has_key key f = same (sorted f.vertices) key

-- "Hash maps become scans over listed ranges and face keys": the face of the table that has this key
unfoldable pub face_with_key : List ℕ → List Face → Option ℕ
face_with_key key fs = first_from (has_key key) 0 fs

-- "A face has the first cell as owner, the second as neighbour": a face of one cell
unfoldable pub new_face : ℕ → List ℕ → FaceGeometry → Face
new_face cell vertices m =
    record {
      vertices = vertices;
      owner = cell;
      neighbour = None;
      centre = m.centre;
      area = m.area;
      normal = m.normal;
      area_vector = m.area_vector;
    }

-- and the same face with its second cell
unfoldable pub with_neighbour : ℕ → Face → Face
with_neighbour cell f =
    record {
      vertices = f.vertices;
      owner = f.owner;
      neighbour = Some cell;
      centre = f.centre;
      area = f.area;
      normal = f.normal;
      area_vector = f.area_vector;
    }

-- the table after a face was used, and the answer
pub record AfterUse : Type 0 where
  pub faces : List Face
  pub answer : Added

-- face i, which is there, by its neighbour: it gets its second cell, or has two already
unfoldable pub joining : Option ℕ → ℕ → List Face → ℕ → AfterUse
joining None cell fs i = record { faces = set fs i (with_neighbour cell (face_at fs i)); answer = Second i }
joining (Some n) cell fs i = record { faces = fs; answer = Third }

-- by what the lookup found: a new face, or one that is there
unfoldable pub settled : Option ℕ → ℕ → List ℕ → FaceGeometry → List Face → AfterUse
settled None cell vertices m fs = record { faces = fs ++ new_face cell vertices m ∷ []; answer = New (length fs) }
settled (Some i) cell vertices m fs = joining (face_at fs i).neighbour cell fs i

-- a cell uses a face: its vertices, turned outward, and what was measured of it
unfoldable pub use_face : ℕ → List ℕ → FaceGeometry → List Face → AfterUse
use_face cell vertices m fs = settled (face_with_key (sorted vertices) fs) cell vertices m fs

-- ---- the answer's cases, with 01's number

-- the table, and the number of the face in it
pub record NumberedFace : Type 0 where
  pub faces : List Face
  pub number : ℕ

-- refusal 14, "third user of a face"
unfoldable pub numbered_face : Added → List Face → Refusable NumberedFace
numbered_face (New i) fs = Ok (record { faces = fs; number = i })
numbered_face (Second i) fs = Ok (record { faces = fs; number = i })
numbered_face Third fs = Err ThirdUser

-- the table after a cell has used a face
unfoldable pub add_face : ℕ → List ℕ → FaceGeometry → List Face → Refusable NumberedFace
add_face cell vertices m fs = let g = use_face cell vertices m fs in numbered_face g.answer g.faces

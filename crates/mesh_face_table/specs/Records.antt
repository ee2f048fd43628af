-- The record of a face in the lent area, and what is stored there.
-- `FaceWords`, `face_words_of`, `face_words_in`: the words of a face. `measured_of`, `measured_in`: its floats.
-- `face_of`, `table_in`: the face that they hold, and the first n faces. `head_in`: the head of a bucket.
-- `new_face_at`, `floats_of`: the words and the floats of a new face, as they are stored.
use Rattle.std.specs.Prelude.{ℕ, ◌+◌, ◌*◌, List, [], ◌∷◌, length, get_or, take, Float}
use Rattle.std.proofs.lemmas.List.Edits.{sets}
use Rattle.std.specs.Float.{nan}
use Rattle.arith.specs.Records.{tab, part, chunk}
use Rattle.mesh_area.specs.Tables.{Face}
use Rattle.mesh_area.specs.Layout.{vec_from, found}
use Rattle.mesh_geometry.specs.declared.FaceGeometry.{FaceGeometry}

-- ---- one record

-- the twelve words of a face
pub record FaceWords : Type 0 where
  pub count : ℕ
  pub vertices : List ℕ
  pub owner : ℕ
  pub neighbour : ℕ
  pub link : ℕ

-- by their places
unfoldable pub face_words_of : List ℕ → FaceWords
face_words_of r =
    record {
      count = get_or r 0 0;
      vertices = take (get_or r 0 0) (part r 1 8);
      owner = get_or r 9 0;
      neighbour = get_or r 10 0;
      link = get_or r 11 0;
    }

-- those of face f
unfoldable pub face_words_in : List ℕ → ℕ → FaceWords
face_words_in w f = face_words_of (chunk w 12 f)

-- the twelve floats of a face, of which ten are used
unfoldable pub measured_of : List Float → FaceGeometry
measured_of r = record { centre = vec_from r 0; area = get_or r 3 nan; normal = vec_from r 4; area_vector = vec_from r 7 }

-- those of face f
unfoldable pub measured_in : List Float → ℕ → FaceGeometry
measured_in fl f = measured_of (chunk fl 12 f)

-- the face that they hold
unfoldable pub face_of : FaceWords → FaceGeometry → Face
face_of b m =
    record {
      vertices = b.vertices;
      owner = b.owner;
      neighbour = found b.neighbour;
      centre = m.centre;
      area = m.area;
      normal = m.normal;
      area_vector = m.area_vector;
    }

-- the first n faces
unfoldable pub table_in : List ℕ → List Float → ℕ → List Face
table_in w fl n = tab (λ f. face_of (face_words_in w f) (measured_in fl f)) n

-- the head of bucket b, where there are F slots
unfoldable pub head_in : List ℕ → ℕ → ℕ → ℕ
head_in w slots b = get_or w (12 * slots + b) 0

-- ---- a record stored

-- the words of a face of one cell from a place on: its vertices behind their count, then its cell, no second cell, and its link
unfoldable pub new_face_at : List ℕ → ℕ → List ℕ → ℕ → ℕ → List ℕ
new_face_at w at vertices cell link = sets (sets w at (length vertices ∷ vertices)) (at + 9) (cell ∷ 0 ∷ link ∷ [])

-- what was measured of a face, in the order of its floats
abbrev pub floats_of : FaceGeometry → List Float
floats_of m =
    m.centre.x ∷ m.centre.y ∷ m.centre.z ∷ m.area ∷ m.normal.x ∷ m.normal.y ∷ m.normal.z
    ∷ m.area_vector.x ∷ m.area_vector.y ∷ m.area_vector.z ∷ []

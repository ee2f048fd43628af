-- The contracts of `copy_face` and its parts: a face of a record, among the words.
-- `face_from`, `AtFace`, `next_face`: where a face starts, and a cursor at it. `CopyFaceExit`: that face copied.
-- `table_of`, `places_of`: a face table, and a row of it.
use Rattle.std.specs.Prelude.{ℕ, zero, suc, ◌+◌, ◌≤◌, ◌≡◌, cond, List, [], ◌∷◌, ◌++◌, eqb, length, get_or, take, drop}
use Rattle.case_definitions.specs.Faces.{tetrahedron, hexahedron, prism, pyramid}
use Rattle.case_definitions.specs.Ensures.{face_at, HeadAt}
use Rattle.case_definitions.specs.declared.Head.{Head}
use Rattle.case_faces.specs.declared.FaceCursor.{FaceCursor}
use Rattle.case_faces.specs.declared.Places.{Places}
use Rattle.case_faces.specs.declared.Places.TheVariants.{Three, Four}

-- where face k starts, of the faces that start at `first`: each is a count and its numbers
unfoldable pub face_from : List ℕ → ℕ → ℕ → ℕ
face_from ws first zero = first
face_from ws first (suc k) = let at = face_from ws first k in at + 1 + get_or ws at 0

-- c is at a face of h, or after its last one
pub record AtFace (ws : List ℕ) (h : Head) (c : FaceCursor) : Type 0 where
  pub headed : HeadAt ws h
  pub place : h.kind ≡ 5 → c.at ≡ face_from ws h.first c.face

-- the cursor after face c, which has n point numbers
unfoldable pub next_face : Head → FaceCursor → ℕ → FaceCursor
next_face h c n = record { face = c.face + 1; at = cond (eqb h.kind 5) (c.at + 1 + n) c.at }

-- the numbers of face c stand at the front of `out`, which was `out₀`, and `next` is at the next face
pub record CopyFaceExit (ws : List ℕ) (h : Head) (c : FaceCursor) (out₀ out : List ℕ) (count : ℕ) (next : FaceCursor) : Type 0 where
  pub copied : out ≡ face_at ws h.at c.face ++ drop count out₀
  pub front : take count out ≡ face_at ws h.at c.face
  pub counted : count ≡ length (face_at ws h.at c.face)
  pub small : count ≤ 8
  pub eight : length out ≡ 8
  pub follows : next ≡ next_face h c count
  pub goes : AtFace ws h next

-- the face table of a kind
unfoldable pub table_of : ℕ → List (List ℕ)
table_of kind = get_or ([] ∷ tetrahedron ∷ hexahedron ∷ prism ∷ pyramid ∷ []) kind []

-- what each case of a table's row stands for
unfoldable pub places_of : Places → List ℕ
places_of (Three i j k) = i ∷ j ∷ k ∷ []
places_of (Four i j k l) = i ∷ j ∷ k ∷ l ∷ []

-- How the area holds the face table so that a face is found by its bucket.
-- A face's bucket is the sum of its point numbers modulo F. The head of a bucket is its last face, + 1, or 0; the link of a face
-- is the face before it in its bucket, + 1, or 0.
-- `last`: the last number that passes.
-- `bucket_of`, `in_bucket`, `key_at`: which bucket and which key a face has.
-- `Chains`, `Chained`: the invariant, of words and of the area.
use Rattle.std.specs.Prelude.{ℕ, zero, suc, ◌*◌, ◌%◌, ◌<◌, ◌≤◌, ◌≡◌, Bool, true, false, List, eqb, length}
use Rattle.arith.specs.Lists.{same, sorted}
use Rattle.mesh_area.specs.Layout.{mesh_words}
use Rattle.mesh_area.specs.declared.Sizes.{Sizes}
use Rattle.mesh_keys.specs.Keys.{total}
use Rattle.mesh_face_table.specs.Records.{FaceWords, face_words_in, head_in}

-- the last of 0 .. n - 1 that passes, + 1; 0 where none does
unfoldable pub last : (ℕ → Bool) → ℕ → ℕ
last p zero = 0
last p (suc n) = elim (p n) [ true ↦ suc n | false ↦ last p n ]

-- a face's bucket does not depend on the order of its numbers
abbrev pub bucket_of : ℕ → List ℕ → ℕ
bucket_of slots vertices = total vertices % slots

-- face f is in bucket b
abbrev pub in_bucket : (ℕ → FaceWords) → ℕ → ℕ → ℕ → Bool
in_bucket body slots b f = eqb (bucket_of slots (body f).vertices) b

-- face f has this key
abbrev pub key_at : (ℕ → FaceWords) → List ℕ → ℕ → Bool
key_at body key f = same (sorted (body f).vertices) key

-- THE INVARIANT: each link is the last face before in the same bucket, each head the last face of the bucket, and no key stands twice
pub record Chains (w : List ℕ) (slots n : ℕ) : Type 0 where
  pub few : n ≤ slots
  pub room : 13 * slots ≤ length w
  pub short : (f : ℕ) → f < n → (face_words_in w f).count ≤ 8
  pub links : (f : ℕ) → f < n → (face_words_in w f).link ≡ last (in_bucket (face_words_in w) slots (bucket_of slots (face_words_in w f).vertices)) f
  pub heads : (b : ℕ) → b < slots → head_in w slots b ≡ last (in_bucket (face_words_in w) slots b) n
  pub distinct : (j k : ℕ) → j < n → k < n → sorted (face_words_in w j).vertices ≡ sorted (face_words_in w k).vertices → j ≡ k

-- the same of the area
abbrev pub Chained : Sizes → List ℕ → Type 0
Chained s words = Chains (mesh_words s words) s.slots s.faces

-- Laws of the layout: a record by its number, and that what follows the mesh's part does not matter. Assumes nothing.
use Prim.Native.Nat.{ℕ, ◌+◌, ◌-◌, ◌*◌, ◌≤◌, ◌<◌}
use native.Mathlib.Omega.{arith}
use mathlib.Core.Path.{◌≡◌, sym}
use mathlib.Core.List.{List}
use lib.ListN.{length, get_or, take, get_or-eq_default}
use lib.Seq.{length-take-le, get_or-take}
use lib.Ieee.{Float}
use borrow.Author.Tests.{eq-eqb, ne_eqb}
use Rattle.arith.specs.Bytes.{vec_at}
use Rattle.arith.specs.Records.{tab}
use Rattle.arith.specs.Vec.{origin}
use Rattle.arith.specs.declared.Vec3.{Vec3}
use Rattle.arith.proofs.RecordLaws.{length-tab, get_or-tab}
use Rattle.mesh_area.specs.declared.Sizes.{Sizes}
use Rattle.mesh_area.specs.Tables.{point_at, face_at, cell_at, no_face, no_cell}
use Rattle.mesh_area.specs.Layout.{points_in, mesh_words, mesh_floats, words_end, floats_end, list_at, found, face_in, cell_in, faces_in, cells_in, mesh_in}
use Rattle.std.specs.Prelude.{Some, None}

-- ---- points

pub point-in : (case : List ℕ) (n i : ℕ) → i < n → point_at (points_in case n) i ≡ vec_at case (24 * i)
unfolding point_at points_in
point-in case n i h = get_or-tab (λ k. vec_at case (24 * k)) n i origin h

pub point-out : (case : List ℕ) (n i : ℕ) → n ≤ i → point_at (points_in case n) i ≡ origin
unfolding point_at points_in
point-out case n i h = get_or-eq_default (tab (λ k. vec_at case (24 * k)) n) origin (rw (length-tab (λ k. vec_at case (24 * k)) n) h)

pub length-points : (case : List ℕ) (n : ℕ) → length (points_in case n) ≡ n
unfolding points_in
length-points case n = length-tab (λ k. vec_at case (24 * k)) n

-- ---- lists

pub length-list_at : (words : List ℕ) (at n : ℕ) → length (list_at words at n) ≡ n
unfolding list_at
length-list_at words at n = length-tab (λ k. get_or words (at + k) 0) n

pub list_at-in : (words : List ℕ) (at n k : ℕ) → k < n → get_or (list_at words at n) k 0 ≡ get_or words (at + k) 0
unfolding list_at
list_at-in words at n k h = get_or-tab (λ k. get_or words (at + k) 0) n k 0 h

-- the same, from the start of the record that the list stands in
pub list_at-from : (words : List ℕ) (a b n k : ℕ) → k < n → get_or (list_at words (a + b) n) k 0 ≡ get_or words (a + (b + k)) 0
list_at-from words a b n k h = let e : a + b + k ≡ a + (b + k) = omega arith in rw (← e) (list_at-in words (a + b) n k h)

-- past its end a list reads 0
pub list_at-out : (words : List ℕ) (at n k : ℕ) → n ≤ k → 0 ≡ get_or (list_at words at n) k 0
list_at-out words at n k h = sym (get_or-eq_default (list_at words at n) 0 (rw (length-list_at words at n) h))

-- ---- a number that stands one higher

pub found_none : (n : ℕ) → n ≡ 0 → None ≡ found n
unfolding found
found_none n e = rw (eq-eqb n 0 e)

pub found-one : (n : ℕ) → (n ≡ 0 → ⊥) → Some (n - 1) ≡ found n
unfolding found
found-one n e = rw (ne_eqb n 0 e)

-- ---- records by their numbers

module _ (s : Sizes) (words : List ℕ) (floats : List Float) where
  pub face-in : (f : ℕ) → f < s.faces → face_at (faces_in s words floats) f ≡ face_in (mesh_words s words) (mesh_floats s floats) f
  unfolding face_at faces_in
  face-in f h = get_or-tab (face_in (mesh_words s words) (mesh_floats s floats)) s.faces f no_face h

  pub face-out : (f : ℕ) → s.faces ≤ f → face_at (faces_in s words floats) f ≡ no_face
  unfolding face_at faces_in
  face-out f h =
      get_or-eq_default (tab (face_in (mesh_words s words) (mesh_floats s floats)) s.faces) no_face
      (rw (length-tab (face_in (mesh_words s words) (mesh_floats s floats)) s.faces) h)

  pub cell-in : (i : ℕ) → i < s.cells → cell_at (cells_in s words floats) i ≡ cell_in (mesh_words s words) (mesh_floats s floats) s.slots i
  unfolding cell_at cells_in
  cell-in i h = get_or-tab (cell_in (mesh_words s words) (mesh_floats s floats) s.slots) s.cells i no_cell h

  pub cell-out : (i : ℕ) → s.cells ≤ i → cell_at (cells_in s words floats) i ≡ no_cell
  unfolding cell_at cells_in
  cell-out i h =
      get_or-eq_default (tab (cell_in (mesh_words s words) (mesh_floats s floats) s.slots) s.cells) no_cell
      (rw (length-tab (cell_in (mesh_words s words) (mesh_floats s floats) s.slots) s.cells) h)

  pub length-faces_in : length (faces_in s words floats) ≡ s.faces
  unfolding faces_in
  length-faces_in = length-tab (face_in (mesh_words s words) (mesh_floats s floats)) s.faces

  pub length-cells_in : length (cells_in s words floats) ≡ s.cells
  unfolding cells_in
  length-cells_in = length-tab (cell_in (mesh_words s words) (mesh_floats s floats) s.slots) s.cells

-- ---- what stands after the mesh's part does not matter

pub mesh-same : (points : List Vec3) (s : Sizes) (words words' : List ℕ) (floats floats' : List Float) →
    take (words_end s) words' ≡ take (words_end s) words → take (floats_end s) floats' ≡ take (floats_end s) floats →
    mesh_in points s words' floats' ≡ mesh_in points s words floats
unfolding mesh_in faces_in cells_in mesh_words mesh_floats
mesh-same points s words words' floats floats' e g = rw (e, g)

-- ---- a read of the first `end`

module _ {A : Type 0} (l : List A) (end i : ℕ) (d : A) where
  pub read-in : i < end → get_or l i d ≡ get_or (take end l) i d
  read-in h = sym (get_or-take end l i d h)

  pub read_out : end ≤ length l → end ≤ i → d ≡ get_or (take end l) i d
  read_out long h = sym (get_or-eq_default (take end l) d (rw (length-take-le end l long) h))

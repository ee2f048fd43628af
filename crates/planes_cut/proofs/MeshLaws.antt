-- The lists of a mesh in the area, at a loop's place. Assumes nothing.
use Prim.Native.Nat.{ℕ, ◌+◌, ◌≤◌, ◌<◌}
use mathlib.Core.Path.{◌≡◌, ap, sym, ◌∙◌, subst}
use mathlib.Core.List.{List, [], ◌∷◌}
use lib.ListN.{length, get_or, drop}
use Rattle.arith.specs.Vec.{origin}
use Rattle.arith.proofs.ListLaws.{left_at}
use Rattle.mesh_area.specs.declared.Sizes.{Sizes}
use Rattle.mesh_area.specs.Tables.{point_at, face_at, cell_at}
use Rattle.mesh_area.specs.Layout.{points_in, faces_in, cells_in, mesh_in}
use Rattle.mesh_area.proofs.LayoutLaws.{length-points}
use Rattle.planes_cut.specs.Ensures.{bare}
use Rattle.planes_cut.proofs.Turns.{Here, Past}

-- ---- points

pub points-left : (case : List ℕ) (n i : ℕ) → i < n → Here (points_in case n) i (point_at (points_in case n) i)
unfolding point_at
points-left case n i h = record { left = left_at (points_in case n) i origin (rw (length-points case n) h) }

pub points-past : (case : List ℕ) (n i : ℕ) → n ≤ i → Past (points_in case n) i
points-past case n i h = record { end = rw (length-points case n) h }

-- ---- the vertices of a face and the faces of a cell

module _ (case : List ℕ) (points : ℕ) (s : Sizes) (words : List ℕ) (f n : ℕ) (count : n ≡ length (face_at (faces_in s words []) f).vertices) (k : ℕ) where
  pub vertices-left : k < n → Here (face_at (bare case points s words).faces f).vertices k (get_or (face_at (bare case points s words).faces f).vertices k 0)
  unfolding bare mesh_in
  vertices-left h = record { left = left_at (face_at (faces_in s words []) f).vertices k 0 (subst (λ (t : ℕ). k < t) count h) }

  pub vertices-past : n ≤ k → Past (face_at (bare case points s words).faces f).vertices k
  unfolding bare mesh_in
  vertices-past h = record { end = subst (λ (t : ℕ). t ≤ k) count h }

module _ (case : List ℕ) (points : ℕ) (s : Sizes) (words : List ℕ) (i n : ℕ) (count : n ≡ length (cell_at (cells_in s words []) i).faces) (k : ℕ) where
  pub faces-left : (f : ℕ) → f ≡ get_or (cell_at (cells_in s words []) i).faces k 0 → k < n → Here (cell_at (bare case points s words).cells i).faces k f
  unfolding bare mesh_in
  faces-left f e h =
      let l = (cell_at (cells_in s words []) i).faces in
      record { left = left_at l k 0 (subst (λ (t : ℕ). k < t) count h) ∙ ap (λ (a : ℕ). a ∷ drop (k + 1) l) (sym e) }

  pub faces-past : n ≤ k → Past (cell_at (bare case points s words).cells i).faces k
  unfolding bare mesh_in
  faces-past h = record { end = subst (λ (t : ℕ). t ≤ k) count h }

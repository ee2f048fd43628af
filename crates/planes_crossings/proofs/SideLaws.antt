-- The sides of a face in the area, at a loop's place, and what is found along them. Assumes nothing.
use Prim.Native.Nat.{ℕ, ◌+◌, ◌≤◌, ◌<◌}
use native.Mathlib.Omega.{arith}
use mathlib.Core.Path.{◌≡◌, refl, ap, ◌∙◌, subst}
use mathlib.Core.Bool.{Bool, true, false, ◌&&◌}
use mathlib.Core.List.{List, [], ◌∷◌}
use lib.ListN.{length, drop}
use lib.Ieee.{Float}
use borrow.Author.Tests.{eq-eqb, ne_eqb}
use Rattle.arith.specs.declared.Vec3.{Vec3}
use Rattle.arith.specs.Lists.{fold, all_of, Side, sides, after}
use Rattle.arith.proofs.ListLaws.{left_at, length-sides, sides-at}
use Rattle.mesh_area.specs.declared.Sizes.{Sizes}
use Rattle.mesh_area.specs.Tables.{Mesh, face_at, cell_at}
use Rattle.mesh_area.specs.Layout.{faces_in, cells_in, mesh_in}
use Rattle.planes_cut.specs.declared.Cut.{Cut}
use Rattle.planes_cut.specs.Ensures.{bare, face_vertex}
use Rattle.planes_cut.proofs.Turns.{Here, Past, fold-turn}
use Rattle.planes_crossings.specs.Crossings.{shared, foreign, on_plane, add_crossing, add_side}
use Rattle.planes_crossings.specs.Ensures.{side_at, slice_points, MeshLimits, PointList}

-- ---- the sides of a face

module _ (case : List ℕ) (points : ℕ) (s : Sizes) (words : List ℕ) (f n : ℕ) (count : n ≡ length (face_at (faces_in s words []) f).vertices) (k : ℕ) where
  pub sides-left : k < n → Here (sides (face_at (bare case points s words).faces f).vertices) k (side_at (face_at (bare case points s words).faces f).vertices k)
  unfolding bare mesh_in side_at
  sides-left h =
      let l = (face_at (faces_in s words []) f).vertices in
      let nil : Side ℕ = record { from = 0; to = 0 } in
      let here : k < length l = subst (λ (t : ℕ). k < t) count h in
      let there : k < length (sides l) = rw (length-sides l) here in
      record { left = left_at (sides l) k nil there ∙ ap (λ (a : Side ℕ). a ∷ drop (k + 1) (sides l)) (sides-at l k 0 nil here) }

  pub sides-past : n ≤ k → Past (sides (face_at (bare case points s words).faces f).vertices) k
  unfolding bare mesh_in
  sides-past h = record { end = rw (length-sides (face_at (faces_in s words []) f).vertices) (subst (λ (t : ℕ). t ≤ k) count h) }

-- ---- counts

module _ (case : List ℕ) (points : ℕ) (s : Sizes) (words : List ℕ) where
  pub count-vertices : (f n : ℕ) → n ≡ length (face_at (faces_in s words []) f).vertices → n ≡ length (face_at (bare case points s words).faces f).vertices
  unfolding bare mesh_in
  count-vertices f n e = e

  pub few-vertices : (f n : ℕ) → n ≡ length (face_at (faces_in s words []) f).vertices → length (face_at (bare case points s words).faces f).vertices ≤ 8 → n ≤ 8
  few-vertices f n e h = rw (count-vertices f n e) h

  pub few-faces : (i n : ℕ) → n ≡ length (cell_at (cells_in s words []) i).faces → MeshLimits (bare case points s words) → n ≤ 24
  unfolding bare mesh_in
  few-faces i n e b = rw e (b.few-faces i)

-- ---- a face that the plane holds

module _ (m : Mesh) (c : Cut) (cell f : ℕ) where
  pub foreign-alone : shared (face_at m.faces f).neighbour ≡ false → false ≡ foreign m c cell f
  unfolding foreign
  foreign-alone e = rw e

  pub foreign-owned : (face_at m.faces f).owner ≡ cell → false ≡ foreign m c cell f
  unfolding foreign
  foreign-owned e = rw (eq-eqb _ _ e) (none (shared (face_at m.faces f).neighbour))
    where
      none : (t : Bool) → false ≡ t && false
      none true = refl
      none false = refl

  pub foreign-other : shared (face_at m.faces f).neighbour ≡ true → ((face_at m.faces f).owner ≡ cell → ⊥) →
      all_of (on_plane m c) (face_at m.faces f).vertices ≡ foreign m c cell f
  unfolding foreign
  foreign-other e n = rw (e, ne_eqb _ _ n)

-- ---- a side by its vertices

pub after-within : (n k : ℕ) → k + 1 < n → after n k ≡ k + 1
after-within n k h = rw (ne_eqb (k + 1) n (λ e. omega arith))

pub side-added : (m : Mesh) (c : Cut) (l : List Vec3) (f k j n : ℕ) (a b : Vec3) → a ≡ face_vertex m f k → b ≡ face_vertex m f j → j ≡ after n k →
    n ≡ length (face_at m.faces f).vertices → add_crossing c l a b ≡ add_side m c l (side_at (face_at m.faces f).vertices k)
unfolding add_side side_at face_vertex
side-added m c l f k j n a b ea eb ej en = rw (ea, eb, ej, en)

-- ---- lists in slices

pub listed-as : {l k : List Vec3} {x y z x' y' z' : List Float} {from n most : ℕ} → l ≡ k → PointList l x y z x' y' z' from n most → PointList k x y z x' y' z' from n most
listed-as e h = record { list = h.list ∙ e; more = h.more; few = h.few; rest = h.rest }

-- one turn: a list that is extended, while the rest waits
pub listed-turn : {A : Type 0} {l : List A} {i : ℕ} {a : A} (g : Here l i a) (f : List Vec3 → A → List Vec3) (k : List Vec3) {w : List Vec3} {x y z x' y' z' : List Float} {from : ℕ} (n : ℕ) {most : ℕ} →
    fold f k (drop i l) ≡ w → PointList (f k a) x y z x' y' z' from n most → fold f (slice_points x' y' z' n) (drop (i + 1) l) ≡ w
listed-turn g f k n inv h = fold-turn g f k inv h.list

-- Signs only grow: a plane that may meet some faces of a cell may meet the cell. Assumes nothing.
use Prim.Native.Nat.{ℕ}
use mathlib.Core.Path.{◌≡◌, refl}
use mathlib.Core.Bool.{Bool, true, false, ◌&&◌, ◌||◌, false≢true}
use mathlib.Core.List.{List, [], ◌∷◌}
use Rattle.arith.specs.Lists.{fold}
use Rattle.mesh_area.specs.Tables.{Mesh, point_at, face_at}
use Rattle.planes_cut.specs.declared.Cut.{Cut}
use Rattle.planes_cut.specs.declared.Signs.{Signs}
use Rattle.planes_cut.specs.Cut.{near, below, above}
use Rattle.planes_cut.specs.Ensures.{sign_with, add_sign, face_signs, may_meet}

more : (n b a n' b' a' : Bool) → (n || (b && a)) ≡ true → ((n || n') || ((b || b') && (a || a'))) ≡ true
more true b a n' b' a' h = refl
more false true true true b' a' h = refl
more false true true false b' a' h = refl
more false true false n' b' a' h = absurd (false≢true h)
more false false a n' b' a' h = absurd (false≢true h)

module _ (m : Mesh) (c : Cut) where
  sign-keeps : (g : Signs) (i : ℕ) → may_meet g ≡ true → may_meet (add_sign m c g i) ≡ true
  unfolding add_sign sign_with may_meet
  sign-keeps g i h =
      let p = point_at m.points i in
      more g.near g.below g.above (near c p) (below c p) (above c p) h

  signs-keep : (l : List ℕ) (g : Signs) → may_meet g ≡ true → may_meet (fold (add_sign m c) g l) ≡ true
  unfolding fold
  signs-keep [] g h = h
  signs-keep (i ∷ l) g h = signs-keep l (add_sign m c g i) (sign-keeps g i h)

  pub faces-keep : (l : List ℕ) (g : Signs) → may_meet g ≡ true → may_meet (fold (face_signs m c) g l) ≡ true
  unfolding fold face_signs
  faces-keep [] g h = h
  faces-keep (f ∷ l) g h = faces-keep l (face_signs m c g f) (signs-keep (face_at m.faces f).vertices g h)

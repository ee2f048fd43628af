-- Faces of the table: a face between its cells, and none that is misplaced. Assumes nothing.
use Prim.Native.Nat.{ℕ, zero, suc, ◌+◌, ◌<◌}
use native.Mathlib.Omega.{arith}
use Rattle.std.specs.Prelude.{◌||◌, Some, None}
use Rattle.std.specs.List.{list_any, range_with_len}
use Rattle.std.proofs.Common.{zero-add}
use mathlib.Core.Path.{◌≡◌, refl, sym, ◌∙◌}
use mathlib.Core.Bool.{Bool, true, false}
use mathlib.Core.List.{List}
use lib.ListN.{length, get_or, drop, drop_of_length-le}
use lib.Ieee.{Float}
use Rattle.arith.specs.Lists.{any_of}
use Rattle.arith.specs.declared.Vec3.{Vec3}
use Rattle.arith.proofs.ListLaws.{left_at}
use Rattle.mesh_area.specs.Tables.{Face, face_at as table_at, no_face}
use Rattle.mesh_area.specs.Layout.{faces_in}
use Rattle.mesh_area.specs.declared.Sizes.{Sizes}
use Rattle.mesh_area.proofs.LayoutLaws.{length-faces_in}
use Rattle.mesh_area.specs.Tables.{Cell, cell_at}
use Rattle.mesh_orientation.specs.Orientation.{behind, misplaced, neighbour_behind}

-- ---- faces of the table: none is misplaced

-- a test of the elements by their numbers, from i on, is the test of what is left at i
any_numbered : {A : Type 0} (p : A → Bool) (l : List A) (d : A) (i n : ℕ) → i + n ≡ length l
    → list_any (λ k. p (get_or l k d)) (range_with_len i n) ≡ any_of p (drop i l)
unfolding any_of
any_numbered p l d i zero e = rw (drop_of_length-le l {i = i} (omega arith), any_of)
any_numbered p l d i (suc n) e =
    let more : i < length l = omega arith in
    rw (left_at l i d more, any_of) (step (p (get_or l i d)) (any_numbered p l d (i + 1) n (omega arith)))
  where
    step : (b : Bool) {x y : Bool} → x ≡ y → (b || x) ≡ elim b [ true ↦ true | false ↦ y ]
    step true e = refl
    step false e = e

pub faces_by_number : (s : Sizes) (words : List ℕ) (floats : List Float) (p : Face → Bool)
    → list_any (λ f. p (table_at (faces_in s words floats) f)) (range_with_len 0 s.faces) ≡ any_of p (faces_in s words floats)
unfolding table_at
faces_by_number s words floats p = any_numbered p (faces_in s words floats) no_face 0 s.faces (zero-add s.faces ∙ sym (length-faces_in s words floats))

-- ---- a face between its cells

module _ (cs : List Cell) (f : Face) (centre normal at : Vec3) (c : centre ≡ f.centre) (n : normal ≡ f.normal) (o : at ≡ (cell_at cs f.owner).centre) where
  pub owner-behind : behind centre at normal ≡ true → true ≡ misplaced cs f
  unfolding misplaced
  owner-behind e = rw (rw (c, n, o) at e)

  pub alone : behind centre at normal ≡ false → f.neighbour ≡ None → false ≡ misplaced cs f
  unfolding misplaced neighbour_behind
  alone e g = rw (rw (c, n, o) at e, g, neighbour_behind)

  pub between : (r : Bool) (k : ℕ) → behind centre at normal ≡ false → f.neighbour ≡ Some k → r ≡ behind (cell_at cs k).centre centre normal → r ≡ misplaced cs f
  unfolding misplaced neighbour_behind
  between r k e g h = rw (rw (c, n, o) at e, g, neighbour_behind) (rw (c, n) at h)

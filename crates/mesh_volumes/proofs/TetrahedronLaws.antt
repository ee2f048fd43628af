-- One turn and the end of the loop over a face's tetrahedra, and a face of a cell in 3D from the turned face. Assumes nothing.
use Prim.Native.Nat.{ℕ, ◌+◌, ◌≤◌, ◌<◌}
use native.Mathlib.Omega.{arith}
use mathlib.Core.Path.{◌≡◌, refl, ap, sym, ◌∙◌}
use mathlib.Core.List.{List, [], ◌∷◌}
use lib.ListN.{length, get_or, drop, length-drop}
use Rattle.arith.specs.Lists.{fold, Side, windows, sides_with}
use Rattle.arith.specs.declared.Vec3.{Vec3}
use Rattle.arith.proofs.ListLaws.{left_at}
use Rattle.mesh_area.specs.Tables.{point_at}
use Rattle.mesh_geometry.specs.declared.FaceGeometry.{FaceGeometry}
use Rattle.mesh_geometry.specs.Faces.{oriented_face}
use Rattle.mesh_geometry.specs.Ensures.{face_of, OrientedFaceExit}
use Rattle.mesh_volumes.specs.declared.Weight.{Weight}
use Rattle.mesh_volumes.specs.Geometry.{add_tetrahedron, add_tetrahedra, tetrahedra_of, add_face_3d}
use Rattle.std.specs.Prelude.{Some, None, Ok, Err}
use Rattle.std.specs.declared.option.Option.{Option}
use Rattle.refusal.specs.declared.Refusal.TheVariants.{NoVolume}

-- ---- the tetrahedra of a face: its first point stays, two more in a row

pub tetrahedra-turn : {B : Type 0} (f : B → Side ℕ → B) (l : List ℕ) (j : ℕ) (s s' r : B) → fold f s (windows (drop (j + 1) l)) ≡ r → j + 2 < length l
    → s' ≡ f s (record { from = get_or l (j + 1) 0; to = get_or l (j + 2) 0 }) → fold f s' (windows (drop (j + 1 + 1) l)) ≡ r
unfolding fold windows sides_with
tetrahedra-turn f l j s s' r inv more e =
    let two : j + 1 + 1 ≡ j + 2 = omega arith in
    let at : drop (j + 1) l ≡ get_or l (j + 1) 0 ∷ drop (j + 2) l = left_at l (j + 1) 0 (omega arith) ∙ rw two in
    let at' : drop (j + 2) l ≡ get_or l (j + 2) 0 ∷ drop (j + 2 + 1) l = left_at l (j + 2) 0 more in
    rw (two, e, at') (rw (at, at') at inv)

pub tetrahedra-done : {B : Type 0} (f : B → Side ℕ → B) (l : List ℕ) (j : ℕ) (s r : B) → fold f s (windows (drop (j + 1) l)) ≡ r → length l ≤ j + 2 → s ≡ r
unfolding fold windows sides_with
tetrahedra-done f l j s r inv end = by (drop (j + 1) l) (rw (length-drop (j + 1) l) (omega arith)) inv
  where
    by : (k : List ℕ) → length k ≤ 1 → fold f s (windows k) ≡ r → s ≡ r
    by [] h e = e
    by (a ∷ []) h e = e
    by (a ∷ b ∷ k) h e = absurd (omega arith)

pub tetrahedra-start : (ps : List Vec3) (reference : Vec3) (w : Weight) (l : List ℕ)
    → fold (add_tetrahedron ps reference (point_at ps (get_or l 0 0))) w (windows (drop (0 + 1) l)) ≡ add_tetrahedra ps reference w l
unfolding fold windows add_tetrahedra
tetrahedra-start ps reference w [] = refl
tetrahedra-start ps reference w (i ∷ l) = refl

-- ---- a face of a cell in 3D, from what `oriented_face` promises

module _ (ps : List Vec3) (reference : Vec3) (l l' : List ℕ) (r : Option FaceGeometry) (w : Weight) (h : OrientedFaceExit 3 ps reference l l' r) where
  pub face-added : (g : FaceGeometry) → r ≡ Some g → add_face_3d ps reference w l ≡ Ok (add_tetrahedra ps reference w l')
  unfolding add_face_3d tetrahedra_of face_of
  face-added g e = let m : oriented_face 3 ps reference l ≡ face_of l' (Some g) = sym h.face ∙ ap (face_of l') e in rw m

  pub face-refused : r ≡ None → add_face_3d ps reference w l ≡ Err NoVolume
  unfolding add_face_3d tetrahedra_of face_of
  face-refused e = let m : oriented_face 3 ps reference l ≡ face_of l' None = sym h.face ∙ ap (face_of l') e in rw m

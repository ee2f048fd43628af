-- Laws of the loops over the faces of a record. Assumes nothing.
use Prim.Native.Nat.{ℕ, ◌+◌, ◌≤◌, ◌<◌}
use native.Mathlib.Omega.{arith}
use mathlib.Core.Path.{◌≡◌, refl, ap, sym, ◌∙◌, subst}
use borrow.Author.Tests.{eq-eqb, ne_eqb}
use mathlib.Core.List.{List, [], ◌∷◌}
use lib.ListN.{length, get_or, drop, length-map, drop_of_length-le}
use Rattle.arith.specs.Lists.{fold, sides}
use Rattle.arith.specs.declared.Vec3.{Vec3}
use Rattle.arith.proofs.ListLaws.{foldl-next, length-sides}
use Rattle.reading.specs.Result.{Refusable, ◌>>=◌, steps}
use Rattle.reading.proofs.ResultLaws.{steps_next, steps-refused}
use Rattle.case_definitions.specs.Faces.{Definition, polygon, solid, polyhedron, faces_of, face_count}
use Rattle.case_definitions.specs.Ensures.{definition_at, read_of, face_at, HeadAt, head_of}
use Rattle.case_definitions.specs.declared.Head.{Head}
use Rattle.case_faces.specs.declared.FaceCursor.{FaceCursor}
use Rattle.case_definitions.proofs.RecordLaws.{steps-to}
use Rattle.mesh_volumes.specs.declared.Weight.{Weight}
use Rattle.mesh_volumes.specs.Geometry.{add_triangle, add_face_3d, no_weight, centre_2d, centre_3d, geometry_in, cell_geometry}
use Rattle.mesh_measure.specs.declared.Weighed.{Weighed}
use Rattle.mesh_measure.specs.Ensures.{faces_at, NextFace, AddFaceExit, added, degenerate}
use Rattle.std.specs.Prelude.{Some, None, Ok, Err}
use Rattle.std.specs.declared.option.Option.{Option}
use Rattle.refusal.specs.declared.Refusal.{Refusal}
use Rattle.refusal.specs.declared.Refusal.TheVariants.{NoVolume}

-- ---- faces of a record

length-faces_of : (d : Definition) → length (faces_of d) ≡ face_count d
unfolding faces_of face_count
length-faces_of (polygon l) = length-map (sides l) _ ∙ length-sides l
length-faces_of (solid places l) = length-map places _
length-faces_of (polyhedron faces) = refl

pub length-faces_at : (ws : List ℕ) (h : Head) → HeadAt ws h → length (faces_at ws h) ≡ h.faces
unfolding faces_at definition_at read_of head_of
length-faces_at ws h g =
    let t = steps-to ws h.at h g.next (sym g.step) in
    rw (t.read, read_of) (length-faces_of t.d ∙ sym (ap (λ (x : Head). x.faces) t.head))

module _ (ws : List ℕ) (h : Head) (g : HeadAt ws h) (k : ℕ) (more : k < h.faces) where
  in-range : k < length (faces_at ws h)
  in-range = rw (length-faces_at ws h g) more

  -- a sum over the faces, one more
  pub sum-next : {B : Type 0} (f : B → List ℕ → B) (w : B) → fold f w (drop k (faces_at ws h)) ≡ fold f (f w (face_at ws h.at k)) (drop (k + 1) (faces_at ws h))
  unfolding face_at faces_at
  sum-next f w = foldl-next (faces_at ws h) k [] in-range f w

  -- the same where a face may be refused
  pub steps_on : {B : Type 0} (f : B → List ℕ → Refusable B) (w t : B) → f w (face_at ws h.at k) ≡ Ok t → steps f w (drop k (faces_at ws h)) ≡ steps f t (drop (k + 1) (faces_at ws h))
  unfolding face_at faces_at
  steps_on f w t e = steps_next (faces_at ws h) k [] in-range f w t e

  pub steps-stop : {B : Type 0} (f : B → List ℕ → Refusable B) (w : B) (n : Refusal) → f w (face_at ws h.at k) ≡ Err n → steps f w (drop k (faces_at ws h)) ≡ Err n
  unfolding face_at faces_at
  steps-stop f w n e = steps-refused (faces_at ws h) k [] in-range f w n e

-- no face is left
pub faces_at-end : (ws : List ℕ) (h : Head) (k : ℕ) → HeadAt ws h → h.faces ≤ k → drop k (faces_at ws h) ≡ []
faces_at-end ws h k g e = drop_of_length-le (faces_at ws h) {i = k} (rw (length-faces_at ws h g) e)

-- a triangle looks only at the first two numbers
pub first_two : (ps : List Vec3) (reference : Vec3) (w : Weight) (l : List ℕ) (a b : ℕ) → a ≡ get_or l 0 0 → b ≡ get_or l 1 0 → add_triangle ps reference w (a ∷ b ∷ []) ≡ add_triangle ps reference w l
unfolding add_triangle
first_two ps reference w l a b e g = rw (e, g)

-- ---- what the answers in 3D stand for

module _ {ps : List Vec3} {ws : List ℕ} {h : Head} {c : FaceCursor} {reference : Vec3} {w : Weight} where
  pub fan-degenerate : {r : Option Weighed} → AddFaceExit ps ws h c reference w r → r ≡ None → add_face_3d ps reference w (face_at ws h.at c.face) ≡ Err NoVolume
  fan-degenerate (degenerate e) g = e
  fan-degenerate (added e n) g = absurd (let z : ◌≡◌ {A = ℕ} 0 1 = cc in omega arith)

  pub fan-sum : {r : Option Weighed} (t : Weighed) → AddFaceExit ps ws h c reference w r → r ≡ Some t → add_face_3d ps reference w (face_at ws h.at c.face) ≡ Ok t.weight
  fan-sum t (added {t = u} e n) g = let k : u ≡ t = cc in e ∙ ap (λ (x : Weighed). Ok x.weight) k
  fan-sum t (degenerate e) g = absurd (let z : ◌≡◌ {A = ℕ} 0 1 = cc in omega arith)

  pub fan-next : {r : Option Weighed} (t : Weighed) → AddFaceExit ps ws h c reference w r → r ≡ Some t → NextFace ws h c t.next
  fan-next t (added {t = u} e n) g = let k : u ≡ t = cc in subst (λ (x : Weighed). NextFace ws h c x.next) k n
  fan-next t (degenerate e) g = absurd (let z : ◌≡◌ {A = ℕ} 0 1 = cc in omega arith)

-- ---- by dimension

module _ (d : ℕ) (ps : List Vec3) (reference : Vec3) (faces : List (List ℕ)) where
  pub flat-cell : d ≡ 2 → centre_2d reference (fold (add_triangle ps reference) no_weight faces) ≡ cell_geometry d ps reference faces
  unfolding cell_geometry geometry_in
  flat-cell e = rw (eq-eqb d 2 e, geometry_in)

  module _ (e : d ≡ 2 → ⊥) where
    pub solid-cell : (w : Weight) → steps (add_face_3d ps reference) no_weight faces ≡ Ok w → centre_3d w ≡ cell_geometry d ps reference faces
    unfolding cell_geometry geometry_in ◌>>=◌
    solid-cell w g = rw (ne_eqb d 2 e, geometry_in, g, ◌>>=◌)

    pub no_cell : steps (add_face_3d ps reference) no_weight faces ≡ Err NoVolume → Err NoVolume ≡ cell_geometry d ps reference faces
    unfolding cell_geometry geometry_in ◌>>=◌
    no_cell g = rw (ne_eqb d 2 e, geometry_in, g, ◌>>=◌)

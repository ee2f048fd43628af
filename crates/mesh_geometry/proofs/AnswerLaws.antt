-- What the parts of `measured` and `oriented_face` answer, put together. Assumes nothing.
use Prim.Native.Nat.{ℕ}
use mathlib.Core.Path.{◌≡◌, ap, sym, ◌∙◌}
use mathlib.Core.Bool.{true, false}
use mathlib.Core.List.{List, reverse}
use lib.Ieee.{Float}
use Rattle.arith.specs.F64.{◌≺◌, 0·0}
use Rattle.arith.specs.Vec.{minus, over, dot, norm}
use Rattle.arith.specs.declared.Vec3.{Vec3}
use Rattle.reading.specs.Result.{◌>>=◌}
use Rattle.mesh_geometry.specs.declared.FaceGeometry.{FaceGeometry}
use Rattle.mesh_averages.specs.Averages.{average}
use Rattle.mesh_geometry.specs.Faces.{face_area_vector, face_with, measured, inward, turned_if, oriented_face, left_order}
use Rattle.mesh_geometry.specs.Ensures.{vector_of, face_of, OrientedFaceExit}
use Rattle.std.specs.Prelude.{Some, None, Ok, Err}
use Rattle.std.specs.declared.option.Option.{Option}
use Rattle.refusal.specs.declared.Refusal.TheVariants.{DegenerateFace}

-- what `face_of` answers
abbrev geometry_of : Vec3 → Vec3 → FaceGeometry
geometry_of centre v = record { centre = centre; area = norm v; normal = over v (norm v); area_vector = v }

module _ (d : ℕ) (ps : List Vec3) (l : List ℕ) (r : Option Vec3) (h : vector_of r ≡ face_area_vector d ps l) where
  none : r ≡ None → face_area_vector d ps l ≡ Err DegenerateFace
  unfolding vector_of
  none e = sym h ∙ ap vector_of e

  pub measured-none : r ≡ None → face_of l None ≡ measured d ps l
  unfolding face_of measured ◌>>=◌
  measured-none e = rw (none e)

  pub turn-none : (reference : Vec3) → r ≡ None → OrientedFaceExit d ps reference l l None
  unfolding face_of oriented_face left_order measured ◌>>=◌
  turn-none reference e = record { face = rw (none e); order = rw (none e) }

  -- ---- a face that is not degenerate, of the average and the vector

  module _ (v centre : Vec3) (e : r ≡ Some v) (ec : centre ≡ average ps l) where
    is : measured d ps l ≡ Ok (face_with ps l v)
    unfolding vector_of measured ◌>>=◌
    is = let m : face_area_vector d ps l ≡ Ok v = sym h ∙ ap vector_of e in rw m

    with : (g : FaceGeometry) → g ≡ geometry_of centre v → face_of l (Some g) ≡ Ok (face_with ps l v)
    unfolding face_of face_with
    with g eg = rw (eg, ec)

    pub measured-face : (g : FaceGeometry) → g ≡ geometry_of centre v → face_of l (Some g) ≡ measured d ps l
    measured-face g eg = with g eg ∙ sym is

    module _ (reference away : Vec3) (t : Float) (ea : away ≡ minus centre reference) (et : t ≡ dot v away) where
      test : inward reference (face_with ps l v) ≡ (t ≺ 0·0)
      unfolding inward face_with
      test = rw (et, ea, ec)

      pub turn-kept : (t ≺ 0·0) ≡ false → (g : FaceGeometry) → g ≡ geometry_of centre v → OrientedFaceExit d ps reference l l (Some g)
      unfolding oriented_face left_order ◌>>=◌ turned_if
      turn-kept k g eg = record { face = with g eg ∙ rw (is, test, k, turned_if); order = rw (is, test, k) }

      pub turn-made : (t ≺ 0·0) ≡ true → (l' : List ℕ) (r' : Option FaceGeometry) → l' ≡ reverse l → face_of l' r' ≡ measured d ps l' → OrientedFaceExit d ps reference l l' r'
      unfolding oriented_face left_order ◌>>=◌ turned_if face_with
      turn-made k l' r' el h' = record { face = rw (is, test, k, turned_if, ← el) h'; order = rw (is, test, k) el }

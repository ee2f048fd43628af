-- A face of a cell in the table: what the parts of `place_face` leave, put together. Assumes nothing.
use Prim.Native.Nat.{ℕ, ◌+◌}
use native.Mathlib.Omega.{arith}
use mathlib.Core.Path.{◌≡◌, refl, ap, sym, ◌∙◌}
use mathlib.Core.List.{List, [], ◌∷◌, ◌++◌}
use lib.ListN.{length}
use lib.Ieee.{Float}
use Rattle.arith.specs.declared.Vec3.{Vec3}
use Rattle.reading.specs.Result.{Refusable, ◌>>=◌}
use Rattle.mesh_area.specs.declared.Sizes.{Sizes}
use Rattle.mesh_area.specs.Layout.{faces_in}
use Rattle.mesh_area.proofs.LayoutLaws.{length-faces_in}
use Rattle.mesh_geometry.specs.Faces.{oriented_face}
use Rattle.mesh_geometry.specs.Ensures.{face_of, OrientedFaceExit}
use Rattle.mesh_geometry.specs.declared.FaceGeometry.{FaceGeometry}
use Rattle.mesh_faces.specs.Table.{NumberedFace, numbered_face, add_face}
use Rattle.mesh_faces.specs.Ensures.{with_faces, faces_after, UseFaceEntry, UseFaceExit}
use Rattle.mesh_faces.specs.declared.Added.{Added}
use Rattle.mesh_faces.specs.declared.Added.TheVariants.{New, Second, Third}
use Rattle.mesh_faces.proofs.AnswerLaws.{new-number, second-number}
use Rattle.mesh_cell_parts.specs.Ensures as Ensures
use Rattle.mesh_cell_parts.specs.Parts.{measured_from, CellFaces, add_face_of}
use Rattle.mesh_cell_parts.specs.Ensures.{PlaceFaceExit}
use Rattle.mesh_cell_parts.specs.declared.NewCell.{NewCell}
use Rattle.std.specs.Prelude.{Some, None, Ok, Err}
use Rattle.std.specs.declared.option.Option.{Option}
use Rattle.refusal.specs.declared.Refusal.TheVariants.{DegenerateFace, ThirdUser}

module _ (d : ℕ) (ps : List Vec3) (cell : NewCell) (s : Sizes) (words : List ℕ) (floats : List Float) (vertices vertices' : List ℕ) (r : Option FaceGeometry)
    (t : OrientedFaceExit d ps cell.reference vertices vertices' r) where
  pub place-degenerate : r ≡ None → PlaceFaceExit d ps cell s words words floats floats vertices (Err DegenerateFace)
  unfolding add_face_of face_of ◌>>=◌
  place-degenerate e =
      let o : oriented_face d ps cell.reference vertices ≡ Err DegenerateFace = sym t.face ∙ ap (face_of vertices') e in
      Ensures.PlaceFaceExit.refusing DegenerateFace (λ g eg. rw o)

  module _ (g : FaceGeometry) (e : r ≡ Some g) (words' : List ℕ) (floats' : List Float) (a : Added) (u : UseFaceExit s words words' floats floats' vertices' g cell.number a) where
    abbrev own : CellFaces → NumberedFace → Refusable CellFaces
    own w p = Ok (record { faces = p.faces; numbers = w.numbers ++ p.number ∷ [] })

    whole : (w : CellFaces) → w.faces ≡ faces_in s words floats
        → add_face_of d ps cell.number cell.reference w vertices ≡ (numbered_face a (faces_in (with_faces s (faces_after a s.faces)) words' floats') >>= own w)
    unfolding add_face_of face_of measured_from add_face ◌>>=◌
    whole w ew =
        let o : oriented_face d ps cell.reference vertices ≡ face_of vertices' (Some g) = sym t.face ∙ ap (face_of vertices') e in
        rw (o, ew, ← u.answer, ← u.faces)

    pub place-new : (f : ℕ) → a ≡ New f → PlaceFaceExit d ps cell s words words' floats floats' vertices (Ok (f, (s.faces + 1)))
    unfolding numbered_face ◌>>=◌
    place-new f ea =
        let n = new-number cell.number (faces_in s words floats) f vertices' g (sym ea ∙ u.answer) in
        Ensures.PlaceFaceExit.placed f _ (λ l. rw ea at (whole (record { faces = faces_in s words floats; numbers = l }) refl))
        (record {
          chained = rw ea at u.chained;
          more = omega arith;
          number = omega (arith, length-faces_in s words floats);
          words-kept = u.words-kept;
          floats-kept = u.floats-kept;
        })

    pub place-second : (f : ℕ) → a ≡ Second f → PlaceFaceExit d ps cell s words words' floats floats' vertices (Ok (f, s.faces))
    unfolding numbered_face ◌>>=◌
    place-second f ea =
        let n = second-number cell.number (faces_in s words floats) f vertices' g (sym ea ∙ u.answer) in
        Ensures.PlaceFaceExit.placed f _ (λ l. rw ea at (whole (record { faces = faces_in s words floats; numbers = l }) refl))
        (record {
          chained = rw ea at u.chained;
          more = omega arith;
          number = omega (arith, length-faces_in s words floats);
          words-kept = u.words-kept;
          floats-kept = u.floats-kept;
        })

    pub place-third : a ≡ Third → PlaceFaceExit d ps cell s words words' floats floats' vertices (Err ThirdUser)
    unfolding numbered_face ◌>>=◌
    place-third ea = Ensures.PlaceFaceExit.refusing ThirdUser (λ w ew. rw ea at (whole w ew))

-- what the table asks of a face that is turned
pub usable : (s : Sizes) (words : List ℕ) (floats : List Float) (vertices vertices' : List ℕ) (cell : ℕ) → UseFaceEntry s words floats vertices cell
    → length vertices' ≡ length vertices → UseFaceEntry s words floats vertices' cell
usable s words floats vertices vertices' cell p e =
    record {
      lent-words = p.lent-words;
      lent-floats = p.lent-floats;
      chained = p.chained;
      space = p.space;
      short = omega (arith, p.short);
      cells-few = p.cells-few;
    }

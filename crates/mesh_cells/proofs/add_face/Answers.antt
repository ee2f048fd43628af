use native.Mathlib.Omega.{arith}
use Rattle.std.proofs.lemmas.Result.{err_from_is_err_and}
use Rattle.mesh_points.proofs.CollectLaws.{copied-count}
use Rattle.mesh_cells.proofs.FaceLaws.{face-usable, face-refused, face-added, face-number}
use Rattle.mesh_cells.proofs.add_face.Goals as goal

pub slice_bounds-place_face-end : goal.slice_bounds-place_face-end
slice_bounds-place_face-end c = copied-count _ _ _ _ _ _ _ c.copy_face-copied.ensures

pub place_face-requires : goal.place_face-requires
place_face-requires c =
    let p = c.requires in
    (face-usable _ _ _ _ _ _ p.0 _ _ _ _ c.copy_face-copied.ensures, p.1, p.2)

pub returns-in_err-f : goal.returns-in_err-f
returns-in_err-f c =
    let p = err_from_is_err_and c.from_residual.result c.from_residual.ensures.1 in
    rw (p.1, p.2) (face-refused _ _ _ _ _ _ c.requires.0 _ _ _ _ c.copy_face-copied.ensures _ _ _ _ _ _ c.place_face.ensures c.in_err-f.was)

pub narrow-requires : goal.narrow-requires
narrow-requires c =
    let p = c.requires.0 in
    face-number _ _ _ _ _ _ _ _ _ _ _ _ c.place_face.ensures c.in_ok-f.was (omega (arith, p.behind, p.face, p.room)) p.lent-words.few-slots

pub returns : goal.returns
returns c =
    face-added _ _ _ _ _ _ c.requires.0 _ _ _ _ c.copy_face-copied.ensures _ _ _ _ _ _ _ _ c.place_face.ensures c.in_ok-f.was c.narrow.ensures c.place_face.auto.words c.place_face.auto.floats

use Prim.Native.Nat.{◌≤◌, ◌<◌}
use native.Mathlib.Omega.{arith}
use Rattle.std.proofs.lemmas.Result.{err_from_is_err_and}
use Rattle.mesh_cells.proofs.FaceLaws.{going_start, going-ready, going-refused, going_next, going_face, going_done}
use Rattle.mesh_cells.proofs.add_faces.Goals as goal

pub loop-init : goal.loop-init
loop-init c = (c.first_face-c.ensures.0, going_start _ _ _ _ _ _ _ c.requires.0 _ c.first_face-c.ensures)

pub add_face-requires : goal.add_face-requires
add_face-requires c =
    let p = c.requires in
    let more : c.loop.c.face < c.args.cell.head.faces = omega arith in
    (going-ready _ _ _ _ _ _ _ p.0 _ _ _ _ c.loop.invariant.1 more, p.1, p.2)

pub returns-in_err-next : goal.returns-in_err-next
returns-in_err-next c =
    let more : c.loop.c.face < c.args.cell.head.faces = omega arith in
    let p = err_from_is_err_and c.from_residual.result c.from_residual.ensures.1 in
    rw (p.1, p.2) (going-refused _ _ _ _ _ _ _ c.requires.0 _ _ _ _ c.loop.invariant.1 more _ _ _ c.add_face.ensures _ c.in_err-next.was)

pub loop-preserved : goal.loop-preserved
loop-preserved c =
    let more : c.loop.c.face < c.args.cell.head.faces = omega arith in
    let turn = c.loop.invariant in (
      omega (arith, turn.0, going_face _ _ _ _ _ _ _ c.requires.0 _ _ _ _ turn.1 more _ _ _ c.add_face.ensures _ _ c.in_ok-next.was),
      going_next _ _ _ _ _ _ _ c.requires.0 _ _ _ _ turn.1 more _ _ _ c.add_face.ensures _ _ c.in_ok-next.was,
    )

pub returns : goal.returns
returns c =
    let all : c.args.cell.head.faces ≤ c.loop.c.face = omega arith in
    going_done _ _ _ _ _ _ _ c.requires.0 _ _ _ _ c.loop.invariant.1 all

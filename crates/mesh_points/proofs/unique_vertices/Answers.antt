use Prim.Native.Nat.{◌≤◌, ◌<◌}
use native.Mathlib.Omega.{arith}
use Rattle.mesh_points.proofs.CollectLaws.{copied-count, copied_next, unite-start, unite-room, unite-turn, unite-missing, unite-done}
use borrow.Author.Rules.{rules}
use Rattle.mesh_points.proofs.unique_vertices.Goals as goal

pub loop-init : goal.loop-init
loop-init c = (c.first_face-c.ensures.0, search (unite-start, rules))

pub slice_bounds-collect_face-end : goal.slice_bounds-collect_face-end
slice_bounds-collect_face-end c = search (copied-count, rules)

pub collect_face-requires : goal.collect_face-requires
collect_face-requires c =
    let more : c.loop.c.face < c.args.h.faces = omega arith in
    unite-room _ _ _ _ _ _ _ c.loop.invariant.1 more _ _ _ _ c.requires.1 c.copy_face-copied.ensures

pub returns-in_err-n : goal.returns-in_err-n
returns-in_err-n c =
    let more : c.loop.c.face < c.args.h.faces = omega arith in
    rw c.from_residual.ensures (unite-missing _ _ _ _ _ _ _ c.loop.invariant.1 more _ _ _ _ c.copy_face-copied.ensures _ _ c.collect_face.ensures _ c.in_err-n.was)

pub loop-preserved : goal.loop-preserved
loop-preserved c =
    let more : c.loop.c.face < c.args.h.faces = omega arith in (
      omega (arith, c.loop.invariant.0, copied_next _ _ _ _ _ _ _ c.copy_face-copied.ensures),
      unite-turn _ _ _ _ _ _ _ c.loop.invariant.1 more _ _ _ _ c.copy_face-copied.ensures _ _ c.collect_face.ensures _ c.in_ok-n.was (search rules),
    )

pub returns : goal.returns
returns c =
    let all : c.args.h.faces ≤ c.loop.c.face = omega arith in
    search (unite-done, rules)

use Prim.Native.Nat.{◌≤◌, ◌<◌}
use mathlib.Core.Path.{sym, ◌∙◌}
use Rattle.case_faces.proofs.FaceLaws.{at_first}
use Rattle.arith.specs.Lists.{fold}
use Rattle.mesh_measure.proofs.Laws.{sum-next, faces_at-end}
use borrow.Author.Rules.{rules}
use native.Mathlib.Omega.{arith}
use Rattle.mesh_measure.proofs.add_edges.Goals as goal

pub loop-init : goal.loop-init
loop-init c =
    let first = c.first_face-c.ensures in
    (at_first _ _ _ c.requires.head_at first.0 first.1, first.0, rw (first.0, c.no_weight-sum.ensures))

pub add_edge-t-requires : goal.add_edge-t-requires
add_edge-t-requires c =
    let more : c.loop.c.face < c.args.h.faces = omega arith in
    record { point_bytes = search rules; face_entry = record { at-face = c.loop.invariant.0; more = more } }

pub loop-preserved : goal.loop-preserved
loop-preserved c =
    let i = c.loop.invariant in
    let more : c.loop.c.face < c.args.h.faces = omega arith in
    let e = c.add_edge-t.ensures in (
      e.next.at-face,
      rw e.next.face (omega arith),
      rw (e.next.face, e.sum) (sym (sum-next _ _ c.requires.head_at _ more _ _) ∙ i.2),
    )

pub returns : goal.returns
unfolding fold
returns c =
    let i = c.loop.invariant in
    let all : c.args.h.faces ≤ c.loop.c.face = omega arith in
    rw (faces_at-end _ _ _ c.requires.head_at all) at i.2

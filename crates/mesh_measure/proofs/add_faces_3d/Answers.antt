use Prim.Native.Nat.{◌≤◌, ◌<◌}
use native.Mathlib.Omega.{arith}
use mathlib.Core.Path.{sym, ◌∙◌}
use Rattle.case_faces.proofs.FaceLaws.{at_first}
use Rattle.mesh_measure.specs.Ensures.{weight_of}
use Rattle.reading.specs.Result.{steps}
use Rattle.mesh_measure.proofs.Laws.{steps_on, steps-stop, faces_at-end, fan-degenerate, fan-sum, fan-next}
use borrow.Author.Rules.{rules}
use Rattle.mesh_measure.proofs.add_faces_3d.Goals as goal
use Rattle.refusal.specs.declared.Refusal.TheVariants.{NoVolume}

pub loop-init : goal.loop-init
loop-init c =
    let first = c.first_face-c.ensures in
    (at_first _ _ _ c.requires.head_at first.0 first.1, first.0, rw (first.0, c.no_weight-sum.ensures))

pub add_face_3d-requires : goal.add_face_3d-requires
add_face_3d-requires c =
    let more : c.loop.c.face < c.args.h.faces = omega arith in
    record { point_bytes = search rules; face_entry = record { at-face = c.loop.invariant.0; more = more } }

pub returns-in_err-t : goal.returns-in_err-t
unfolding weight_of
returns-in_err-t c =
    let i = c.loop.invariant in
    let more : c.loop.c.face < c.args.h.faces = omega arith in
    let e = fan-degenerate c.add_face_3d.ensures c.in_err-t.was in
    rw c.from_residual.ensures (sym (steps-stop _ _ c.requires.head_at _ more _ _ NoVolume e) ∙ i.2)

pub loop-preserved : goal.loop-preserved
loop-preserved c =
    let i = c.loop.invariant in
    let more : c.loop.c.face < c.args.h.faces = omega arith in
    let e = fan-sum _ c.add_face_3d.ensures c.in_ok-t.was in
    let n = fan-next _ c.add_face_3d.ensures c.in_ok-t.was in
    (n.at-face, rw n.face (omega arith), rw n.face (sym (steps_on _ _ c.requires.head_at _ more _ _ _ e) ∙ i.2))

pub returns : goal.returns
unfolding weight_of steps
returns c =
    let i = c.loop.invariant in
    let all : c.args.h.faces ≤ c.loop.c.face = omega arith in
    rw (faces_at-end _ _ _ c.requires.head_at all) at i.2

use mathlib.Core.Path.{ap, ◌∙◌}
use mathlib.Core.List.{[]}
use Rattle.planes_cut.specs.Ensures.{sign_with, add_sign, face_signs, face_vertex}
use Rattle.planes_cut.proofs.Turns.{fold-turn, fold_done}
use Rattle.planes_cut.proofs.MeshLaws.{vertices-left, vertices-past}
use Rattle.planes_cut.proofs.heights.add_face.Goals as goal

pub loop-k-preserved : goal.loop-k-preserved
unfolding add_sign face_vertex
loop-k-preserved c =
    let here = vertices-left c.args.case.now c.args.points c.args.s c.args.words.now c.args.f _ (c.vertex_count-n.ensures.0 []) c.loop-k.k c.loop-k-test.true in
    fold-turn here _ _ c.loop-k.invariant (c.add_sign-g.ensures ∙ ap (λ p. sign_with c.args.cut c.loop-k.g p) c.face_vertex.ensures)

pub returns : goal.returns
unfolding face_signs
returns c =
    let past = vertices-past c.args.case.now c.args.points c.args.s c.args.words.now c.args.f _ (c.vertex_count-n.ensures.0 []) c.loop-k.k c.loop-k-test.false in
    fold_done past _ _ c.loop-k.invariant

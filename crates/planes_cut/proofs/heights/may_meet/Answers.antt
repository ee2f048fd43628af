use mathlib.Core.Path.{refl, ap, sym, ◌∙◌}
use mathlib.Core.List.{[]}
use Rattle.planes_cut.specs.Ensures.{signs_of, no_signs, may_meet}
use Rattle.planes_cut.proofs.Turns.{fold-turn, fold_done}
use Rattle.planes_cut.proofs.MeshLaws.{faces-left, faces-past}
use Rattle.planes_cut.proofs.SignLaws.{faces-keep}
use Rattle.planes_cut.proofs.heights.may_meet.Goals as goal

pub loop-j-init : goal.loop-j-init
unfolding signs_of no_signs may_meet
loop-j-init c = (refl, refl)

pub returns-then-meets : goal.returns-then-meets
returns-then-meets c =
    let a = c.args in
    let here = faces-left a.case.now a.points a.s a.words.now a.cell _ (c.face_count-n.ensures.0 []) c.loop-j.j _ (c.cell_face-f.ensures.0 []) c.loop-j-test.true in
    let rest = fold-turn here _ _ c.loop-j.invariant.1 c.add_face-g.ensures in
    sym (faces-keep _ _ _ _ (sym c.meets.ensures ∙ c.if-meets.true)) ∙ ap may_meet rest

pub loop-j-preserved : goal.loop-j-preserved
loop-j-preserved c =
    let a = c.args in
    let here = faces-left a.case.now a.points a.s a.words.now a.cell _ (c.face_count-n.ensures.0 []) c.loop-j.j _ (c.cell_face-f.ensures.0 []) c.loop-j-test.true in
    (sym c.meets.ensures ∙ c.if-meets.false, fold-turn here _ _ c.loop-j.invariant.1 c.add_face-g.ensures)

pub returns : goal.returns
returns c =
    let a = c.args in
    let past = faces-past a.case.now a.points a.s a.words.now a.cell _ (c.face_count-n.ensures.0 []) c.loop-j.j c.loop-j-test.false in
    sym c.loop-j.invariant.0 ∙ ap may_meet (fold_done past _ _ c.loop-j.invariant.1)

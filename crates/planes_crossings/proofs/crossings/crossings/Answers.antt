use native.Mathlib.Omega.{arith}
use mathlib.Core.Path.{refl}
use mathlib.Core.List.{[]}
use Rattle.arith.specs.Records.{tab}
use Rattle.planes_crossings.specs.Crossings.{crossings}
use Rattle.planes_crossings.specs.Ensures.{slice_points}
use Rattle.planes_cut.proofs.Turns.{fold_done}
use Rattle.planes_cut.proofs.MeshLaws.{faces-left, faces-past}
use Rattle.planes_crossings.proofs.HeldLaws.{rest-same, rest_then}
use Rattle.planes_crossings.proofs.SideLaws.{few-faces, listed-turn}
use borrow.Author.Rules.{rules}
use Rattle.planes_crossings.proofs.crossings.crossings.Goals as goal

pub loop-j-init : goal.loop-j-init
unfolding crossings slice_points tab
loop-j-init c = (search rules, rest-same, refl)

pub add_face-n-requires : goal.add_face-n-requires
add_face-n-requires c =
    let a = c.args in
    let i = c.loop-j.invariant in
    let h = c.requires.mesh_lent.1 in
    let few = few-faces a.case.now a.points a.s a.words.now a.cell c.face_count-count.result (c.face_count-count.ensures.0 []) c.requires.mesh_limits in
    record { mesh_lent = (c.requires.mesh_lent.0, record { in-x = omega arith; in-y = omega arith; in-z = omega arith }); f_len_bound = c.requires.mesh_limits.few-vertices _ }

pub loop-j-preserved : goal.loop-j-preserved
loop-j-preserved c =
    let a = c.args in
    let i = c.loop-j.invariant in
    let g = faces-left a.case.now a.points a.s a.words.now a.cell c.face_count-count.result (c.face_count-count.ensures.0 []) c.loop-j.j _ (c.cell_face-f.ensures.0 []) c.loop-j-test.true in
    (omega (arith, c.add_face-n.ensures.few), rest_then c.add_face-n.ensures.more i.1 c.add_face-n.ensures.rest, listed-turn g _ _ _ i.2 c.add_face-n.ensures)

pub returns : goal.returns
returns c =
    let a = c.args in
    let i = c.loop-j.invariant in
    let few = few-faces a.case.now a.points a.s a.words.now a.cell c.face_count-count.result (c.face_count-count.ensures.0 []) c.requires.mesh_limits in
    record { list = fold_done (faces-past a.case.now a.points a.s a.words.now a.cell c.face_count-count.result (c.face_count-count.ensures.0 []) c.loop-j.j c.loop-j-test.false) _ _ i.2; more = omega arith; few = omega arith; rest = i.1 }

use mathlib.Core.Path.{ap, ◌∙◌}
use Rattle.arith.specs.Lists.{fold}
use Rattle.arith.specs.Vec.{plus}
use Rattle.planes_crossings.specs.Ensures.{slice_points}
use Rattle.planes_cut.proofs.Turns.{fold-turn, fold_done}
use Rattle.planes_crossings.proofs.HeldLaws.{held-left, held-past}
use Rattle.planes_sections.proofs.measures.sum.Goals as goal

pub loop-i-init : goal.loop-i-init
loop-i-init c =
    let a = c.args in
    ap (λ t. fold plus t (slice_points a.x.now a.y.now a.z.now a.n)) c.new-total.ensures

pub loop-i-preserved : goal.loop-i-preserved
loop-i-preserved c =
    let a = c.args in
    fold-turn (held-left a.x.now a.y.now a.z.now _ _ c.loop-i-test.true) _ _ c.loop-i.invariant (c.add-total.ensures ∙ ap (plus c.loop-i.total) c.point_in.ensures)

pub returns : goal.returns
returns c =
    let a = c.args in
    fold_done (held-past a.x.now a.y.now a.z.now _ _ c.loop-i-test.false) _ _ c.loop-i.invariant

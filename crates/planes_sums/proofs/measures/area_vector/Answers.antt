use native.Mathlib.Omega.{arith}
use Rattle.planes_crossings.specs.Ensures.{slice_points}
use Rattle.planes_cut.proofs.Turns.{window-done}
use Rattle.planes_crossings.proofs.HeldLaws.{held-window, held-past}
use Rattle.planes_sums.proofs.MeasureLaws.{vector-start}
use Rattle.planes_sums.proofs.measures.area_vector.Goals as goal

pub loop-i-init : goal.loop-i-init
loop-i-init c =
    let a = c.args in
    vector-start a.x.now a.y.now a.z.now a.n _ _ c.requires.1 c.point_in-o.ensures c.new-total.ensures

pub loop-i-preserved : goal.loop-i-preserved
loop-i-preserved c =
    let a = c.args in
    held-window _ a.x.now a.y.now a.z.now _ _ (omega arith) _ _ c.point_in.ensures c.point_in-in-loop-i.ensures _ c.loop-i.invariant c.add_vector-total.ensures

pub returns : goal.returns
returns c =
    let a = c.args in
    window-done _ (slice_points a.x.now a.y.now a.z.now a.n) c.loop-i.i _ (held-past a.x.now a.y.now a.z.now _ _ (omega arith)).end c.loop-i.invariant

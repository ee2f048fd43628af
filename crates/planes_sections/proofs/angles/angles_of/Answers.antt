use native.Mathlib.Omega.{arith}
use mathlib.Core.Path.{ap, ◌∙◌}
use Rattle.planes_crossings.specs.Ensures.{point_in}
use Rattle.planes_sections.specs.Ensures.{angle_on, AnglesOfExit}
use Rattle.planes_cut.proofs.Turns.{at-end}
use Rattle.planes_sections.proofs.AngleLaws.{angled-none, angled-more}
use Rattle.planes_sections.proofs.angles.angles_of.Goals as goal

pub loop-i-init : goal.loop-i-init
loop-i-init c = angled-none _ _

pub loop-i-preserved : goal.loop-i-preserved
loop-i-preserved c =
    let a = c.args in
    let l = c.loop-i in
    angled-more l.i _ l.invariant (omega arith) (omega arith) (c.angle_on-a.ensures ∙ ap (angle_on a.plane a.centre) c.point_in.ensures)

pub returns : goal.returns
returns c =
    let a = c.args in
    let l = c.loop-i in
    at-end (λ n. AnglesOfExit a.plane a.centre (point_in a.x.now a.y.now a.z.now) n l.quarters l.slopes) l.auto.i-end c.loop-i-test.false l.invariant

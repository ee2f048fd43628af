use mathlib.Core.Path.{refl, ap, ◌∙◌}
use Rattle.arith_root.specs.Root.{root}
use Rattle.arith.specs.Lists.{fold}
use Rattle.mesh_area.specs.Layout.{points_in}
use Rattle.planes_cut.proofs.Turns.{fold-turn, fold_done}
use Rattle.planes_cut.proofs.MeshLaws.{points-left, points-past}
use Rattle.planes_cut.proofs.ReachLaws.{wider, farther, widest-root, farthest-root}
use Rattle.planes_cut.proofs.axes.reach_of.Goals as goal

pub loop-i-init : goal.loop-i-init
loop-i-init c = (refl, ap (λ t. fold farther t (points_in c.args.case.now c.args.points)) c.norm_squared-location.ensures)

pub loop-i-preserved : goal.loop-i-preserved
unfolding wider farther
loop-i-preserved c =
    let here = points-left c.args.case.now c.args.points c.loop-i.i c.loop-i-test.true in
    (fold-turn here _ _ c.loop-i.invariant.0 (rw (c.max-span.ensures, c.norm_squared.ensures, c.sub.ensures, c.point_at-p.ensures)), fold-turn here _ _ c.loop-i.invariant.1 (rw (c.max-location.ensures, c.norm_squared-in-loop-i.ensures, c.point_at-p.ensures)))

pub returns : goal.returns
returns c =
    let case = c.args.case.now in
    let points = c.args.points in
    let origin = c.args.origin in
    let past = points-past case points c.loop-i.i c.loop-i-test.false in (
      c.sqrt.ensures.value ∙ ap root (fold_done past _ _ c.loop-i.invariant.0) ∙ widest-root origin (points_in case points),
      c.sqrt-2.ensures.value ∙ ap root (fold_done past _ _ c.loop-i.invariant.1) ∙ farthest-root origin (points_in case points),
    )

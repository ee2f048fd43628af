use Prim.Native.Nat.{◌+◌}
use native.Mathlib.Omega.{arith}
use mathlib.Core.Path.{◌≡◌, refl}
use lib.ListN.{get_or}
use Rattle.arith.specs.Records.{tab}
use Rattle.planes_crossings.specs.Ensures.{slice_points, point_in, SliceLengths}
use Rattle.planes_cut.proofs.Turns.{at-end}
use Rattle.planes_crossings.proofs.HeldLaws.{rest-same, rest-stored, rest_then, gathered-more}
use Rattle.planes_sections.proofs.angles.gather.Goals as goal

pub loop-i-init : goal.loop-i-init
unfolding slice_points tab
loop-i-init c = (rest-same, refl)

pub loop-i-preserved : goal.loop-i-preserved
loop-i-preserved c =
    let a = c.args in
    let i = c.loop-i.invariant in
    let h = c.requires.1 in
    let room : SliceLengths c.loop-i.x c.loop-i.y c.loop-i.z (c.loop-i.i + 1) = record { in-x = omega arith; in-y = omega arith; in-z = omega arith } in
    (rest_then (omega arith) i.0 (rest-stored c.loop-i-test.true c.store.ensures), gathered-more (λ k. point_in a.px.now a.py.now a.pz.now (get_or a.places.now k 0)) c.loop-i.i room c.store.ensures c.point_in.ensures i.1)

pub returns : goal.returns
returns c =
    let a = c.args in
    let l = c.loop-i in
    (at-end (λ n. slice_points l.x l.y l.z n ≡ tab (λ k. point_in a.px.now a.py.now a.pz.now (get_or a.places.now k 0)) n) (omega arith) c.loop-i-test.false l.invariant.1, l.invariant.0)

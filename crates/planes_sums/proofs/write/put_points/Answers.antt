use native.Mathlib.Omega.{arith}
use mathlib.Core.Path.{◌≡◌, refl}
use lib.Seq.{sets}
use Rattle.arith.specs.Records.{tab}
use Rattle.planes_crossings.specs.Ensures.{slice_points}
use Rattle.planes_cut.proofs.Turns.{at-end}
use Rattle.answers.specs.Words.{point_words}
use Rattle.planes_sums.proofs.WriteLaws.{held-put}
use Rattle.planes_sums.proofs.write.put_points.Goals as goal

pub loop-i-init : goal.loop-i-init
unfolding slice_points tab point_words
loop-i-init c = refl

pub loop-i-preserved : goal.loop-i-preserved
loop-i-preserved c =
    let a = c.args in
    let l = c.loop-i in
    held-put a.answers.now l.answers _ a.at l.i a.x.now a.y.now a.z.now _ l.invariant c.point_in.ensures c.put_vec.ensures

pub returns : goal.returns
returns c =
    let l = c.loop-i in
    let a = c.args in
    at-end (λ k. l.answers ≡ sets a.answers.now a.at (point_words (slice_points a.x.now a.y.now a.z.now k))) (omega arith) c.loop-i-test.false l.invariant

use native.Mathlib.Omega.{arith}
use mathlib.Core.Path.{◌≡◌}
use lib.Seq.{paste-zero}
use Rattle.test_arith_exports.specs.Copy.{copied}
use Rattle.arith_bytes.proofs.StoreLaws.{copy-turn, copy_done}
use Rattle.test_arith_exports.proofs.copy.hookyellow_copy.Goals as goal

pub loop-i-init : goal.loop-i-init
loop-i-init c = paste-zero c.args.to.now 0 c.args.from.now

pub loop-i-preserved : goal.loop-i-preserved
loop-i-preserved c = copy-turn c.args.from.now c.args.to.now c.loop-i.to c.loop-i.i c.loop-i.invariant (omega arith) (omega arith)

pub returns : goal.returns
unfolding copied
returns c =
    let n : c.loop-i.i ≡ c.count-n.result = omega arith in
    let e = c.count-n.ensures in
    copy_done c.args.from.now c.args.to.now c.loop-i.to _ (rw (n, e.0) at c.loop-i.invariant) (rw e.0 at e.1)

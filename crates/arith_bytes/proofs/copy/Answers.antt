use native.Mathlib.Omega.{arith}
use mathlib.Core.Path.{◌≡◌}
use lib.Seq.{paste-zero}
use Rattle.arith_bytes.proofs.StoreLaws.{copy-turn, copy_done}
use Rattle.arith_bytes.proofs.copy.Goals as goal

pub loop-i-init : goal.loop-i-init
loop-i-init c = paste-zero c.args.out.now 0 c.args.from.now

pub loop-i-preserved : goal.loop-i-preserved
loop-i-preserved c = copy-turn c.args.from.now c.args.out.now c.loop-i.out c.loop-i.i c.loop-i.invariant (omega arith) (omega arith)

pub returns : goal.returns
returns c =
    let n : c.loop-i.i ≡ c.args.n = omega arith in
    copy_done c.args.from.now c.args.out.now c.loop-i.out _ (rw n at c.loop-i.invariant) c.requires.0

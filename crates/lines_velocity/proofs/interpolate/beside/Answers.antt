use Rattle.lines_velocity.proofs.VelocityLaws.{beside-not, beside-read}
use Rattle.lines_velocity.proofs.interpolate.beside.Goals as goal

pub returns-then-apart : goal.returns-then-apart
returns-then-apart c = λ words. beside-read _ _ words _ _ _ _ _ _ _ _ _ _ _ (c.centre_of-centre.ensures words) (c.centre_of.ensures words) c.sub-offset.ensures c.apart.ensures c.if-apart.true c.read_cell-v.ensures c.blended.ensures

pub returns : goal.returns
returns c = λ words. beside-not _ _ words _ _ _ _ _ _ _ _ _ _ _ (c.centre_of-centre.ensures words) (c.centre_of.ensures words) c.sub-offset.ensures c.apart.ensures c.if-apart.false

use Rattle.planes_cut.specs.Cut.{near, below, above}
use Rattle.planes_cut.specs.Ensures.{sign_with}
use Rattle.planes_cut.proofs.heights.add_sign.Goals as goal

pub returns : goal.returns
unfolding sign_with near below above
returns c = rw (c.is_near_at-near.ensures, c.height-h.ensures)

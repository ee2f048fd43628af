use mathlib.Core.Path.{sym, ◌∙◌}
use Rattle.job_requests.specs.Requests.{unless, planar}
use Rattle.job_requests.proofs.planar.Goals as goal

pub returns-in-Err : goal.returns-in-Err
unfolding planar unless
returns-in-Err c = rw (sym c.plane_of-plane.ensures, sym c.validate.ensures ∙ c.in-Err.is)

pub returns-in-Ok : goal.returns-in-Ok
unfolding planar unless
returns-in-Ok c = rw (sym c.plane_of-plane.ensures, sym c.validate.ensures ∙ c.in-Ok.is) c.over_plane.ensures

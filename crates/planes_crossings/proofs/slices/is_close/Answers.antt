use mathlib.Core.Path.{sym, ap, ◌∙◌}
use Rattle.arith.specs.Vec.{norm_squared, norm}
use Rattle.planes_crossings.specs.Crossings.{close}
use Rattle.planes_crossings.proofs.CloseLaws.{told-apart, found-one}
use Rattle.planes_crossings.proofs.slices.is_close.Goals as goal

pub returns-then-t : goal.returns-then-t
unfolding close
returns-then-t c = sym (found-one _ _ _ (c.norm_squared-s.ensures ∙ ap norm_squared c.sub.ensures) c.if-s-2.true c.if-t.true)

pub returns-then-t-2 : goal.returns-then-t-2
unfolding close
returns-then-t-2 c = sym (told-apart _ _ _ (c.norm_squared-s.ensures ∙ ap norm_squared c.sub.ensures) c.if-s.false c.if-t-2.true)

pub returns : goal.returns
unfolding close norm
returns c = rw (c.sqrt.ensures.value, c.norm_squared-s.ensures, c.sub.ensures)

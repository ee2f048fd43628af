use mathlib.Core.Path.{sym, ◌∙◌}
use Rattle.planes_crossings.specs.Ensures.{crossing_of}
use Rattle.planes_crossings.proofs.crossings.crossing.Goals as goal

pub returns-then-is_near_end : goal.returns-then-is_near_end
unfolding crossing_of
returns-then-is_near_end c = rw (sym c.is_near_end.ensures ∙ c.if-is_near_end.true)

pub returns-then-parted : goal.returns-then-parted
unfolding crossing_of
returns-then-parted c = rw (sym c.is_near_end.ensures ∙ c.if-is_near_end.false, sym c.parted.ensures ∙ c.if-parted.true, c.between.ensures)

pub returns-else-parted : goal.returns-else-parted
unfolding crossing_of
returns-else-parted c = rw (sym c.is_near_end.ensures ∙ c.if-is_near_end.false, sym c.parted.ensures ∙ c.if-parted.false)

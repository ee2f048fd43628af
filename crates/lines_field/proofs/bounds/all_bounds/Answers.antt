use Rattle.lines_field.proofs.GridLaws.{bound-turn, bound-end}
use Rattle.lines_field.specs.Bounds.{bounds_of}
use Rattle.lines_field.proofs.bounds.all_bounds.Goals as goal

pub loop-i-init : goal.loop-i-init
unfolding bounds_of
loop-i-init c = rw c.boundless-b.ensures

pub loop-i-preserved : goal.loop-i-preserved
loop-i-preserved c = bound-turn _ _ _ _ _ _ c.loop-i.invariant c.loop-i-test.true _ _ _ c.floats_at.ensures c.count_in.ensures.0 c.widened_by-b.ensures

pub returns : goal.returns
returns c = bound-end _ _ _ _ _ _ c.loop-i.invariant c.loop-i-test.false

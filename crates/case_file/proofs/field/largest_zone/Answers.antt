use mathlib.Core.Path.{refl, sym, ◌∙◌}
use Rattle.case_file.specs.Field.{largest}
use Rattle.case_file.proofs.ZoneLaws.{largest-next, largest-end}
use Rattle.case_file.proofs.field.largest_zone.Goals as goal

pub loop-i-init : goal.loop-i-init
unfolding largest
loop-i-init c = refl

pub loop-i-preserved : goal.loop-i-preserved
loop-i-preserved c = rw c.max-most.ensures (sym (largest-next _ _ c.requires _ _ _ c.loop-i-test.true c.zone.ensures) ∙ c.loop-i.invariant)

pub returns : goal.returns
returns c = sym (largest-end _ _ c.requires _ _ c.loop-i-test.false) ∙ c.loop-i.invariant

use mathlib.Core.Path.{refl, sym, ◌∙◌}
use Rattle.case_file.specs.Field.{largest}
use Rattle.case_writer.proofs.CheckLaws.{largest-on, largest-done}
use Rattle.case_writer.proofs.checks.largest_of.Goals as goal

pub loop-zone-init : goal.loop-zone-init
unfolding largest
loop-zone-init c = refl

pub loop-zone-preserved : goal.loop-zone-preserved
loop-zone-preserved c = rw c.max-most.ensures (sym (largest-on _ _ _ c.loop-zone-test.true) ∙ c.loop-zone.invariant)

pub returns : goal.returns
returns c = sym (largest-done _ _ _ c.loop-zone-test.false) ∙ c.loop-zone.invariant

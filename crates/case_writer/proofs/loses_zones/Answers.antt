use borrow.Author.Tests.{eq-eqb, ne_eqb}
use mathlib.Core.Path.{ap}
use mathlib.Core.Bool.{not}
use Rattle.case_contents.specs.Contents.{contents_of, in_edition, with_edition}
use Rattle.case_contents.specs.Refusals.{loses_zones}
use Rattle.case_writer.proofs.loses_zones.Goals as goal

pub returns-then-edition-eq1 : goal.returns-then-edition-eq1
unfolding loses_zones in_edition with_edition contents_of
returns-then-edition-eq1 c = rw (eq-eqb _ _ c.if-edition-eq1.true) (ap not c.zones_at_most.ensures)

pub returns-else-edition-eq1 : goal.returns-else-edition-eq1
unfolding loses_zones in_edition with_edition contents_of
returns-else-edition-eq1 c = rw (ne_eqb _ _ c.if-edition-eq1.false)

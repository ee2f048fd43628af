use Rattle.planes_crossings.proofs.HeldLaws.{kept-old, added_new}
use Rattle.planes_crossings.proofs.slices.add_new.Goals as goal

pub returns-then-has : goal.returns-then-has
returns-then-has c = kept-old _ _ _ _ _ _ c.has.ensures c.if-has.true

pub returns : goal.returns
returns c = added_new _ _ _ c.has.ensures c.if-has.false c.requires c.store.ensures

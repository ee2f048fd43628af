use Rattle.capi_values.specs.Convert.{direction_of}
use borrow.Author.Rules.{rules}
use Rattle.capi_values.proofs.convert.direction.Goals as goal

pub returns-then-backward : goal.returns-then-backward
unfolding direction_of
returns-then-backward c = search rules

pub returns-else-backward : goal.returns-else-backward
unfolding direction_of
returns-else-backward c = search rules

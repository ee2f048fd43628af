use Rattle.case_file.specs.Field.{zones_within}
use Rattle.case_file.proofs.field.zones_within.Goals as goal

pub returns : goal.returns
unfolding zones_within
returns c = c.zones_at_most.ensures

use Rattle.mesh_area.specs.Layout.{vec_from}
use borrow.Author.Rules.{rules}
use Rattle.mesh_centres.proofs.reference_at.Goals as goal

pub returns : goal.returns
unfolding vec_from
returns c = search rules

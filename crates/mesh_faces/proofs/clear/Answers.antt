use Rattle.mesh_faces.proofs.AreaLaws.{clear-heads}
use Rattle.mesh_faces.proofs.clear.Goals as goal

pub returns : goal.returns
returns c = clear-heads _ _ _ c.requires (c.fill.ensures.after (λ y e. e))

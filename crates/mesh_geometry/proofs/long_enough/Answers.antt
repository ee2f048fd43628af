use mathlib.Core.Path.{sym, ◌∙◌}
use Rattle.mesh_geometry.specs.Faces.{long_enough}
use Rattle.mesh_geometry.specs.Ensures.{vector_of}
use Rattle.mesh_geometry.proofs.LengthLaws.{norm-over}
use Rattle.mesh_geometry.proofs.long_enough.Goals as goal
use Rattle.mesh_geometry.proofs.long_enough.Goals.{then-norm_squared, else-norm_squared}

pub returns-then-norm : goal.returns-then-norm
unfolding long_enough vector_of
returns-then-norm c =
    elim c.if-norm_squared.branch [
      | then-norm_squared w ↦ rw (norm-over _ _ c.norm_squared.ensures w.if-norm_squared.true)
      | else-norm_squared w ↦ rw (← w.norm.ensures, sym w.value-is ∙ c.if-norm.true)
    ]

pub returns-else-norm : goal.returns-else-norm
unfolding long_enough vector_of
returns-else-norm c =
    elim c.if-norm_squared.branch [
      | then-norm_squared w ↦ cc
      | else-norm_squared w ↦ rw (← w.norm.ensures, sym w.value-is ∙ c.if-norm.false)
    ]

use Rattle.mesh_volumes.specs.Geometry.{centre_2d, cell_of}
use Rattle.mesh_measure.specs.Ensures.{weight_of}
use Rattle.mesh_measure.proofs.Laws.{flat-cell, solid-cell, no_cell}
use mathlib.Core.Path.{sym, ◌∙◌, ap}
use Rattle.mesh_measure.proofs.cell_geometry.Goals as goal

pub returns-then-dimension-eq2 : goal.returns-then-dimension-eq2
returns-then-dimension-eq2 c = c.centre_2d.ensures ∙ ap (centre_2d _) c.add_edges.ensures ∙ flat-cell _ _ _ _ c.if-dimension-eq2.true

pub returns-in_err-w : goal.returns-in_err-w
unfolding weight_of cell_of
returns-in_err-w c =
    rw c.from_residual.ensures (no_cell _ _ _ _ c.if-dimension-eq2.false (sym c.add_faces_3d.ensures ∙ ap weight_of c.in_err-w.was))

pub returns : goal.returns
unfolding weight_of
returns c =
    c.centre_3d.ensures ∙ solid-cell _ _ _ _ c.if-dimension-eq2.false _ (sym c.add_faces_3d.ensures ∙ ap weight_of c.in_ok-w.was)

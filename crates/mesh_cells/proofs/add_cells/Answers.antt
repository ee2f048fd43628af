use mathlib.Core.Path.{refl}
use Rattle.mesh_faces.proofs.AreaLaws.{cleared}
use Rattle.mesh_cells.proofs.CellLaws.{addable-kept}
use Rattle.mesh_cells.proofs.add_cells.Goals as goal

pub fill_cells-requires : goal.fill_cells-requires
fill_cells-requires c =
    let pre = c.requires in
    (addable-kept _ _ _ _ _ _ _ _ pre c.clear.auto.words refl, cleared _ _ _ pre.lent-words c.clear.ensures)

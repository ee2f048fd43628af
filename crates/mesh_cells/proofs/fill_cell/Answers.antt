use Rattle.mesh_cells.proofs.CellLaws.{cell-faces, cell-filled}
use Rattle.mesh_cells.proofs.fill_cell.Goals as goal

pub add_faces-requires : goal.add_faces-requires
add_faces-requires c =
    let p = c.requires in
    (cell-faces _ _ _ _ _ p.0 _ _ _ _ _ c.put_cell.ensures, p.1, p.2)

pub returns : goal.returns
returns c =
    cell-filled _ _ _ _ _ c.requires.0 _ _ _ _ _ c.put_cell.ensures _ _ _ _ _ c.narrow.ensures c.narrow-2.ensures c.narrow-3.ensures c.add_faces.ensures

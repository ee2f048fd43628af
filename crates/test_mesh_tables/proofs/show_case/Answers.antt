use Rattle.mesh.proofs.Laws.{building-mesh}
use Rattle.test_mesh_tables.proofs.show_case.Goals as goal

-- `test_mesh_tables::show_case` is safe: the area holds the mesh that was built. Assumes nothing.
pub show_mesh-requires : goal.show_mesh-requires
show_mesh-requires g c =
    let p = building-mesh _ c.from_cells.ensures c.in-Ok.is in
    (p.lent-words, p.lent-floats)

use native.Mathlib.Omega.{arith}
use Rattle.mesh_centres.proofs.Laws.{record-zero, record-stored}
use Rattle.mesh_centres.proofs.finish_record.Goals as goal

pub returns-in_default : goal.returns-in_default
returns-in_default c =
    record-zero _ _ _ _ _ _ _ _ _ _ (omega arith) c.reference_at-reference.ensures c.cell_geometry.ensures c.in_default.is

pub returns : goal.returns
returns c =
    record-stored _ _ _ _ _ _ _ _ _ _ (omega arith) c.reference_at-reference.ensures c.cell_geometry.ensures _ _ c.in-Some.is c.put_geometry.ensures

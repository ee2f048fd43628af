use Rattle.mesh_neighbours.proofs.NeighbourLaws.{beyond-none, beyond-owner, beyond-other}
use native.Mathlib.Omega.{arith}
use Rattle.mesh_neighbours.proofs.beyond.Goals as goal

pub returns-in_err-n : goal.returns-in_err-n
returns-in_err-n c = rw c.from_residual.ensures (beyond-none _ _ _ _ _ c.neighbour_of.ensures c.in_err-n.was)

pub returns-then-owner-cell : goal.returns-then-owner-cell
returns-then-owner-cell c =
    let a = c.args in
    beyond-owner _ _ a.cell a.f _ c.neighbour_of.ensures _ c.in_ok-n.was _ c.owner_of-owner.ensures.0
    c.requires c.shared_slice_known-1.given c.if-owner-cell.true

pub returns : goal.returns
returns c =
    let a = c.args in
    beyond-other _ _ a.cell a.f _ c.neighbour_of.ensures _ c.in_ok-n.was _ c.owner_of-owner.ensures.0
    (omega arith) c.if-owner-cell.false

use Rattle.planes_sections.proofs.PieceLaws.{piece-unmet, pieced-any}
use Rattle.planes_pieces.proofs.pieces.piece_of.Goals as goal

pub returns-then-may_meet : goal.returns-then-may_meet
returns-then-may_meet c = pieced-any _ _ _ _ _ _ _ c.cut_cell.ensures

pub returns-else-may_meet : goal.returns-else-may_meet
returns-else-may_meet c = pieced-any _ _ _ _ _ _ _ (piece-unmet _ _ _ _ _ _ _ c.may_meet.ensures c.if-may_meet.false)

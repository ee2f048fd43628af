use Rattle.planes_sections.proofs.PieceLaws.{piece-foreign, piece-met}
use Rattle.planes_pieces.proofs.pieces.cut_cell.Goals as goal

pub returns-then-has_foreign : goal.returns-then-has_foreign
returns-then-has_foreign c = piece-foreign _ _ _ _ _ _ _ c.has_foreign.ensures c.if-has_foreign.true

pub returns : goal.returns
returns c = piece-met _ _ _ _ _ _ c.has_foreign.ensures c.if-has_foreign.false c.crossings-n.ensures.list c.piece_about.ensures

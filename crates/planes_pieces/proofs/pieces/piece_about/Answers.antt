use mathlib.Core.Path.{sym}
use Rattle.planes_crossings.proofs.HeldLaws.{length-held}
use Rattle.planes_sections.proofs.PieceLaws.{piece-few, piece-wide, piece-flat}
use Rattle.planes_pieces.proofs.pieces.piece_about.Goals as goal

pub returns-then-n-lt3 : goal.returns-then-n-lt3
returns-then-n-lt3 c = piece-few _ _ _ (sym (length-held _ _ _ _)) _ _ _ c.if-n-lt3.true

pub returns-then-is_wide : goal.returns-then-is_wide
returns-then-is_wide c = piece-wide _ _ _ (sym (length-held _ _ _ _)) _ c.section_centre-centre.ensures c.arrange.ensures.0 c.arrange.ensures.1 c.if-n-lt3.false _ c.is_wide.ensures c.if-is_wide.true c.requires.2

pub returns-else-is_wide : goal.returns-else-is_wide
returns-else-is_wide c = piece-flat _ _ _ (sym (length-held _ _ _ _)) _ c.section_centre-centre.ensures c.arrange.ensures.0 c.arrange.ensures.1 c.if-n-lt3.false _ c.is_wide.ensures c.if-is_wide.false

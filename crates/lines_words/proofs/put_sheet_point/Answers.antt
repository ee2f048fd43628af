use Rattle.lines_words.proofs.PenLaws.{put-repeated, put-new}
use mathlib.Core.Path.{ap, ◌∙◌}
use Rattle.lines_millimetres.specs.Nearest.{word64}
use mir.Syntax.{w64}
use mir.ValLaws.{to_z-of_z}
use borrow.Author.Rules.{rules}
use Rattle.lines_words.proofs.put_sheet_point.Goals as goal

pub returns-then-is_repeated : goal.returns-then-is_repeated
returns-then-is_repeated c = put-repeated _ _ _ _ c.is_repeated.ensures c.if-is_repeated.true

pub returns : goal.returns
returns c = put-new _ _ _ _ c.is_repeated.ensures _ _ _ _ _ _ c.if-is_repeated.false c.next_word-at.ensures.0 (c.word.ensures ∙ ap word64 (to_z-of_z w64 c.args.m.x (search rules))) c.put.ensures (c.word-2.ensures ∙ ap word64 (to_z-of_z w64 c.args.m.y (search rules))) c.put-2.ensures c.one_more.ensures

use Rattle.lines_words.proofs.PenLaws.{put_vector, put-sheet}
use Rattle.lines_words.proofs.put_point.Goals as goal

pub returns-in-Points : goal.returns-in-Points
returns-in-Points c = put_vector _ _ _ _ _ _ c.in-Points.is c.next_word.ensures.0 c.put_vec.ensures c.one_more.ensures

pub returns-in-Sheet : goal.returns-in-Sheet
returns-in-Sheet c = put-sheet _ _ _ _ _ _ _ c.in-Sheet.is c.sheet_point.ensures c.put_sheet_point.ensures

-- A pen: what it writes of the next point of a line, and where it stands then.
-- `pen_at`: before the first point. `width`, `next_word`: where the next point's words go.
-- `is_repeated`, `one_more`, `sheet_pen_after`, `sheet_words_of`: a point of a sheet.
-- `styled_pen`, `pen_after`, `styled_words`, `added_words`: a point in either style. `words_along`, `pen_along`: all points of a list.
use Rattle.std.specs.Prelude.{ℕ, ◌+◌, ◌*◌, Bool, cond, ◌&&◌, List, [], ◌∷◌, ◌++◌, ltb, pos}
use Rattle.arith.specs.Lists.{fold}
use Rattle.arith.specs.declared.Vec3.{Vec3}
use Rattle.answers.specs.Words.{vec_words}
use Rattle.lines_words.specs.declared.Style.{Style}
use Rattle.lines_words.specs.declared.Style.TheVariants.{Points, Sheet}
use Rattle.lines_words.specs.declared.SheetPoint.{SheetPoint}
use Rattle.lines_words.specs.declared.Pen.{Pen}
use Rattle.lines_words.specs.Sheet.{sheet_point, is_same, sheet_point_words}

-- before the first point of a line, whose words start at a place
abbrev pub pen_at : Style → ℕ → Pen
pen_at style at = record { style = style; at = at; count = 0; last = record { x = pos 0; y = pos 0 } }

-- how many words a point has
unfoldable pub width : Style → ℕ
width Points = 3
width (Sheet choice) = 2

-- where the next point's words go: behind the count and the points that were written
unfoldable pub next_word : Pen → ℕ
next_word pen = pen.at + 1 + width pen.style * pen.count

-- ---- a sheet

-- the point equals the one listed just before it
unfoldable pub is_repeated : Pen → SheetPoint → Bool
is_repeated pen m = ltb 0 pen.count && is_same pen.last m

-- one point more was written
unfoldable pub one_more : Pen → SheetPoint → Pen
one_more pen m = record { style = pen.style; at = pen.at; count = pen.count + 1; last = m }

-- the pen after the point m
unfoldable pub sheet_pen_after : Pen → SheetPoint → Pen
sheet_pen_after pen m = cond (is_repeated pen m) pen (one_more pen m)

-- what it writes of m
unfoldable pub sheet_words_of : Pen → SheetPoint → List ℕ
sheet_words_of pen m = cond (is_repeated pen m) [] (sheet_point_words m)

-- ---- either style

-- the pen after the point p, by the style
unfoldable pub styled_pen : Style → Pen → Vec3 → Pen
styled_pen Points pen p = one_more pen pen.last
styled_pen (Sheet choice) pen p = sheet_pen_after pen (sheet_point choice p)

-- its own style
unfoldable pub pen_after : Pen → Vec3 → Pen
pen_after pen p = styled_pen pen.style pen p

-- what it writes of p, by the style
unfoldable pub styled_words : Style → Pen → Vec3 → List ℕ
styled_words Points pen p = vec_words p
styled_words (Sheet choice) pen p = sheet_words_of pen (sheet_point choice p)

-- its own style
unfoldable pub added_words : Pen → Vec3 → List ℕ
added_words pen p = styled_words pen.style pen p

-- ---- a list of points

-- what it writes of all of them
unfoldable pub words_along : Pen → List Vec3 → List ℕ
words_along pen [] = []
words_along pen (p ∷ l) = added_words pen p ++ words_along (pen_after pen p) l

-- where it stands then
unfoldable pub pen_along : Pen → List Vec3 → Pen
pen_along pen l = fold pen_after pen l

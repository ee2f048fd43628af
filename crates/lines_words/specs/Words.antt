-- The words of a line, in either style.
use Rattle.std.specs.Prelude.{ℕ, List, ◌∷◌, length}
use Rattle.arith.specs.declared.Vec3.{Vec3}
use Rattle.answers.specs.Words.{point_words}
use Rattle.lines_words.specs.declared.Style.{Style}
use Rattle.lines_words.specs.declared.Style.TheVariants.{Points, Sheet}
use Rattle.lines_words.specs.Sheet.{listed, sheet_words}

-- "3: point count, points"; a sheet: "a point count, then x and y of each point as signed 64-bit millimetres"
unfoldable pub line_words : Style → List Vec3 → List ℕ
line_words Points l = length l ∷ point_words l
line_words (Sheet choice) l = length (listed choice l) ∷ sheet_words (listed choice l)

-- The sheet of a line: its points in whole millimetres, those left out that repeat the one before.
-- `sheet_point`, `is_same`: a point on a sheet, and two that are equal. `listed_after`, `listed`: the points that are listed.
-- `sheet_point_words`, `sheet_words`: their words.
use Rattle.std.specs.Prelude.{ℕ, Bool, true, false, ◌&&◌, List, [], ◌∷◌, ◌++◌}
use Rattle.arith.specs.declared.Vec3.{Vec3}
use Rattle.lines_millimetres.specs.declared.Rounding.{Rounding}
use Rattle.lines_millimetres.specs.Nearest.{millimetres, word64, same_number}
use Rattle.lines_words.specs.declared.SheetPoint.{SheetPoint}

-- "x and y of each point as signed 64-bit millimetres"
unfoldable pub sheet_point : Rounding → Vec3 → SheetPoint
sheet_point choice p = record { x = millimetres choice p.x; y = millimetres choice p.y }

-- "two whole numbers equal those listed just before"
unfoldable pub is_same : SheetPoint → SheetPoint → Bool
is_same a b = same_number a.x b.x && same_number a.y b.y

-- the points that are listed after m: "A point whose two whole numbers equal those listed just before it is dropped and not counted."
unfoldable pub listed_after : Rounding → SheetPoint → List Vec3 → List SheetPoint
listed_after choice m [] = []
listed_after choice m (p ∷ l) =
    elim (is_same m (sheet_point choice p)) [ true ↦ listed_after choice m l | false ↦ sheet_point choice p ∷ listed_after choice (sheet_point choice p) l ]

-- all that are listed, the first point first
unfoldable pub listed : Rounding → List Vec3 → List SheetPoint
listed choice [] = []
listed choice (p ∷ l) = sheet_point choice p ∷ listed_after choice (sheet_point choice p) l

-- x, then y, in two's complement
unfoldable pub sheet_point_words : SheetPoint → List ℕ
sheet_point_words m = word64 m.x ∷ word64 m.y ∷ []

-- points, one after another
unfoldable pub sheet_words : List SheetPoint → List ℕ
sheet_words [] = []
sheet_words (m ∷ l) = sheet_point_words m ++ sheet_words l

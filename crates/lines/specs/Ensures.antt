-- The contracts of the parts of `integrate` and `integrate_rake`: how many words there are, the words as far as they fit, and the marks.
-- `trace` and `trace_all`: `TraceExit`. `points_after`: `PointsAfterExit`.
use Rattle.std.specs.Prelude.{ℕ, ◌+◌, ◌≤◌, ◌≡◌, List, length}
use Rattle.std.proofs.lemmas.List.Edits.{sets}
use Rattle.arith.specs.Limits.{most_steps}
use Rattle.arith.specs.declared.Vec3.{Vec3}
use Rattle.reading.specs.declared.Values.{Values}
use Rattle.reading.specs.Asks.{Asks, run, reads}
use Rattle.reading.specs.Marks.{mark_all}
use Rattle.lines_words.specs.declared.Pen.{Pen}
use Rattle.lines_words.specs.Pen.{next_word, words_along, pen_along}

-- the words of the answer stand from `at` on, as far as they fit; their number is r; the cells that were read are marked
pub record TraceExit (t : Asks (List ℕ)) (f : ℕ → Values) (m m' o o' : List ℕ) (at r : ℕ) : Type 0 where
  pub marks : m' ≡ mark_all m (reads t f)
  pub words : o' ≡ sets o at (run t f)
  pub count : r ≡ length (run t f)

-- the same of the points of a line, which a pen wrote: it stands at r then
pub record PointsAfterExit (t : Asks (List Vec3)) (f : ℕ → Values) (m m' : List ℕ) (start : Pen) (o o' : List ℕ) (r : Pen) : Type 0 where
  pub marks : m' ≡ mark_all m (reads t f)
  pub words : o' ≡ sets o (next_word start) (words_along start (run t f))
  pub pen : r ≡ pen_along start (run t f)
  pub few : r.count ≤ most_steps + 1

-- What the functions of a pen need and leave.
use Rattle.std.specs.Prelude.{ℕ, ◌+◌, ◌≤◌, ◌≡◌, true, List}
use Rattle.std.proofs.lemmas.List.Edits.{sets}
use Rattle.arith.specs.Limits.{most_steps}
use Rattle.arith.specs.declared.Vec3.{Vec3}
use Rattle.lines_millimetres.specs.Nearest.{under2^53}
use Rattle.lines_words.specs.declared.Pen.{Pen}
use Rattle.lines_words.specs.Pen.{next_word, pen_after, added_words}

-- a point whose millimetres fit 64 bits
pub record SheetPointEntry (p : Vec3) : Type 0 where
  pub x : under2^53 p.x ≡ true
  pub y : under2^53 p.y ≡ true

-- a line among the first 16,000,000 words, of at most a seed and 65,536 points more
pub record PenEntry (pen : Pen) : Type 0 where
  pub low : pen.at ≤ 16000000
  pub few : pen.count ≤ most_steps + 1

-- the pen after a point, and its words as far as they fit
pub record PutPointExit (pen : Pen) (p : Vec3) (o o' : List ℕ) (r : Pen) : Type 0 where
  pub pen-after : r ≡ pen_after pen p
  pub words : o' ≡ sets o (next_word pen) (added_words pen p)

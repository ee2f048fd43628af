-- What a function that reads cells promises: "Each adds the cells that it reads to those read so far."
use Rattle.std.specs.Prelude.{ℕ, ◌≡◌, List}
use Rattle.reading.specs.declared.Values.{Values}
use Rattle.reading.specs.Asks.{Asks, run, reads}
use Rattle.reading.specs.Marks.{mark_all}

-- Over the field f the tree t was served: r is its answer, and the marks went from m to those with each cell that it read.
pub record Served {A : Type 0} (t : Asks A) (f : ℕ → Values) (m m' : List ℕ) (r : A) : Type 0 where
  pub answer : r ≡ run t f
  pub marks : m' ≡ mark_all m (reads t f)

use Prim.Native.Nat.{ℕ}
use mathlib.Core.Path.{◌≡◌}
use mathlib.Core.List.{List}
use Rattle.reading.specs.declared.Values.{Values}
use Rattle.reading.specs.Asks.{Asks, run, reads}
use Rattle.reading.specs.Marks.{mark_all}

-- In the middle of serving `whole`, with `rest` to do and the marks m: serving `rest` from here serves `whole` from m₀.
pub record Going {A : Type 0} (whole : Asks A) (f : ℕ → Values) (m₀ : List ℕ) (rest : Asks A) (m : List ℕ) : Type 0 where
  pub answer : run rest f ≡ run whole f
  pub marks : mark_all m (reads rest f) ≡ mark_all m₀ (reads whole f)

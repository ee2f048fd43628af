-- The contracts of the helpers of `open`.
use Rattle.std.specs.Prelude.{ℕ, ◌<◌, ◌≡◌, List}
use Rattle.arith.specs.Limits.{2^32}
use Rattle.case_file.specs.declared.Counts.{Counts}
use Rattle.case_file.specs.Trailer.{counts_of}

-- the counts of a file, each a u32
pub record CountsExit (file : List ℕ) (n : Counts) : Type 0 where
  pub same : n ≡ counts_of file
  pub points : n.points < 2^32
  pub words : n.words < 2^32
  pub cells : n.cells < 2^32

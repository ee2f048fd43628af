use native.Mathlib.Omega.{arith}
use Rattle.lines_field.specs.Ensures.{bin_word}
use Rattle.lines_field.proofs.bins.bin_word.Goals as goal

pub returns : goal.returns
unfolding bin_word
returns c = omega arith

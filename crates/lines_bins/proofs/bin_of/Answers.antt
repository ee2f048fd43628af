use native.Mathlib.Omega.{arith}
use Rattle.lines_bins.proofs.Laws.{bin-low}
use borrow.Author.Rules.{rules}
use Rattle.lines_bins.proofs.bin_of.Goals as goal

pub overflow_mul-result : goal.overflow_mul-result
overflow_mul-result c = omega (arith, bin-low _ _ _ _ c.requires.0 c.requires.1)

pub overflow_add-result : goal.overflow_add-result
overflow_add-result c = omega (arith, bin-low _ _ _ _ c.requires.0 c.requires.1)

pub returns : goal.returns
returns c = search (bin-low, rules)

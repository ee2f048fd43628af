use native.Mathlib.Omega.{arith}
use Rattle.case_writer.proofs.PartLaws.{dimension-small, word_first, word-second}
use Rattle.case_writer.proofs.parts.dimension_word.Goals as goal

pub overflow_cast-result : goal.overflow_cast-result
overflow_cast-result c = record { fits = omega (arith, dimension-small _ c.requires) }

pub returns-then-n-ne2 : goal.returns-then-n-ne2
returns-then-n-ne2 c = word_first _ c.if-n-ne2.true

pub overflow_add-result : goal.overflow_add-result
overflow_add-result c = record { fits = omega (arith, dimension-small _ c.requires) }

pub overflow_cast-result-2 : goal.overflow_cast-result-2
overflow_cast-result-2 c = record { fits = omega (arith, dimension-small _ c.requires) }

pub returns : goal.returns
returns c = word-second _ c.if-n-ne2.false

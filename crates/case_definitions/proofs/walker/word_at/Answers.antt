use mathlib.Core.Path.{sym, ◌∙◌}
use native.Mathlib.Omega.{arith}
use Rattle.case_file.proofs.ReadLaws.{length-words_in, word-there}
use Rattle.case_definitions.proofs.walker.word_at.Goals as goal

-- `case_definitions::walker::word_at` meets its contract. Assumes nothing.
pub overflow_mul-at : goal.overflow_mul-at
overflow_mul-at c = omega (arith, length-words_in c.args.words.now)

pub word_at-requires : goal.word_at-requires
word_at-requires c = omega (arith, length-words_in c.args.words.now)

pub returns : goal.returns
returns c = c.word_at.ensures ∙ sym (word-there c.args.words.now c.args.at c.requires)

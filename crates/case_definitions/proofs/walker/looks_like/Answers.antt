use borrow.Author.Tests.{eqb-true}
use mathlib.Core.Path.{sym, ◌∙◌}
use native.Mathlib.Omega.{arith}
use Rattle.std.proofs.lemmas.Bool.Decides.{nat_tests}
use Rattle.case_file.specs.Trailer.{words_in}
use Rattle.case_definitions.proofs.AlikeLaws.{head-ends, looks-so}
use Rattle.case_definitions.proofs.walker.looks_like.Goals as goal

-- `case_definitions::walker::looks_like` meets its contract. Assumes nothing.
pub overflow_sub-at : goal.overflow_sub-at
overflow_sub-at c = let b = (head-ends (words_in c.args.words.now) c.args.h c.args.at c.requires.0).past in omega arith

pub word_at-requires : goal.word_at-requires
word_at-requires c = let l = (head-ends (words_in c.args.words.now) c.args.h c.args.at c.requires.0).long c.requires.1 in omega arith

pub word_at-requires-else-h-gt0 : goal.word_at-requires-else-h-gt0
word_at-requires-else-h-gt0 c = let l = (head-ends (words_in c.args.words.now) c.args.h c.args.at c.requires.0).long c.requires.1 in grind (arith, nat_tests)

pub returns-then-h-gt0 : goal.returns-then-h-gt0
returns-then-h-gt0 c = λ e.
    looks-so (words_in c.args.words.now) c.args.h c.args.at c.args.p c.requires.0
    (grind (arith, nat_tests)) (grind (arith, nat_tests)) (λ z. absurd (omega arith))

pub returns-else-h-gt0 : goal.returns-else-h-gt0
returns-else-h-gt0 c = λ e.
    looks-so (words_in c.args.words.now) c.args.h c.args.at c.args.p c.requires.0
    (grind (arith, nat_tests)) (grind (arith, nat_tests)) (λ z. sym c.word_at-else-h-gt0.ensures ∙ eqb-true _ _ e)

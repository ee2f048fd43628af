use Rattle.job_encoding.specs.Single.{direction_word}
use borrow.Author.Rules.{rules}
use Rattle.job_encoding.proofs.direction_word.Goals as goal

pub returns-in-Forward : goal.returns-in-Forward
unfolding direction_word
returns-in-Forward c = search rules

pub returns-in-Backward : goal.returns-in-Backward
unfolding direction_word
returns-in-Backward c = search rules

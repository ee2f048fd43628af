use borrow.Author.Rules.{rules}
use Rattle.case_file.specs.Trailer.{trailer_word}
use Rattle.case_file.proofs.trailer.trailer_word.Goals as goal

pub returns : goal.returns
unfolding trailer_word
returns c = search rules

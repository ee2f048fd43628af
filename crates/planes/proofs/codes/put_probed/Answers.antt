use Rattle.planes.proofs.ReplyLaws.{no_word}
use Rattle.planes.specs.Answers.{probe_words}
use Rattle.answers.specs.Words.{values_words, vec_words}
use Rattle.planes.proofs.codes.put_probed.Goals as goal

pub returns-in-Some : goal.returns-in-Some
unfolding probe_words
returns-in-Some c = rw (c.in-Some.is, c.put_values.ensures, c.put.ensures)

pub returns-in-None : goal.returns-in-None
unfolding probe_words values_words vec_words
returns-in-None c = rw (c.in-None.is, c.put_values-in-None.ensures, c.put-in-None.ensures, no_word)

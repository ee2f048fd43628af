use Rattle.planes.proofs.ReplyLaws.{no_word}
use Rattle.answers.specs.Words.{vec_words}
use Rattle.job_serve.specs.Serve.{velocity_words}
use Rattle.job_serve.proofs.put_velocity.Goals as goal

pub returns-in-Some : goal.returns-in-Some
unfolding velocity_words
returns-in-Some c = rw (c.in-Some.is, c.put_vec.ensures, c.put.ensures)

pub returns-in-None : goal.returns-in-None
unfolding velocity_words vec_words
returns-in-None c = rw (c.in-None.is, c.put_vec-in-None.ensures, c.new.ensures, c.put-in-None.ensures, no_word)

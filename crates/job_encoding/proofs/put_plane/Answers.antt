use Rattle.answers.specs.Words.{vec_words}
use Rattle.job_encoding.specs.Single.{plane_words}
use Rattle.job_encoding.proofs.put_plane.Goals as goal

pub returns : goal.returns
unfolding plane_words vec_words
returns c = rw (c.put_vec-3.ensures, c.put_vec-2.ensures, c.put_vec.ensures)

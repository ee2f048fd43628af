use Rattle.planes_sums.specs.Integrals.{integral_words}
use Rattle.answers.specs.Words.{vec_words}
use Rattle.planes.proofs.codes.put_integrals.Goals as goal

pub returns : goal.returns
unfolding integral_words vec_words
returns c = rw (c.put.ensures, c.bits_of.ensures, c.put_vec.ensures)

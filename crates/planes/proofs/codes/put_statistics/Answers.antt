use Rattle.planes_sums.specs.Statistics.{statistics_words}
use Rattle.answers.specs.Words.{vec_words}
use Rattle.planes.proofs.codes.put_statistics.Goals as goal

pub returns : goal.returns
unfolding statistics_words vec_words
returns c = rw (c.put_fractions.ensures, c.put_vec-3.ensures, c.put_vec-2.ensures, c.put_vec.ensures, c.put.ensures)

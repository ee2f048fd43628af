use Rattle.planes_sums.specs.Statistics.{fraction_words}
use Rattle.planes.proofs.codes.put_fractions.Goals as goal

pub returns-then-absolute : goal.returns-then-absolute
unfolding fraction_words
returns-then-absolute c = rw (c.if-absolute.true, c.put-then-absolute-2.ensures, c.bits_of-then-absolute.ensures, c.put-then-absolute.ensures, c.bits_of.ensures, c.put.ensures)

pub returns-else-absolute : goal.returns-else-absolute
unfolding fraction_words
returns-else-absolute c = rw (c.if-absolute.false, c.put-else-absolute-3.ensures, c.put-else-absolute-2.ensures, c.put-else-absolute.ensures)

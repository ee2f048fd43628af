use native.Mathlib.Numerals.{add-one, add-two}
use Rattle.answers.specs.Words.{vec_words}
use Rattle.answers.proofs.put_vec.Goals as goal

pub returns : goal.returns
unfolding vec_words
returns c = rw (c.put-3.ensures, c.bits_of-3.ensures, c.put-2.ensures, c.bits_of-2.ensures, c.put.ensures, c.bits_of.ensures, add-one, add-two)

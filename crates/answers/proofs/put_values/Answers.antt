use native.Mathlib.Numerals.{add-three}
use Rattle.answers.specs.Words.{vec_words, values_words}
use Rattle.answers.proofs.put_values.Goals as goal

pub returns : goal.returns
unfolding values_words vec_words
returns c = rw (c.put.ensures, c.bits_of.ensures, c.put_vec.ensures, add-three)

use Rattle.mesh_area.specs.Layout.{mesh_words}
use Rattle.mesh_area.proofs.face_word.Goals as goal

pub returns : goal.returns
unfolding mesh_words
returns c = (rw c.words_end.ensures at c.word_in.ensures.0, c.word_in.ensures.1)

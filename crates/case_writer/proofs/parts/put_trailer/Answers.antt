use mathlib.Core.Path.{◌∙◌}
use Rattle.case_file.specs.Trailer.{words_from, field_from, pressures_from}
use Rattle.case_contents.specs.Contents.{trailer_of}
use Rattle.case_writer.proofs.parts.put_trailer.Goals as goal

pub returns : goal.returns
unfolding trailer_of words_from field_from pressures_from
returns c = c.put_u32s.ensures ∙ rw c.dimension_word.ensures

use mathlib.Core.Path.{ap, ◌∙◌}
use Rattle.case_file.specs.Trailer.{edition_of, counts_of}
use Rattle.case_file.proofs.trailer.edition_of.Goals as goal

pub returns : goal.returns
unfolding counts_of
returns c = c.edition.ensures ∙ ap edition_of c.trailer_word.ensures.0

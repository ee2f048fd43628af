use borrow.Author.Rules.{rules}
use Rattle.case_file.specs.Trailer.{counts_of}
use Rattle.case_file.proofs.trailer.counts.Goals as goal

pub returns : goal.returns
unfolding counts_of
returns c =
    record {
      same =
          rw (c.edition.ensures, c.trailer_word-3.ensures.0, c.trailer_word-2.ensures.0, c.trailer_word.ensures.0, c.dimension.ensures, c.trailer_word-w.ensures.0);
      points = search rules;
      words = search rules;
      cells = search rules;
    }

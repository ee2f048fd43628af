use Rattle.job_serve.specs.Serve.{located_words}
use Rattle.job_serve.proofs.put_located.Goals as goal

pub returns : goal.returns
unfolding located_words
returns c =
    rw (c.put-2.ensures, c.put.ensures, c.position_word.ensures, c.cell_word.ensures)

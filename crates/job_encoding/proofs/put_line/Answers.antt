use Rattle.job_encoding.proofs.Laws.{line-stored}
use Rattle.job_encoding.proofs.put_line.Goals as goal

pub returns : goal.returns
returns c =
    let a = c.args in
    line-stored a.settings a.at _ c.direction_word.ensures c.put.ensures c.bits_of.ensures c.put-2.ensures c.put-3.ensures c.bits_of-2.ensures c.put-4.ensures c.bits_of-3.ensures c.put-5.ensures

use Rattle.job_encoding.proofs.streamline.Goals as goal

pub returns : goal.returns
returns c = rw (← c.code_by.ensures) c.one_line.ensures

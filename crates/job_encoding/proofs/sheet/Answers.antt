use Rattle.job_encoding.proofs.sheet.Goals as goal

pub returns : goal.returns
returns c = rw (← c.sheet_code.ensures) c.one_line.ensures

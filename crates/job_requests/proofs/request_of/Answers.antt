use Rattle.job_requests.proofs.Laws.{request-ill-formed, request-wrong-dimension, request-by-code}
use Rattle.job_requests.proofs.request_of.Goals as goal

pub returns-then-is_ill_formed : goal.returns-then-is_ill_formed
returns-then-is_ill_formed c = request-ill-formed _ _ c.number-code.ensures c.code_of-c.ensures.0 c.is_ill_formed.ensures c.if-is_ill_formed.true

pub returns-then-is_wrong_dimension : goal.returns-then-is_wrong_dimension
returns-then-is_wrong_dimension c = request-wrong-dimension _ _ c.number-code.ensures c.code_of-c.ensures.0 c.is_ill_formed.ensures c.if-is_ill_formed.false c.is_wrong_dimension.ensures c.if-is_wrong_dimension.true

pub returns : goal.returns
returns c = request-by-code _ _ c.number-code.ensures c.code_of-c.ensures.0 c.is_ill_formed.ensures c.if-is_ill_formed.false c.is_wrong_dimension.ensures c.if-is_wrong_dimension.false c.by_code.ensures

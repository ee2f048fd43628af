use Rattle.capi_values.specs.Convert.{vector_of}
use borrow.Author.Rules.{rules}
use Rattle.capi_values.proofs.convert.vector.Goals as goal

pub returns : goal.returns
unfolding vector_of
returns c = search rules

use Rattle.capi_values.specs.Convert.{options_of}
use borrow.Author.Rules.{rules}
use Rattle.capi_values.proofs.convert.options.Goals as goal

pub returns : goal.returns
unfolding options_of
returns c = search rules

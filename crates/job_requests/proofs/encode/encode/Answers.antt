use Rattle.job_requests.proofs.EncodeLaws.{encoded}
use borrow.Author.Rules.{rules}
use Rattle.job_requests.proofs.encode.encode.Goals as goal

pub put_u64s-requires : goal.put_u64s-requires
put_u64s-requires c = search (encoded, rules)

pub returns : goal.returns
returns c = search (encoded, rules)

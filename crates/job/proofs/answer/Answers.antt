use Rattle.job_promise.proofs.AnswerLaws.{told_part, reply-is}
use Prim.Native.Nat.{◌+◌, ◌-◌}
use lib.ListN.{length}
use borrow.Author.Rules.{rules}
use Rattle.job.proofs.answer.Goals as goal

pub returns : goal.returns
returns c =
    let replied = reply-is _ _ _ _ _ _ _ _ _ _ _ (c.is_flat.ensures _ _ _) c.request_of-q.ensures.0 c.serve-r.ensures in
    told_part _ _ _ _ _ _ _ _ _ _ _ _ (length c.args.answers.now - (c.args.at + 2)) _ replied c.close.ensures (search rules) (search rules) (search rules)

use Rattle.job_promise.proofs.ThroughLaws.{through-room, through-start, through-next, through-end}
use borrow.Author.Rules.{rules}
use Rattle.job.proofs.serve_all.Goals as goal

pub loop-i-init : goal.loop-i-init
loop-i-init c = through-start _ _ _ _ _ (search rules)

pub answer-at-requires : goal.answer-at-requires
answer-at-requires c =
    let fits = through-room _ _ _ _ _ _ c.loop-i.invariant (search rules) c.requires.room_stands.1 in
    record { room_stands = (c.requires.room_stands.0, fits.0); i_in_bounds = (search rules, fits.2) }

pub loop-i-preserved : goal.loop-i-preserved
loop-i-preserved c = through-next _ _ _ _ _ c.loop-i.invariant (search rules) (search rules) c.answer-at.ensures

pub returns : goal.returns
returns c = through-end _ _ _ _ _ c.loop-i.invariant (search rules)

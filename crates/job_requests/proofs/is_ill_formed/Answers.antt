use mathlib.Core.Path.{sym, ◌∙◌}
use borrow.Author.Tests.{ne_eqb}
use Rattle.job_requests.specs.Codes.{is_unknown}
use Rattle.job_requests.specs.Requests.{ill_formed, unused_set}
use Rattle.job_requests.proofs.is_ill_formed.Goals as goal
use Rattle.job_requests.proofs.is_ill_formed.Goals.{then-c-eq0, else-c-eq0}

pub returns-then-any_set : goal.returns-then-any_set
unfolding ill_formed is_unknown unused_set
returns-then-any_set c =
    c.if-any_set.true
    ∙ elim c.if-c-eq0.branch [
      | then-c-eq0 w ↦ rw w.if-c-eq0.true
      | else-c-eq0 w ↦ rw (ne_eqb _ _ w.if-c-eq0.false, sym w.any_set.ensures, sym w.value-is, c.if-any_set.true)
    ]

pub returns-else-any_set : goal.returns-else-any_set
unfolding ill_formed is_unknown unused_set
returns-else-any_set c =
    elim c.if-c-eq0.branch [
      | then-c-eq0 w ↦ (let z = rw w.if-c-eq0.true at (sym w.value-is ∙ c.if-any_set.false) in cc)
      | else-c-eq0 w ↦ rw (ne_eqb _ _ w.if-c-eq0.false, sym w.any_set.ensures, sym w.value-is, c.if-any_set.false) c.has_bad_direction.ensures
    ]

use mathlib.Core.Path.{◌∙◌}
use Rattle.job_promise.specs.Job.{number_of}
use Rattle.job_promise.proofs.NumberLaws.{same-number}
use borrow.Author.Rules.{rules}
use Rattle.job_promise.proofs.number_of.Goals as goal

pub returns-in-Ok : goal.returns-in-Ok
unfolding number_of
returns-in-Ok c = record { value = search rules; only = λ q e. same-number _ q (search rules) }

pub returns-in-Err : goal.returns-in-Err
unfolding number_of
returns-in-Err c = record { value = search rules; only = λ q e. same-number _ q (search rules) }

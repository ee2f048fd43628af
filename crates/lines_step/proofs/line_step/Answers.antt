use Rattle.lines_step.proofs.StepLaws.{step-ended, step_kept}
use Rattle.lines_step.proofs.line_step.Goals as goal

pub returns-in_default : goal.returns-in_default
returns-in_default c = step-ended _ _ _ _ _ _ _ _ _ c.rk4_step.ensures c.in_default.is

pub returns : goal.returns
returns c = step_kept _ _ _ _ _ _ _ _ _ c.rk4_step.ensures _ _ c.in-Some.is c.within_length.ensures

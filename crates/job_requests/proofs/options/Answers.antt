use Rattle.job_requests.specs.Requests.{options}
use Rattle.job_requests.proofs.options.Goals as goal

pub returns : goal.returns
unfolding options
returns c = rw (c.real-stagnation_speed.ensures, c.real-max_length.ensures, c.number-max_steps.ensures, c.real-step_size.ensures)

use Rattle.lines.proofs.JobLaws.{answered-refused, answered-fine, not_good, is_lost, is-fine, rake-written}
use Rattle.lines.specs.Rake.{integrate_rake}
use mathlib.Core.Path.{sym, ◌∙◌}
use Rattle.lines.proofs.rakes.integrate_rake.Goals as goal
use Rattle.refusal.specs.declared.Refusal.TheVariants.{SeedNowhere, WrongOptions}

pub returns-then-any_nowhere : goal.returns-then-any_nowhere
unfolding integrate_rake
returns-then-any_nowhere c = answered-refused SeedNowhere (is_lost _ _ c.are_accepted.ensures c.if-are_accepted.true (c.any_nowhere.ensures _) c.if-any_nowhere.true)

pub trace_all-written-requires : goal.trace_all-written-requires
trace_all-written-requires c =
    let entry = c.requires in record { tracer_entry = entry.tracer_entry; le_count = entry.le_count; rake_value = sym (c.any_nowhere.ensures _) ∙ c.if-any_nowhere.false }

pub returns-then-are_accepted : goal.returns-then-are_accepted
unfolding integrate_rake
returns-then-are_accepted c = answered-fine _ (is-fine _ _ c.are_accepted.ensures c.if-are_accepted.true (c.any_nowhere.ensures _) c.if-any_nowhere.false) (rake-written _ _ _ _ _ _ c.trace_all-written.ensures.0 c.put.ensures)

pub returns : goal.returns
unfolding integrate_rake
returns c = answered-refused WrongOptions (not_good _ _ c.are_accepted.ensures c.if-are_accepted.false)

use Rattle.lines.proofs.JobLaws.{answered-refused, answered-fine, not_good, is_lost, is-fine}
use Rattle.lines.specs.Line.{integrate}
use mathlib.Core.Path.{refl, sym, ◌∙◌}
use native.Mathlib.Omega.{arith}
use Rattle.lines.proofs.integrate.integrate.Goals as goal
use Rattle.refusal.specs.declared.Refusal.TheVariants.{SeedNowhere, WrongOptions}

pub returns-then-is_nowhere : goal.returns-then-is_nowhere
unfolding integrate
returns-then-is_nowhere c = answered-refused SeedNowhere (is_lost _ _ c.are_accepted.ensures c.if-are_accepted.true (c.is_nowhere.ensures _) c.if-is_nowhere.true)

pub trace-count-requires : goal.trace-count-requires
trace-count-requires c =
    let entry = c.requires in
    let pen = c.pen_at-pen.ensures in
    record { tracer_entry = entry.tracer_entry; at_bound = rw pen (omega arith, refl, entry.max_steps_bound); seed_value = sym (c.is_nowhere.ensures _) ∙ c.if-is_nowhere.false }

pub returns-then-are_accepted : goal.returns-then-are_accepted
unfolding integrate
returns-then-are_accepted c =
    answered-fine _
    (is-fine _ _ c.are_accepted.ensures c.if-are_accepted.true (c.is_nowhere.ensures _) c.if-is_nowhere.false)
    (rw c.pen_at-pen.ensures at c.trace-count.ensures.0)

pub returns : goal.returns
unfolding integrate
returns c = answered-refused WrongOptions (not_good _ _ c.are_accepted.ensures c.if-are_accepted.false)

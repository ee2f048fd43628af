use native.Mathlib.Omega.{arith}
use Rattle.lines_velocity.proofs.TracerLaws.{tracer-zone, tracer-home}
use Rattle.lines_step.proofs.StepLaws.{rk4-lost, rk4-outside, rk4-inside, rk4-across}
use Rattle.lines_step.proofs.rk4_step.Goals as goal

pub returns-in_err-q : goal.returns-in_err-q
returns-in_err-q c = rw c.from_residual.ensures (rk4-lost _ _ _ _ _ _ _ _ c.runge_kutta.ensures c.in_err-q.was)

pub returns-in_err-i : goal.returns-in_err-i
returns-in_err-i c =
    rw c.from_residual-in_err-i.ensures (rk4-outside _ _ _ _ _ _ _ _ c.runge_kutta.ensures _ _ c.in_ok-q.was (c.locate.ensures.by_index_2 _) c.in_err-i.was)

pub returns-then-zone-t : goal.returns-then-zone-t
returns-then-zone-t c = rk4-inside _ _ _ _ _ _ _ _ c.runge_kutta.ensures _ _ c.in_ok-q.was (c.locate.ensures.by_index_2 _) _ _ _ c.in_ok-i.was (tracer-zone _ _ _ _ _ _ c.zone.ensures) (tracer-home _ _ _ _) (omega (arith, c.if-zone-t.true))

pub returns-else-zone-t : goal.returns-else-zone-t
returns-else-zone-t c = rk4-across _ _ _ _ _ _ _ _ c.runge_kutta.ensures _ _ c.in_ok-q.was (c.locate.ensures.by_index_2 _) _ _ _ c.in_ok-i.was (tracer-zone _ _ _ _ _ _ c.zone.ensures) (tracer-home _ _ _ _) c.if-zone-t.false

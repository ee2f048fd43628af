use Rattle.lines_velocity.proofs.TracerLaws.{staying-traces}
use Rattle.lines.proofs.HomeLaws.{stays-home}
use Rattle.lines.proofs.LineLaws.{pen-first, pen-last, traced}
use Rattle.lines.proofs.LocateLaws.{near}
use native.Mathlib.Omega.{arith}
use Rattle.lines.proofs.line.trace.Goals as goal

pub put_point-first-requires : goal.put_point-first-requires
put_point-first-requires c =
    let entry = c.requires in (record { low = entry.at_bound.0; few = omega (arith, entry.at_bound.1) }, near _ _ entry.tracer_entry.within entry.seed_value)

pub points_after-pen-requires : goal.points_after-pen-requires
points_after-pen-requires c =
    let entry = c.requires in
    let first = pen-first c.put_point-first.ensures entry.at_bound.0 entry.at_bound.1 in
    record { tracer_entry = staying-traces _ _ _ _ _ _ c.staying-tracer.ensures entry.tracer_entry; at_bound = (first.0, first.1, entry.at_bound.2) }

pub close-requires : goal.close-requires
close-requires c =
    let entry = c.requires in
    pen-last c.points_after-pen.ensures (pen-first c.put_point-first.ensures entry.at_bound.0 entry.at_bound.1).0

pub returns : goal.returns
returns c =
    let entry = c.requires in
    let stays = stays-home _ _ _ _ _ _ _ c.staying-tracer.ensures c.home_of-home.ensures in
    traced _ _ _ _ _ _ _ _ _ _ _ _ _ _ _ stays entry.at_bound.1 c.put_point-first.ensures c.points_after-pen.ensures c.close.ensures.1 c.close.ensures.0

use Rattle.case_file.specs.Field.{values_of}
use Rattle.job_room.specs.Ensures.{room_in}
use Rattle.job_promise.proofs.ThroughLaws.{Through}
use Rattle.job.proofs.serve_all.Given as goal

abbrev pub invariant-loop-i : goal.invariant-loop-i
invariant-loop-i l =
    Through (room_in l.case l.words l.floats l.place) (values_of l.case) l.initial.marks l.initial.answers l.requests l.i l.at l.marks l.answers

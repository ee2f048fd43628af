use Rattle.lines_locate.proofs.IndexLaws.{Going}
use Rattle.lines_locate.specs.Locate.{holds}
use Rattle.lines_locate.proofs.first_indexed.Given as goal

abbrev pub invariant-loop-h : goal.invariant-loop-h
invariant-loop-h l = Going l.s l.words l.floats (holds l.search l.at.bin l.q) l.h

abbrev pub decreases-loop-h : goal.decreases-loop-h
decreases-loop-h l = l.h

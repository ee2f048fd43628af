use mathlib.Core.Path.{◌≡◌}
use lib.ListN.{length}
use Rattle.mesh_connection.proofs.SearchLaws.{Turning}
use Rattle.mesh_connection.proofs.spread.Given as goal

abbrev pub invariant-loop-m : goal.invariant-loop-m
invariant-loop-m l = (length l.words ≡ length l.initial.words) × Turning l.s l.initial.words l.words l.base l.head l.c l.end l.last l.m

use Rattle.arith_bytes.proofs.StoreLaws.{Listing}
use Rattle.case_file.specs.Field.{zones_of}
use Rattle.case_writer.proofs.parts.copy_zones.Given as goal

abbrev pub invariant-loop-i : goal.invariant-loop-i
invariant-loop-i l = Listing 4 l.initial.out l.at (zones_of l.case) l.out l.i

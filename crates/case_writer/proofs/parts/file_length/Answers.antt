use native.Mathlib.Omega.{arith}
use Rattle.case_file.specs.Trailer.{zones_from, trailer_from}
use Rattle.case_writer.proofs.parts.file_length.Goals as goal

pub returns : goal.returns
unfolding trailer_from zones_from
returns c = omega arith

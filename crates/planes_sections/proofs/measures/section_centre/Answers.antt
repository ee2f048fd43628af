use native.Mathlib.Omega.{arith}
use Rattle.arith.proofs.Counts.{whole_in}
use Rattle.planes_sections.specs.Intersect.{section_centre}
use Rattle.planes_crossings.proofs.HeldLaws.{length-held}
use Rattle.planes_sections.proofs.measures.section_centre.Goals as goal

pub int_to_float-n : goal.int_to_float-n
int_to_float-n c = whole_in _ (omega (arith, c.requires.1))

pub returns : goal.returns
unfolding section_centre
returns c = rw (c.scale.ensures, c.sum.ensures, length-held)

use mathlib.Core.Path.{◌≡◌}
use native.Mathlib.Omega.{arith}
use Rattle.case_definitions.specs.Faces.{tetrahedron}
use Rattle.case_faces.specs.Ensures.{places_of}
use Rattle.case_faces.proofs.tetrahedron.Goals as goal

-- `case_faces::tetrahedron`: the rows of its table. Assumes nothing.
pub returns-in-0 : goal.returns-in-0
unfolding places_of tetrahedron
returns-in-0 c = rw c.in-0.is

pub returns-in-1 : goal.returns-in-1
unfolding places_of tetrahedron
returns-in-1 c = rw c.in-1.is

pub returns-in-2 : goal.returns-in-2
unfolding places_of tetrahedron
returns-in-2 c = rw c.in-2.is

pub returns-in-3-to-max : goal.returns-in-3-to-max
unfolding places_of tetrahedron
returns-in-3-to-max c = let last : c.args.face ≡ 3 = omega arith in rw last

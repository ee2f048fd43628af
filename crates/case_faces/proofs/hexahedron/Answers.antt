use mathlib.Core.Path.{◌≡◌}
use native.Mathlib.Omega.{arith}
use Rattle.case_definitions.specs.Faces.{hexahedron}
use Rattle.case_faces.specs.Ensures.{places_of}
use Rattle.case_faces.proofs.hexahedron.Goals as goal

-- `case_faces::hexahedron`: the rows of its table. Assumes nothing.
pub returns-in-0 : goal.returns-in-0
unfolding places_of hexahedron
returns-in-0 c = rw c.in-0.is

pub returns-in-1 : goal.returns-in-1
unfolding places_of hexahedron
returns-in-1 c = rw c.in-1.is

pub returns-in-2 : goal.returns-in-2
unfolding places_of hexahedron
returns-in-2 c = rw c.in-2.is

pub returns-in-3 : goal.returns-in-3
unfolding places_of hexahedron
returns-in-3 c = rw c.in-3.is

pub returns-in-4 : goal.returns-in-4
unfolding places_of hexahedron
returns-in-4 c = rw c.in-4.is

pub returns-in-5-to-max : goal.returns-in-5-to-max
unfolding places_of hexahedron
returns-in-5-to-max c = let last : c.args.face ≡ 5 = omega arith in rw last

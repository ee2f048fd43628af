use mathlib.Core.Path.{◌≡◌}
use native.Mathlib.Omega.{arith}
use Rattle.case_definitions.specs.Faces.{prism}
use Rattle.case_faces.specs.Ensures.{places_of}
use Rattle.case_faces.proofs.prism.Goals as goal

-- `case_faces::prism`: the rows of its table. Assumes nothing.
pub returns-in-0 : goal.returns-in-0
unfolding places_of prism
returns-in-0 c = rw c.in-0.is

pub returns-in-1 : goal.returns-in-1
unfolding places_of prism
returns-in-1 c = rw c.in-1.is

pub returns-in-2 : goal.returns-in-2
unfolding places_of prism
returns-in-2 c = rw c.in-2.is

pub returns-in-3 : goal.returns-in-3
unfolding places_of prism
returns-in-3 c = rw c.in-3.is

pub returns-in-4-to-max : goal.returns-in-4-to-max
unfolding places_of prism
returns-in-4-to-max c = let last : c.args.face ≡ 4 = omega arith in rw last

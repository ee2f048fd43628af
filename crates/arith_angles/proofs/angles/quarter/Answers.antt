use mathlib.Core.Path.{sym}
use Rattle.arith_angles.specs.Angle.{quarter}
use Rattle.arith_angles.proofs.angles.quarter.Goals as goal

pub returns-in-true-true : goal.returns-in-true-true
unfolding quarter
returns-in-true-true c = rw (sym c.in-true-true.ensures, sym c.in-true-true.ensures')

pub returns-in-true-false : goal.returns-in-true-false
unfolding quarter
returns-in-true-false c = rw (sym c.in-true-false.ensures, sym c.in-true-false.ensures')

pub returns-in-false-true : goal.returns-in-false-true
unfolding quarter
returns-in-false-true c = rw (sym c.in-false-true.ensures, sym c.in-false-true.ensures')

pub returns-in-false-false : goal.returns-in-false-false
unfolding quarter
returns-in-false-false c = rw (sym c.in-false-false.ensures, sym c.in-false-false.ensures')

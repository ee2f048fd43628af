use mathlib.Core.Path.{sym}
use native.Mathlib.Omega.{arith}
use Rattle.case_file.proofs.OutsideLaws.{values-there, values-none}
use Rattle.case_file.proofs.TrailerLaws.{opens}
use Rattle.case_file.proofs.field.values.Goals as goal

pub returns-then-n-i : goal.returns-then-n-i
returns-then-n-i c = sym (values-none _ _ c.requires _ c.if-n-i.true)

pub overflow_mul-velocities : goal.overflow_mul-velocities
overflow_mul-velocities c = omega (arith, (opens _ _ c.requires).whole)

pub overflow_mul-velocities-2 : goal.overflow_mul-velocities-2
overflow_mul-velocities-2 c = omega (arith, (opens _ _ c.requires).whole)

pub overflow_add-velocities : goal.overflow_add-velocities
overflow_add-velocities c = omega (arith, (opens _ _ c.requires).whole)

pub overflow_mul-pressures : goal.overflow_mul-pressures
overflow_mul-pressures c = omega (arith, (opens _ _ c.requires).whole)

pub overflow_add-pressures : goal.overflow_add-pressures
overflow_add-pressures c = omega (arith, (opens _ _ c.requires).whole)

pub overflow_mul-i : goal.overflow_mul-i
overflow_mul-i c = omega (arith, (opens _ _ c.requires).whole)

pub overflow_add-velocities-2 : goal.overflow_add-velocities-2
overflow_add-velocities-2 c = omega (arith, (opens _ _ c.requires).whole)

pub vec_at-requires : goal.vec_at-requires
vec_at-requires c = omega (arith, (opens _ _ c.requires).whole)

pub overflow_mul-i-2 : goal.overflow_mul-i-2
overflow_mul-i-2 c = omega (arith, (opens _ _ c.requires).whole)

pub overflow_add-pressures-2 : goal.overflow_add-pressures-2
overflow_add-pressures-2 c = omega (arith, (opens _ _ c.requires).whole)

pub float_at-requires : goal.float_at-requires
float_at-requires c = omega (arith, (opens _ _ c.requires).whole)

pub returns : goal.returns
returns c = rw (c.float_at.ensures, c.vec_at.ensures) (sym (values-there _ _ c.requires _ c.if-n-i.false))

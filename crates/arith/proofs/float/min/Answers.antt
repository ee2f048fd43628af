use Rattle.std.proofs.Common.{sym, ◌∙◌}
use Rattle.arith.specs.F64.{fmin}
use Rattle.arith.proofs.float.min.Goals as goal
use Rattle.arith.proofs.float.min.Goals.{then-is_nan, else-is_nan}

pub returns-then-b-a : goal.returns-then-b-a
unfolding fmin
returns-then-b-a c =
    elim c.if-is_nan.branch [
      | then-is_nan w ↦ rw (sym c.is_nan.ensures.value ∙ w.if-is_nan.true)
      | else-is_nan w ↦ rw (sym c.is_nan.ensures.value ∙ w.if-is_nan.false, sym w.value-is ∙ c.if-b-a.true)
    ]

pub returns-else-b-a : goal.returns-else-b-a
unfolding fmin
returns-else-b-a c =
    elim c.if-is_nan.branch [
      | then-is_nan w ↦ cc
      | else-is_nan w ↦ rw (sym c.is_nan.ensures.value ∙ w.if-is_nan.false, sym w.value-is ∙ c.if-b-a.false)
    ]

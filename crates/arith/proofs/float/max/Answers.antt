use Rattle.std.proofs.Common.{sym, ◌∙◌}
use Rattle.arith.specs.F64.{fmax}
use Rattle.arith.proofs.float.max.Goals as goal
use Rattle.arith.proofs.float.max.Goals.{then-is_nan, else-is_nan}

pub returns-then-a-b : goal.returns-then-a-b
unfolding fmax
returns-then-a-b c =
    elim c.if-is_nan.branch [
      | then-is_nan w ↦ rw (sym c.is_nan.ensures.value ∙ w.if-is_nan.true)
      | else-is_nan w ↦ rw (sym c.is_nan.ensures.value ∙ w.if-is_nan.false, sym w.value-is ∙ c.if-a-b.true)
    ]

pub returns-else-a-b : goal.returns-else-a-b
unfolding fmax
returns-else-a-b c =
    elim c.if-is_nan.branch [
      | then-is_nan w ↦ cc
      | else-is_nan w ↦ rw (sym c.is_nan.ensures.value ∙ w.if-is_nan.false, sym w.value-is ∙ c.if-a-b.false)
    ]

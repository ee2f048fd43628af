-- The classical fourth-order Runge-Kutta step, over any direction that may end.
use Rattle.std.specs.Prelude.{Float, Some}
use Rattle.arith.specs.F64.{◌⊗◌, ◌⊘◌, 0·5, 2·0, 6·0}
use Rattle.arith.specs.Vec.{plus, times}
use Rattle.arith.specs.declared.Vec3.{Vec3}
use Rattle.reading.specs.Asks.{Asks, give, ◌>>=◌}
use Rattle.lines_velocity.specs.Velocity.{from}
use Rattle.std.specs.declared.option.Option.{Option}

-- four directions, weighed 1, 2, 2, 1
unfoldable pub weighed : Float → Vec3 → Vec3 → Vec3 → Vec3 → Vec3 → Vec3
weighed h p k1 k2 k3 k4 = plus p (times (plus (plus (plus k1 (times k2 2·0)) (times k3 2·0)) k4) (h ⊘ 6·0))

-- the fourth direction, a whole step along the third
unfoldable pub fourth : (Vec3 → Asks (Option Vec3)) → Float → Vec3 → Vec3 → Vec3 → Vec3 → Asks (Option Vec3)
fourth direction h p k1 k2 k3 = direction (plus p (times k3 h)) >>= from (λ k4. give (Some (weighed h p k1 k2 k3 k4)))

-- the third, half a step along the second
unfoldable pub third : (Vec3 → Asks (Option Vec3)) → Float → Vec3 → Vec3 → Vec3 → Asks (Option Vec3)
third direction h p k1 k2 = direction (plus p (times k2 (h ⊗ 0·5))) >>= from (fourth direction h p k1 k2)

-- the second, half a step along the first
unfoldable pub second : (Vec3 → Asks (Option Vec3)) → Float → Vec3 → Vec3 → Asks (Option Vec3)
second direction h p k1 = direction (plus p (times k1 (h ⊗ 0·5))) >>= from (third direction h p k1)

-- the point a step of h after p
unfoldable pub runge_kutta : (Vec3 → Asks (Option Vec3)) → Float → Vec3 → Asks (Option Vec3)
runge_kutta direction h p = direction p >>= from (second direction h p)

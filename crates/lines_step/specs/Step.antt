-- `rk4_step`, and one step of a line: "One step answers the next point with its segment length, or that the line ends."
use Rattle.std.specs.Prelude.{not, cond, ◌&&◌, eqb, Float, Some, None, ℕ}
use Rattle.arith.specs.F64.{◌⊕◌, ◌≺◌, finite}
use Rattle.arith.specs.Vec.{minus, norm}
use Rattle.arith.specs.declared.Vec3.{Vec3}
use Rattle.reading.specs.Asks.{Asks, give, ◌>>=◌}
use Rattle.lines_locate.specs.Field.{StreamlineField, zone_at}
use Rattle.lines_velocity.specs.Velocity.{locate_in, from, direction_at}
use Rattle.lines_step.specs.declared.Step.{Step}
use Rattle.lines_step.specs.declared.Step.TheVariants.{Next, Ended}
use Rattle.lines_step.specs.declared.StreamlineOptions.{StreamlineOptions}
use Rattle.lines_step.specs.RungeKutta.{runge_kutta}
use Rattle.std.specs.declared.option.Option.{Option}

-- the point itself, where it locates in the line's zone: "end a line before the first next point located in another zone than its seed"
unfoldable pub here_if : StreamlineField → Option ℕ → Vec3 → Option Vec3
here_if f None p = None
here_if f (Some i) p = cond (eqb (zone_at f i) f.home) (Some p) None

-- `rk4_step`: a Runge-Kutta step that ends in a cell of the line's zone
unfoldable pub rk4_step : StreamlineField → Float → Float → Vec3 → Asks (Option Vec3)
rk4_step f stagnation h p = runge_kutta (direction_at f stagnation) h p >>= from (λ q. give (here_if f (locate_in f q) q))

-- "a total equal to max_length is kept"
unfoldable pub within_length : Float → Vec3 → Float → Option Vec3 → Step
within_length maxLength p total None = Ended
within_length maxLength p total (Some q) =
    let segment = norm (minus q p) in
    cond (finite segment && not (maxLength ≺ total ⊕ segment)) (Next q segment) Ended

-- one step, the line being `total` long at p
unfoldable pub step : StreamlineField → StreamlineOptions → Float → Vec3 → Float → Asks Step
step f o h p total = rk4_step f o.stagnation_speed h p >>= λ q. give (within_length o.max_length p total q)

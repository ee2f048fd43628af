-- `integrate`: the line from a seed, with the refusals 34 and 35, and its answer words.
-- `sign`, `signed_step`: the step, forward or backward.
-- `zone_found`, `home_of`: the zone of a seed. `onward`, `line_from`, `points_after`, `line`: the points of a line.
-- `is_length`, `is_speed`, `are_accepted`: refusal 34. `is_nowhere`, `nowhere`: refusal 35.
-- `line_answer`: the answer. `integrate`: the answer, or the refusal.
use Rattle.std.specs.Prelude.{ℕ, zero, suc, Bool, true, false, not, ◌&&◌, List, [], ◌∷◌, ltb, Float, Some, None, Ok}
use Rattle.arith.specs.F64.{◌⊕◌, ◌⊗◌, ◌≺◌, ◌≼◌, 0·0, 1·0, -1·0, finite}
use Rattle.arith.specs.declared.Vec3.{Vec3}
use Rattle.reading.specs.Asks.{Asks, give, ◌>>=◌}
use Rattle.reading.specs.Result as result
use Rattle.reading.specs.Result.{Refusable, refuse}
use Rattle.lines_words.specs.declared.Style.{Style}
use Rattle.lines_words.specs.Words.{line_words}
use Rattle.lines_locate.specs.Field.{StreamlineField, zone_at, staying}
use Rattle.lines_velocity.specs.Velocity.{locate_in}
use Rattle.lines_step.specs.declared.Step.{Step}
use Rattle.lines_step.specs.declared.Step.TheVariants.{Next, Ended}
use Rattle.lines_step.specs.declared.StreamlineOptions.{StreamlineOptions}
use Rattle.lines_step.specs.Step.{step}
use Rattle.lines.specs.declared.StreamlineDirection.{StreamlineDirection}
use Rattle.lines.specs.declared.StreamlineDirection.TheVariants.{Forward, Backward}
use Rattle.lines.specs.declared.StreamlineSettings.{StreamlineSettings}
use Rattle.std.specs.declared.option.Option.{Option}
use Rattle.refusal.specs.declared.Refusal.TheVariants.{WrongOptions, SeedNowhere}

-- "direction (0 forward, 1 backward)"
unfoldable pub sign : StreamlineDirection → Float
sign Forward = 1·0
sign Backward = -1·0

-- `options.step_size * sign`
unfoldable pub signed_step : StreamlineSettings → Float
signed_step s = s.options.step_size ⊗ sign s.direction

-- the zone of the cell that was found; for none, which is refused with 35, it is 0
unfoldable pub zone_found : StreamlineField → Option ℕ → ℕ
zone_found f None = 0
zone_found f (Some i) = zone_at f i

-- the zone that a seed locates in
unfoldable pub home_of : StreamlineField → Vec3 → ℕ
home_of f seed = zone_found f (locate_in f seed)

-- after a step: the next point, and what `rest` adds to it
unfoldable pub onward : (Vec3 → Float → Asks (List Vec3)) → Float → Step → Asks (List Vec3)
onward rest total Ended = give []
onward rest total (Next q segment) = rest q (total ⊕ segment) >>= λ l. give (q ∷ l)

-- the points after p, at most n, the line being `total` long at p
unfoldable pub line_from : StreamlineField → StreamlineOptions → Float → ℕ → Vec3 → Float → Asks (List Vec3)
line_from f o h zero p total = give []
line_from f o h (suc n) p total = step f o h p total >>= onward (line_from f o h n) total

-- the points after the seed
unfoldable pub points_after : StreamlineField → StreamlineSettings → Vec3 → Asks (List Vec3)
points_after f s seed = line_from f s.options (signed_step s) s.options.max_steps seed 0·0

-- the whole line, its seed first; it stays in the seed's zone
unfoldable pub line : StreamlineField → StreamlineSettings → Vec3 → Asks (List Vec3)
line f s seed = points_after (staying (home_of f seed) f) s seed >>= λ l. give (seed ∷ l)

-- finite, and above 0
unfoldable pub is_length : Float → Bool
is_length x = finite x && (0·0 ≺ x)

-- finite, and not below 0
unfoldable pub is_speed : Float → Bool
is_speed x = finite x && (0·0 ≼ x)

-- 34 "an option that `integrate` refuses" is not there
unfoldable pub are_accepted : StreamlineOptions → Bool
are_accepted o = is_length o.step_size && (ltb 0 o.max_steps && (is_length o.max_length && is_speed o.stagnation_speed))

-- no cell was found
unfoldable pub is_nowhere : Option ℕ → Bool
is_nowhere None = true
is_nowhere (Some i) = false

-- 35 "seed (of a rake: any seed) locates nowhere"
unfoldable pub nowhere : StreamlineField → Vec3 → Bool
nowhere f p = is_nowhere (locate_in f p)

-- its answer, in a style
unfoldable pub line_answer : StreamlineField → Style → StreamlineSettings → Vec3 → Asks (List ℕ)
line_answer f style s seed = line f s seed >>= λ l. give (line_words style l)

-- `integrate`, in a style: "Marks and refusals are those of code 3"
unfoldable pub integrate : StreamlineField → Vec3 → StreamlineSettings → Style → Refusable (Asks (List ℕ))
integrate f seed s style =
    result.◌>>=◌ (refuse WrongOptions (not (are_accepted s.options))) (λ _.
    result.◌>>=◌ (refuse SeedNowhere (nowhere f seed)) (λ _.
    Ok (line_answer f style s seed)))

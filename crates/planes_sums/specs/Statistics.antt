-- `section_statistics_csv` before formatting. Refusals 40 and 41. The Rust passes over a polygon of fewer than three vertices; none comes, since a
-- piece has three points or more (`piece_about`, crates/planes_sections/specs/Intersect.antt).
-- `scalar_of`: the value of a sample. `no_sums`, `including`: the sums. `counted`, `summing`, `add_sample`: with one more sample, or 40.
-- `finite_sums`, `empty`: 41. `fraction_words`, `statistics_words`, `statistics_from`: the answer, or 41. `statistics`: all samples in turn.
use Rattle.std.specs.Prelude.{ℕ, suc, Bool, true, false, not, cond, ◌&&◌, ◌||◌, List, [], ◌∷◌, get_or, Float, Ok, Err}
use Rattle.std.specs.Float.Ieee.{neg}
use Rattle.arith.specs.F64.{◌⊕◌, ◌⊖◌, ◌⊗◌, ◌⊘◌, ◌≺◌, ◌≼◌, 0·0, +∞, -∞, word, abs, finite, fmin, fmax}
use Rattle.arith.specs.Vec.{dot, norm}
use Rattle.arith.specs.declared.Vec3.{Vec3}
use Rattle.reading.specs.declared.Values.{Values}
use Rattle.reading.specs.Result.{Refusable, ◌>>=◌, steps}
use Rattle.planes_sums.specs.declared.Sums.{Sums}
use Rattle.planes_sums.specs.Sample.{Sample, measure_of}
use Rattle.refusal.specs.declared.Refusal.TheVariants.{FluxNotFinite, NoStatistics}

-- `sample_scalar`: field 0 speed, 1 pressure, 2 to 4 velocity, 5 normal velocity
unfoldable pub scalar_of : Vec3 → ℕ → Values → Float
scalar_of normal field v =
    get_or (norm v.velocity ∷ v.pressure ∷ v.velocity.x ∷ v.velocity.y ∷ v.velocity.z ∷ dot v.velocity normal ∷ []) field (norm v.velocity)

-- nothing summed yet
unfoldable pub no_sums : Sums
no_sums =
    record { used = 0; area = 0·0; least = +∞; most = -∞; integral = 0·0; flux = 0·0; positive = 0·0; negative = 0·0; weighted = 0·0 }

-- a sample of this measure, value and flux: "Of equal values the first is kept as minimum or maximum"
unfoldable pub including : Sums → Float → Float → Float → Sums
including t measure value flux =
    record {
      used = suc t.used;
      area = t.area ⊕ measure;
      least = fmin t.least value;
      most = fmax t.most value;
      integral = t.integral ⊕ value ⊗ measure;
      flux = t.flux ⊕ flux;
      positive = t.positive ⊕ fmax flux 0·0;
      negative = t.negative ⊕ fmin flux 0·0;
      weighted = t.weighted ⊕ value ⊗ abs flux;
    }

-- a sample with area and a finite value counts
unfoldable pub counted : Float → Float → Bool
counted measure value = finite measure && (not (measure ≼ 0·0) && finite value)

-- a sample of this measure and value; refusal 40, "non-finite flux"
unfoldable pub summing : Bool → Sums → Float → Float → Float → Refusable Sums
summing false t measure value flux = Ok t
summing true t measure value flux = cond (finite flux) (Ok (including t measure value flux)) (Err FluxNotFinite)

-- a sample, by its measure, its value and its flux
unfoldable pub add_sample : Vec3 → ℕ → Sums → Sample → Refusable Sums
add_sample normal field t s =
    let measure = measure_of normal s.geometry.polygon in
    let value = scalar_of normal field s.values in
    summing (counted measure value) t measure value (dot s.values.velocity normal ⊗ measure)

-- all sums are finite
unfoldable pub finite_sums : Sums → Bool
finite_sums t =
    finite t.area && (finite t.integral && (finite t.flux && (finite t.positive && (finite t.negative && finite t.weighted))))

-- refusal 41, "no statistics"
unfoldable pub empty : Sums → Bool
empty t = (t.area ≼ 0·0) || not (finite_sums t)

-- "1 or 0 for an absolute flux above 0, weighted value, reverse fraction (both zero where that is 0)"
unfoldable pub fraction_words : Sums → Float → List ℕ
fraction_words t absolute =
    cond (0·0 ≺ absolute) (1 ∷ word (t.weighted ⊘ absolute) ∷ word (neg t.negative ⊘ absolute) ∷ []) (0 ∷ 0 ∷ 0 ∷ [])

-- "used, area, minimum, maximum, mean, integral, flux, positive, negative, absolute flux", and those
unfoldable pub statistics_words : Sums → List ℕ
statistics_words t =
    t.used ∷ word t.area ∷ word t.least ∷ word t.most ∷ word (t.integral ⊘ t.area) ∷ word t.integral
    ∷ word t.flux ∷ word t.positive ∷ word t.negative ∷ word (t.positive ⊖ t.negative)
    ∷ fraction_words t (t.positive ⊖ t.negative)

-- refusal 41, or the answer
unfoldable pub statistics_from : Sums → Refusable (List ℕ)
statistics_from t = cond (empty t) (Err NoStatistics) (Ok (statistics_words t))

-- all samples in turn, with refusal 40
unfoldable pub statistics : Vec3 → ℕ → List Sample → Refusable (List ℕ)
statistics normal field l = steps (add_sample normal field) no_sums l >>= statistics_from

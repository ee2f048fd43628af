-- `plane_integrals::sample`. Refusals 42 and 43. The Rust passes over a polygon of fewer than three vertices; none comes, since a piece has three
-- points or more (`piece_about`, crates/planes_sections/specs/Intersect.antt).
-- `no_integral`, `weighing`: the sums. `is_valid`, `add_integral`: with one more sample, or 42.
-- `finite_integral`, `no_integrals`: 43. `integral_words`, `integrals_from`: the answer, or 43. `integrals`: all samples in turn.
use Rattle.std.specs.Prelude.{ℕ, Bool, not, cond, ◌&&◌, ◌||◌, List, [], ◌∷◌, Float, Ok, Err}
use Rattle.arith.specs.F64.{◌⊕◌, ◌⊗◌, ◌⊘◌, ◌≼◌, 0·0, word, finite}
use Rattle.arith.specs.Vec.{dot, norm}
use Rattle.arith.specs.declared.Vec3.{Vec3}
use Rattle.reading.specs.declared.Values.{Values}
use Rattle.reading.specs.Result.{Refusable, ◌>>=◌, steps}
use Rattle.planes_sums.specs.declared.Integral.{Integral}
use Rattle.planes_sums.specs.Sample.{Sample, measure_of}
use Rattle.refusal.specs.declared.Refusal.TheVariants.{InvalidSample, NoIntegrals}

-- nothing summed yet
unfoldable pub no_integral : Integral
no_integral = record { area = 0·0; pressure = 0·0; speed = 0·0; flux = 0·0 }

-- a sample of this area
unfoldable pub weighing : Vec3 → Integral → Float → Values → Integral
weighing normal t a v =
    record {
      area = t.area ⊕ a;
      pressure = t.pressure ⊕ a ⊗ v.pressure;
      speed = t.speed ⊕ a ⊗ norm v.velocity;
      flux = t.flux ⊕ a ⊗ dot v.velocity normal;
    }

-- area, speed and pressure are finite
unfoldable pub is_valid : Float → Values → Bool
is_valid a v = finite a && (finite (norm v.velocity) && finite v.pressure)

-- refusal 42, "invalid sample"
unfoldable pub add_integral : Vec3 → Integral → Sample → Refusable Integral
add_integral normal t s =
    let a = measure_of normal s.geometry.polygon in
    cond (is_valid a s.values) (Ok (weighing normal t a s.values)) (Err InvalidSample)

-- all integrals are finite
unfoldable pub finite_integral : Integral → Bool
finite_integral t = finite t.area && (finite t.pressure && (finite t.speed && finite t.flux))

-- refusal 43, "no integrals"
unfoldable pub no_integrals : Integral → Bool
no_integrals t = (t.area ≼ 0·0) || not (finite_integral t)

-- "area, mean pressure, mean speed, flux"
unfoldable pub integral_words : Integral → List ℕ
integral_words t = word t.area ∷ word (t.pressure ⊘ t.area) ∷ word (t.speed ⊘ t.area) ∷ word t.flux ∷ []

-- refusal 43, or the answer
unfoldable pub integrals_from : Integral → Refusable (List ℕ)
integrals_from t = cond (no_integrals t) (Err NoIntegrals) (Ok (integral_words t))

-- all samples in turn, with refusal 42
unfoldable pub integrals : Vec3 → List Sample → Refusable (List ℕ)
integrals normal l = steps (add_integral normal) no_integral l >>= integrals_from

-- What is kept of the samples so far, and what is written of each. No list of samples is held.
-- `sums_of`, `integral_of`: the sums or 40, the integrals or 42. `SampleSums`, `sample_sums_of`: what is kept for each code.
-- `summing_of`, `weighing_of`: the sums and the integrals with a sample of this measure.
-- `add_summed`, `add_weighed`, `add_probed`, `add_to`: what is kept, with one more sample. `written`: what is written of it.
-- `cell_in`, `sample_in`: a piece and a sample in three slices. `used_of`, `size_of`: how large the kept numbers are. `add`: `AddExit`.
use Rattle.std.specs.Prelude.{ℕ, suc, ◌+◌, ◌≡◌, cond, List, length, Float, Some, None, Ok, Err}
use Rattle.std.proofs.lemmas.List.Edits.{sets}
use Rattle.arith.specs.F64.{◌⊗◌}
use Rattle.arith.specs.Vec.{dot}
use Rattle.arith.specs.declared.Vec3.{Vec3}
use Rattle.arith.specs.declared.Vec2.{Vec2}
use Rattle.reading.specs.declared.Values.{Values}
use Rattle.reading.specs.Result.{Refusable, ◌>>=◌}
use Rattle.planes_cut.specs.declared.Cut.{Cut}
use Rattle.planes_crossings.specs.Ensures.{slice_points}
use Rattle.planes_sections.specs.Intersect.{PlaneCell}
use Rattle.planes_sums.specs.declared.Sums.{Sums}
use Rattle.planes_sums.specs.declared.Integral.{Integral}
use Rattle.planes_sums.specs.declared.Accumulator.{Accumulator}
use Rattle.planes_sums.specs.declared.Accumulator.TheVariants.{Section, Statistics, Integrals, Probe}
use Rattle.planes_sums.specs.Sample.{Sample}
use Rattle.planes_sums.specs.Statistics.{summing, counted, scalar_of, add_sample}
use Rattle.planes_sums.specs.Integrals.{is_valid, weighing, add_integral}
use Rattle.planes_sums.specs.Probe.{covers}
use Rattle.planes_sums.specs.Words.{sample_words}
use Rattle.std.specs.declared.option.Option.{Option}
use Rattle.refusal.specs.declared.Refusal.TheVariants.{FluxNotFinite, InvalidSample}

-- ---- 01's numbers

-- the sums, or refusal 40, "non-finite flux": the reading goes on all the same
unfoldable pub sums_of : Option Sums → Refusable Sums
sums_of (Some t) = Ok t
sums_of None = Err FluxNotFinite

-- the integrals, or refusal 42, "invalid sample"
unfoldable pub integral_of : Option Integral → Refusable Integral
integral_of (Some t) = Ok t
integral_of None = Err InvalidSample

-- what is kept for each code: how many polygons were written and where the next one goes; the sums of a field; the integrals; the first
-- sample over a point
pub data SampleSums : Type 0 where
  of_section : ℕ → ℕ → SampleSums
  of_statistics : ℕ → Refusable Sums → SampleSums
  of_integrals : Refusable Integral → SampleSums
  of_probe : Vec2 → Option (ℕ × Values) → SampleSums

-- what each case of the answer stands for
unfoldable pub sample_sums_of : Accumulator → SampleSums
sample_sums_of (Section polygons at) = of_section polygons at
sample_sums_of (Statistics field r) = of_statistics field (sums_of r)
sample_sums_of (Integrals r) = of_integrals (integral_of r)
sample_sums_of (Probe q r) = of_probe q r

-- ---- with one sample

-- the sums with a sample of this measure
unfoldable pub summing_of : Vec3 → ℕ → Sums → Float → Values → Refusable Sums
summing_of normal field t measure v =
    summing (counted measure (scalar_of normal field v)) t measure (scalar_of normal field v) (dot v.velocity normal ⊗ measure)

-- the integrals with a sample of this area
unfoldable pub weighing_of : Vec3 → Integral → Float → Values → Refusable Integral
weighing_of normal t a v = cond (is_valid a v) (Ok (weighing normal t a v)) (Err InvalidSample)

-- a refusal stays
abbrev pub add_summed : Vec3 → ℕ → Refusable Sums → Sample → Refusable Sums
add_summed normal field r s = r >>= λ t. add_sample normal field t s

-- likewise
abbrev pub add_weighed : Vec3 → Refusable Integral → Sample → Refusable Integral
add_weighed normal r s = r >>= λ t. add_integral normal t s

-- the first sample over the point
unfoldable pub add_probed : Cut → Vec2 → Option (ℕ × Values) → Sample → Option (ℕ × Values)
add_probed c q (Some (i, v)) s = Some (i, v)
add_probed c q None s = cond (covers c.plane q s.geometry.polygon) (Some (s.geometry.cell, s.values)) None

-- what each code keeps of it
unfoldable pub add_to : Cut → SampleSums → Sample → SampleSums
add_to c (of_section polygons at) s = of_section (suc polygons) (at + length (sample_words s))
add_to c (of_statistics field r) s = of_statistics field (add_summed c.normal field r s)
add_to c (of_integrals r) s = of_integrals (add_weighed c.normal r s)
add_to c (of_probe q r) s = of_probe q (add_probed c q r s)

-- what it writes of a sample: a polygon of code 5, as far as it fits
unfoldable pub written : SampleSums → List ℕ → Sample → List ℕ
written (of_section polygons at) o s = sets o at (sample_words s)
written (of_statistics field r) o s = o
written (of_integrals r) o s = o
written (of_probe q r) o s = o

-- ---- the words of the contracts

-- a piece whose polygon stands in three slices
abbrev pub cell_in : ℕ → Vec3 → ℕ → List Float → List Float → List Float → PlaneCell
cell_in cell centre n x y z = record { cell = cell; centre = centre; polygon = slice_points x y z n }

-- the sample of such a piece
abbrev pub sample_in : ℕ → Vec3 → ℕ → Values → List Float → List Float → List Float → Sample
sample_in cell centre n v x y z = record { geometry = cell_in cell centre n x y z; values = v }

-- how many samples the sums have
unfoldable pub used_of : Refusable Sums → ℕ
used_of (Ok t) = t.used
used_of (Err n) = 0

-- a bound of the numbers that are kept
unfoldable pub size_of : SampleSums → ℕ
size_of (of_section polygons at) = polygons + at
size_of (of_statistics field r) = used_of r
size_of (of_integrals r) = 0
size_of (of_probe q r) = 0

-- what is kept and written of one sample
pub record AddExit (c : Cut) (t : Accumulator) (s : Sample) (r : Accumulator) (o o' : List ℕ) : Type 0 where
  pub tally : sample_sums_of r ≡ add_to c (sample_sums_of t) s
  pub answers : o' ≡ written (sample_sums_of t) o s

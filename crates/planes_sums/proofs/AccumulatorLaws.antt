-- What is kept of one sample. Assumes nothing.
use Prim.Native.Nat.{ℕ, ◌+◌, ◌*◌, ◌≤◌, ◌<◌}
use native.Mathlib.Numerals.{add-one}
use native.Mathlib.Omega.{arith}
use mathlib.Core.Path.{◌≡◌, ap, sym, ◌∙◌}
use mathlib.Core.Bool.{Bool, true, false, cond}
use mathlib.Core.List.{List}
use lib.ListN.{length, length-append}
use lib.Seq.{sets}
use lib.Ieee.{Float}
use Rattle.arith.specs.F64.{finite, ◌⊗◌}
use Rattle.arith.specs.Vec.{dot}
use Rattle.arith.specs.declared.Vec2.{Vec2}
use Rattle.arith.specs.declared.Vec3.{Vec3}
use Rattle.reading.specs.declared.Values.{Values}
use Rattle.reading.specs.Result.{Refusable, ◌>>=◌}
use Rattle.planes_cut.specs.declared.Cut.{Cut}
use Rattle.planes_crossings.specs.Ensures.{slice_points}
use Rattle.planes_crossings.proofs.HeldLaws.{length-held}
use Rattle.planes_sums.specs.declared.Sums.{Sums}
use Rattle.planes_sums.specs.declared.Integral.{Integral}
use Rattle.planes_sums.specs.declared.Accumulator.{Accumulator}
use Rattle.planes_sums.specs.declared.Accumulator.TheVariants.{Section, Statistics, Integrals, Probe}
use Rattle.planes_sums.specs.Sample.{Sample, measure_of}
use Rattle.planes_sums.specs.Statistics.{summing, counted, including, scalar_of, add_sample}
use Rattle.planes_sums.specs.Integrals.{add_integral}
use Rattle.planes_sums.specs.Probe.{covers}
use Rattle.answers.specs.Words.{vec_words, point_words, values_words}
use Rattle.answers.proofs.WordLaws.{length-points}
use Rattle.planes_sums.specs.Words.{sample_words}
use Rattle.planes_sums.specs.Kept.{SampleSums, of_section, of_statistics, of_integrals, of_probe, sample_sums_of, sums_of, integral_of, summing_of, weighing_of, add_summed, add_weighed, add_probed, add_to, written, sample_in, used_of, size_of, AddExit}
use Rattle.std.specs.Prelude.{Some, None, Ok, Err}
use Rattle.std.specs.declared.option.Option.{Option}
use Rattle.refusal.specs.declared.Refusal.TheVariants.{FluxNotFinite}

module _ (normal : Vec3) (field n : ℕ) (v : Values) (x y z : List Float) where
  pub summed-total : (t : Option Sums) (sums : Sums) (area : Float) (r : Option Sums) → t ≡ Some sums → area ≡ measure_of normal (slice_points x y z n) →
      sums_of r ≡ summing_of normal field sums area v → (cell : ℕ) (centre : Vec3) → sums_of r ≡ add_summed normal field (sums_of t) (sample_in cell centre n v x y z)
  unfolding sums_of add_sample summing_of ◌>>=◌
  summed-total t sums area r e ea er cell centre = er ∙ rw (e, ea)

  pub summed-none : (t r : Option Sums) → t ≡ None → r ≡ None → (cell : ℕ) (centre : Vec3) → sums_of r ≡ add_summed normal field (sums_of t) (sample_in cell centre n v x y z)
  unfolding sums_of ◌>>=◌
  summed-none t r e er cell centre = rw (er, e)

  pub weighed-whole : (t : Option Integral) (sums : Integral) (area : Float) (r : Option Integral) → t ≡ Some sums → area ≡ measure_of normal (slice_points x y z n) →
      integral_of r ≡ weighing_of normal sums area v → (cell : ℕ) (centre : Vec3) → integral_of r ≡ add_weighed normal (integral_of t) (sample_in cell centre n v x y z)
  unfolding integral_of add_integral weighing_of ◌>>=◌
  weighed-whole t sums area r e ea er cell centre = er ∙ rw (e, ea)

  pub weighed-none : (t r : Option Integral) → t ≡ None → r ≡ None → (cell : ℕ) (centre : Vec3) → integral_of r ≡ add_weighed normal (integral_of t) (sample_in cell centre n v x y z)
  unfolding integral_of ◌>>=◌
  weighed-none t r e er cell centre = rw (er, e)

module _ (c : Cut) (q : Vec2) (cell n : ℕ) (v : Values) (x y z : List Float) where
  pub probed-hit : (t : Option (ℕ × Values)) (i : ℕ) (w : Values) → t ≡ Some (i, w) → (centre : Vec3) → Some (i, w) ≡ add_probed c q t (sample_in cell centre n v x y z)
  unfolding add_probed
  probed-hit t i w e centre = rw e

  pub probed-here : (t : Option (ℕ × Values)) (b : Bool) → t ≡ None → b ≡ covers c.plane q (slice_points x y z n) → b ≡ true → (centre : Vec3) → Some (cell, v) ≡ add_probed c q t (sample_in cell centre n v x y z)
  unfolding add_probed
  probed-here t b e eb h centre = rw (e, sym eb ∙ h)

  pub probed-not : (t : Option (ℕ × Values)) (b : Bool) → t ≡ None → b ≡ covers c.plane q (slice_points x y z n) → b ≡ false → (centre : Vec3) → None ≡ add_probed c q t (sample_in cell centre n v x y z)
  unfolding add_probed
  probed-not t b e eb h centre = rw (e, sym eb ∙ h)

pub used-total : (t : Option Sums) (sums : Sums) {k : ℕ} → t ≡ Some sums → used_of (sums_of t) < k → sums.used < k
unfolding used_of sums_of
used-total t sums e h = rw e at h

-- ---- the bound of what is kept

pub section-size : (t : Accumulator) (p at : ℕ) {k : ℕ} → t ≡ Section p at → size_of (sample_sums_of t) < k → p + at < k
unfolding size_of sample_sums_of
section-size t p at e h = rw e at h

pub statistics-size : (t : Accumulator) (field : ℕ) (r : Option Sums) {k : ℕ} → t ≡ Statistics field r → size_of (sample_sums_of t) < k → used_of (sums_of r) < k
unfolding size_of sample_sums_of
statistics-size t field r e h = rw e at h

pub length-sample : (s : Sample) → length (sample_words s) ≡ 9 + 3 * length s.geometry.polygon
unfolding sample_words vec_words values_words
length-sample s =
    let e = length-points s.geometry.polygon in
    rw (length-append (point_words s.geometry.polygon)) (omega arith)

summed-grows : (b : Bool) (t : Sums) (a u w : Float) → used_of (summing b t a u w) ≤ t.used + 1
unfolding used_of summing including
summed-grows false t a u w = omega arith
summed-grows true t a u w = by (finite w)
  where
    by : (d : Bool) → used_of (cond d (Ok (including t a u w)) (Err FluxNotFinite)) ≤ t.used + 1
    by true = omega (arith, add-one t.used)
    by false = omega arith

statistics-grows : (normal : Vec3) (field : ℕ) (r : Refusable Sums) (s : Sample) → used_of (add_summed normal field r s) ≤ used_of r + 586
unfolding add_sample used_of ◌>>=◌
statistics-grows normal field (Ok t) s =
    let m = measure_of normal s.geometry.polygon in
    let u = scalar_of normal field s.values in
    omega (arith, summed-grows (counted m u) t m u (dot s.values.velocity normal ⊗ m))
statistics-grows normal field (Err n) s = omega arith

pub added-grows : (c : Cut) (t : SampleSums) (s : Sample) → length s.geometry.polygon ≤ 192 → size_of (add_to c t s) ≤ size_of t + 586
unfolding size_of add_to
added-grows c (of_section p at) s h = omega (arith, length-sample s)
added-grows c (of_statistics field r) s h = statistics-grows c.normal field r s
added-grows c (of_integrals r) s h = omega arith
added-grows c (of_probe q r) s h = omega arith

-- ---- each code's

module _ (c : Cut) (t : Accumulator) (cell : ℕ) (centre : Vec3) (n : ℕ) (v : Values) (x y z : List Float) (o o' : List ℕ) where
  abbrev here : Sample
  here = sample_in cell centre n v x y z

  pub section-added : (p at : ℕ) → t ≡ Section p at → o' ≡ sets o at (sample_words here) → AddExit c t here (Section (p + 1) (at + 9 + 3 * n)) o o'
  unfolding add_to written sample_sums_of
  section-added p at e eo =
      let l : at + 9 + 3 * n ≡ at + length (sample_words here) = omega (arith, length-sample here, length-held x y z n) in
      record { tally = rw (e, l, add-one p); answers = rw (e, eo) }

  pub statistics-added : (field : ℕ) (r r' : Option Sums) → t ≡ Statistics field r → sums_of r' ≡ add_summed c.normal field (sums_of r) here → o' ≡ o →
      AddExit c t here (Statistics field r') o o'
  unfolding add_to written sample_sums_of
  statistics-added field r r' e er eo = record { tally = rw e (ap (of_statistics field) er); answers = rw (e, eo) }

  pub integrals-added : (r r' : Option Integral) → t ≡ Integrals r → integral_of r' ≡ add_weighed c.normal (integral_of r) here → o' ≡ o → AddExit c t here (Integrals r') o o'
  unfolding add_to written sample_sums_of
  integrals-added r r' e er eo = record { tally = rw e (ap of_integrals er); answers = rw (e, eo) }

  pub probe-added : (q : Vec2) (r r' : Option (ℕ × Values)) → t ≡ Probe q r → r' ≡ add_probed c q r here → o' ≡ o → AddExit c t here (Probe q r') o o'
  unfolding add_to written sample_sums_of
  probe-added q r r' e er eo = record { tally = rw (e, er); answers = rw (e, eo) }

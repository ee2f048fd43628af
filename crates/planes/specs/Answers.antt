-- The words of the answers of codes 5 to 8, and their trees.
-- `section_words`, `probe_words`: the words of codes 5 and 8. `sampled`: an answer made of all samples.
-- `section_of`, `statistics_of`, `integrals_of`, `probe_of`: codes 5 to 8.
use Rattle.std.specs.Prelude.{ℕ, ◌-◌, ◌^◌, List, [], ◌∷◌, map, length, Some, None, Ok}
use Rattle.arith.specs.Lists.{flatten}
use Rattle.arith.specs.declared.Vec3.{Vec3}
use Rattle.reading.specs.Result as result
use Rattle.reading.specs.Result.{Refusable}
use Rattle.reading.specs.Asks.{Asks, give, ◌>>=◌}
use Rattle.mesh_area.specs.Tables.{Mesh}
use Rattle.planes_cut.specs.declared.Plane.{Plane}
use Rattle.planes_cut.specs.Plane.{normal_of}
use Rattle.planes_sections.specs.Intersect.{intersect}
use Rattle.planes_sums.specs.Sample.{Sample}
use Rattle.planes_samples.specs.Sampling.{sample}
use Rattle.planes_sums.specs.Statistics.{statistics}
use Rattle.planes_sums.specs.Integrals.{integrals}
use Rattle.planes_sums.specs.Probe.{probe}
use Rattle.answers.specs.Words.{values_words}
use Rattle.planes_sums.specs.Words.{sample_words}
use Rattle.std.specs.declared.option.Option.{Option}
use Rattle.reading.specs.declared.Values.{Values}

-- "polygon count; each: .."
unfoldable pub section_words : List Sample → List ℕ
section_words l = length l ∷ flatten (map sample_words l)

-- "cell or 2^64-1, velocity, pressure (zeros for none)"
unfoldable pub probe_words : Option (ℕ × Values) → List ℕ
probe_words (Some (i, v)) = i ∷ values_words v
probe_words None = (2 ^ 64 - 1) ∷ 0 ∷ 0 ∷ 0 ∷ 0 ∷ []

-- codes 5 to 8 "read what their sample reads"; the answer is made of all samples, so that 39 goes before 40 to 43
unfoldable pub sampled : Mesh → Plane → (List Sample → Refusable (List ℕ)) → Asks (Refusable (List ℕ))
sampled m s answer = sample (intersect m s) >>= λ r. give (result.◌>>=◌ r answer)

-- code 5
unfoldable pub section_of : Mesh → Plane → Asks (Refusable (List ℕ))
section_of m s = sampled m s (λ l. Ok (section_words l))

-- code 6
unfoldable pub statistics_of : Mesh → Plane → ℕ → Asks (Refusable (List ℕ))
statistics_of m s field = sampled m s (statistics (normal_of s) field)

-- code 7
unfoldable pub integrals_of : Mesh → Plane → Asks (Refusable (List ℕ))
integrals_of m s = sampled m s (integrals (normal_of s))

-- code 8
unfoldable pub probe_of : Mesh → Plane → Vec3 → Asks (Refusable (List ℕ))
probe_of m s p = sampled m s (λ l. Ok (probe_words (probe s p l)))

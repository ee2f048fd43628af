-- The contracts of the functions that answer codes 5 to 8: what code 5 leaves under a refusal, and the answer from what was kept of the samples.
-- `section`: `left_by`. `statistics_end`, `integrals_end`, `ended`, `last_words`: from what was kept to the answer.
-- `end_statistics` and `end_integrals`: `EndExit`. `finish`: `FinishExit`. `unless_off`: `missing`.
use Rattle.std.specs.Prelude.{ℕ, ◌≡◌, Bool, true, false, List, [], ◌∷◌, map, None, Ok, Err}
use Rattle.std.proofs.lemmas.List.Edits.{sets}
use Rattle.arith.specs.Lists.{flatten}
use Rattle.arith.specs.declared.Vec2.{Vec2}
use Rattle.reading.specs.declared.Values.{Values}
use Rattle.reading.specs.Result.{Refusable, ◌>>=◌}
use Rattle.reading.specs.Asks.{run}
use Rattle.planes_sections.specs.Intersect.{PlaneCell}
use Rattle.answers.specs.Ensures.{length_of, words_of}
use Rattle.planes_sums.specs.declared.Sums.{Sums}
use Rattle.planes_sums.specs.declared.Integral.{Integral}
use Rattle.planes_samples.specs.Sampling.{taken}
use Rattle.planes_sums.specs.Statistics.{statistics_from}
use Rattle.planes_sums.specs.Integrals.{integrals_from}
use Rattle.planes_sums.specs.Kept.{SampleSums, of_section, of_statistics, of_integrals, of_probe}
use Rattle.planes_sums.specs.Words.{sample_words}
use Rattle.planes.specs.Answers.{probe_words}

-- code 5 writes its polygons while it reads them: what they leave under 39
unfoldable pub left_by : (ℕ → Values) → List PlaneCell → List ℕ → List ℕ
left_by f l o = sets o 1 (flatten (map sample_words (run (taken l) f).samples))

-- ---- from what was kept to the answer

-- code 6
unfoldable pub statistics_end : Refusable Sums → Refusable (List ℕ)
statistics_end r = r >>= statistics_from

-- code 7
unfoldable pub integrals_end : Refusable Integral → Refusable (List ℕ)
integrals_end r = r >>= integrals_from

-- a section's polygons stand already
unfoldable pub ended : Refusable SampleSums → Refusable ℕ
ended (Err n) = Err n
ended (Ok (of_section polygons at)) = Ok at
ended (Ok (of_statistics field r)) = length_of (statistics_end r)
ended (Ok (of_integrals r)) = length_of (integrals_end r)
ended (Ok (of_probe q r)) = Ok 5

-- the words that are written at the end
unfoldable pub last_words : Refusable SampleSums → List ℕ
last_words (Err n) = []
last_words (Ok (of_section polygons at)) = polygons ∷ []
last_words (Ok (of_statistics field r)) = words_of (statistics_end r)
last_words (Ok (of_integrals r)) = words_of (integrals_end r)
last_words (Ok (of_probe q r)) = probe_words r

-- the answer is that of e, and its words stand from 0 on
pub record EndExit (e : Refusable (List ℕ)) (r : Refusable ℕ) (o o' : List ℕ) : Type 0 where
  pub result : r ≡ length_of e
  pub answers : o' ≡ sets o 0 (words_of e)

-- the same of what was kept
pub record FinishExit (t : Refusable SampleSums) (r : Refusable ℕ) (o o' : List ℕ) : Type 0 where
  pub result : r ≡ ended t
  pub answers : o' ≡ sets o 0 (last_words t)

-- a point off the plane is over no sample
unfoldable pub missing : Bool → Vec2 → Refusable SampleSums → Refusable SampleSums
missing false q t = t
missing true q (Ok t) = Ok (of_probe q None)
missing true q (Err n) = Err n

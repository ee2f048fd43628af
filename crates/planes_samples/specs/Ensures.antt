-- Sampling, sample by sample: what is kept of the samples so far, the answer words and the marks. No list of samples is held.
-- `accumulated_of`: what an answer stands for. `Stream`, `written_all`, `stream`: how the reading of samples leaves things.
-- `sample_each` and `sample_all`: `SampleAllExit`. `step`, `sample_each` and `sample_all`: `SampleEntry`.
-- `take_sample` and `step`: `Grown`, `StepExit`.
use Rattle.std.specs.Prelude.{ℕ, ◌+◌, ◌≤◌, ◌≡◌, List, [], ◌∷◌, length, Some, None, Ok, Err}
use Rattle.arith.specs.Lists.{fold}
use Rattle.reading.specs.declared.Values.{Values}
use Rattle.reading.specs.Result.{Refusable, ◌>>=◌}
use Rattle.reading.specs.Asks.{run, reads}
use Rattle.reading.specs.Marks.{mark_all}
use Rattle.case_file.specs.declared.Counts.{Counts}
use Rattle.case_file.specs.Trailer.{opened}
use Rattle.mesh_area.specs.declared.Sizes.{Sizes}
use Rattle.planes_cut.specs.declared.Cut.{Cut}
use Rattle.planes_cut.specs.Ensures.{MeshLent, bare}
use Rattle.planes_crossings.specs.Ensures.{MeshLimits}
use Rattle.planes_sections.specs.Intersect.{PlaneCell}
use Rattle.planes_sums.specs.declared.Accumulator.{Accumulator}
use Rattle.planes_sums.specs.Sample.{Sample}
use Rattle.planes_sums.specs.Kept.{SampleSums, sample_sums_of, add_to, written, size_of}
use Rattle.planes_samples.specs.Sampling.{taken, complete}
use Rattle.std.specs.declared.option.Option.{Option}
use Rattle.refusal.specs.declared.Refusal.TheVariants.{SampleNotFinite}

-- what was kept, or refusal 39, "non-finite sample"
unfoldable pub accumulated_of : Option Accumulator → Refusable SampleSums
accumulated_of (Some t) = Ok (sample_sums_of t)
accumulated_of None = Err SampleNotFinite

-- how the reading leaves things
pub record Stream : Type 0 where
  pub outcome : Refusable SampleSums
  pub answers : List ℕ
  pub marks : List ℕ

-- the answer words with what is written of samples, one after another
unfoldable pub written_all : Cut → SampleSums → List ℕ → List Sample → List ℕ
written_all c t o [] = o
written_all c t o (s ∷ ss) = written_all c (add_to c t s) (written t o s) ss

-- the samples kept, or refusal 39; what is written before the first bad one; and the cells that were read marked
unfoldable pub stream : Cut → (ℕ → Values) → List PlaneCell → SampleSums → List ℕ → List ℕ → Stream
stream c f l t o m =
    record {
      outcome = complete (run (taken l) f) >>= λ ss. Ok (fold (add_to c) t ss);
      answers = written_all c t o (run (taken l) f).samples;
      marks = mark_all m (reads (taken l) f);
    }

-- what a function that samples promises
pub record SampleAllExit (s : Stream) (r : Option Accumulator) (o m : List ℕ) : Type 0 where
  pub outcome : accumulated_of r ≡ s.outcome
  pub answers : o ≡ s.answers
  pub marks : m ≡ s.marks

-- what the functions of this crate are lent
pub record SampleEntry (case : List ℕ) (n : Counts) (s : Sizes) (words marks : List ℕ) : Type 0 where
  pub is_open : opened case ≡ Ok n
  pub lent : MeshLent case n.points s words
  pub bounded : MeshLimits (bare case n.points s words)
  pub room : s.cells ≤ length marks

-- one sample adds at most 586 to the bound of the numbers that are kept
abbrev pub Grown : Accumulator → Option Accumulator → Type 0
Grown t (Some t') = size_of (sample_sums_of t') ≤ size_of (sample_sums_of t) + 586
Grown t None = Unit

-- what a function that samples one piece at most promises
pub record StepExit (s : Stream) (t : Accumulator) (r : Option Accumulator) (o m : List ℕ) : Type 0 where
  pub streamed : SampleAllExit s r o m
  pub grown : Grown t r

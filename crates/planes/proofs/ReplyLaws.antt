-- From what was kept to the answer. Assumes nothing.
use Prim.Native.Nat.{ℕ}
use mathlib.Core.Path.{◌≡◌, refl, sym, ◌∙◌}
use mathlib.Core.Bool.{Bool, true, false, cond}
use mathlib.Core.List.{List, [], ◌∷◌}
use lib.ListN.{length}
use lib.Seq.{sets}
use Rattle.arith.specs.F64.{◌≺◌, ◌⊖◌, 0·0, word}
use Rattle.arith.specs.declared.Vec2.{Vec2}
use Rattle.reading.specs.Result.{◌>>=◌, Refusable}
use Rattle.answers.specs.Ensures.{length_of, words_of}
use Rattle.planes_sums.specs.declared.Sums.{Sums}
use Rattle.planes_sums.specs.declared.Integral.{Integral}
use Rattle.planes_sums.specs.declared.Accumulator.{Accumulator}
use Rattle.planes_sums.specs.declared.Accumulator.TheVariants.{Section, Statistics, Integrals, Probe}
use Rattle.planes_sums.specs.Statistics.{empty, statistics_words, statistics_from, fraction_words}
use Rattle.planes_sums.specs.Integrals.{no_integrals, integral_words, integrals_from}
use Rattle.planes_sums.specs.Kept.{sample_sums_of, sums_of, integral_of}
use Rattle.planes_samples.specs.Ensures.{accumulated_of}
use Rattle.planes.specs.Answers.{probe_words}
use Rattle.planes.specs.Ensures.{statistics_end, integrals_end, ended, last_words, EndExit, FinishExit}
use Rattle.std.specs.Prelude.{Some, None, Ok, Err}
use Rattle.std.specs.declared.option.Option.{Option}
use Rattle.refusal.specs.declared.Refusal.{Refusal}
use Rattle.refusal.specs.declared.Refusal.TheVariants.{SampleNotFinite, FluxNotFinite, NoStatistics, InvalidSample, NoIntegrals}
use Rattle.reading.specs.declared.Values.{Values}

pub no_word : word 0·0 ≡ 0
unfolding lib.Ieee.to_bits lib.Ieee.of_bits
no_word = refl

module _ (o o' : List ℕ) where
  pub ended-no : (n : Refusal) → EndExit (Err n) (Err n) o o
  unfolding length_of words_of
  ended-no n = record { result = refl; answers = refl }

  pub ended-yes : (ws : List ℕ) (n : ℕ) → length ws ≡ n → o' ≡ sets o 0 ws → EndExit (Ok ws) (Ok n) o o'
  unfolding length_of words_of
  ended-yes ws n e h = record { result = rw e; answers = h }

  module _ (r : Option Integral) (t : Integral) (b : Bool) (e : r ≡ Some t) (eb : b ≡ no_integrals t) where
    pub integrals-refused : b ≡ true → EndExit (integrals_end (integral_of r)) (Err NoIntegrals) o o
    unfolding integrals_end integrals_from integral_of ◌>>=◌
    integrals-refused h = rw (e, sym eb ∙ h) (ended-no NoIntegrals)

    pub integrals-put : b ≡ false → o' ≡ sets o 0 (integral_words t) → EndExit (integrals_end (integral_of r)) (Ok 4) o o'
    unfolding integrals_end integrals_from integral_of integral_words ◌>>=◌
    integrals-put h eo = rw (e, sym eb ∙ h) (ended-yes (integral_words t) 4 refl eo)

  pub integrals-none : (r : Option Integral) → r ≡ None → EndExit (integrals_end (integral_of r)) (Err InvalidSample) o o
  unfolding integrals_end integral_of ◌>>=◌
  integrals-none r e = rw e (ended-no InvalidSample)

  module _ (r : Option Sums) (t : Sums) (b : Bool) (e : r ≡ Some t) (eb : b ≡ empty t) where
    pub statistics-refused : b ≡ true → EndExit (statistics_end (sums_of r)) (Err NoStatistics) o o
    unfolding statistics_end statistics_from sums_of ◌>>=◌
    statistics-refused h = rw (e, sym eb ∙ h) (ended-no NoStatistics)

    three : (d : Bool) (a c : ℕ) → length (cond d (1 ∷ a ∷ c ∷ []) (0 ∷ 0 ∷ 0 ∷ [])) ≡ 3
    three true a c = refl
    three false a c = refl

    thirteen : length (statistics_words t) ≡ 13
    unfolding statistics_words fraction_words
    thirteen = rw (three (0·0 ≺ (t.positive ⊖ t.negative)))

    pub statistics-put : b ≡ false → o' ≡ sets o 0 (statistics_words t) → EndExit (statistics_end (sums_of r)) (Ok 13) o o'
    unfolding statistics_end statistics_from sums_of ◌>>=◌
    statistics-put h eo = rw (e, sym eb ∙ h) (ended-yes (statistics_words t) 13 thirteen eo)

  pub statistics-none : (r : Option Sums) → r ≡ None → EndExit (statistics_end (sums_of r)) (Err FluxNotFinite) o o
  unfolding statistics_end sums_of ◌>>=◌
  statistics-none r e = rw e (ended-no FluxNotFinite)

  module _ (r : Option Accumulator) (t : Accumulator) (e : r ≡ Some t) where
    pub close-section : (p at : ℕ) → t ≡ Section p at → o' ≡ sets o 0 (p ∷ []) → FinishExit (accumulated_of r) (Ok at) o o'
    unfolding ended last_words accumulated_of sample_sums_of
    close-section p at w h = record { result = rw (e, w); answers = rw (e, w) h }

    pub close-statistics : (a : Refusable ℕ) (field : ℕ) (s : Option Sums) → t ≡ Statistics field s → EndExit (statistics_end (sums_of s)) a o o' → FinishExit (accumulated_of r) a o o'
    unfolding ended last_words accumulated_of sample_sums_of
    close-statistics a field s w h = record { result = rw (e, w) h.result; answers = rw (e, w) h.answers }

    pub close-integrals : (a : Refusable ℕ) (s : Option Integral) → t ≡ Integrals s → EndExit (integrals_end (integral_of s)) a o o' → FinishExit (accumulated_of r) a o o'
    unfolding ended last_words accumulated_of sample_sums_of
    close-integrals a s w h = record { result = rw (e, w) h.result; answers = rw (e, w) h.answers }

    pub close-probe : (q : Vec2) (s : Option (ℕ × Values)) → t ≡ Probe q s → o' ≡ sets o 0 (probe_words s) → FinishExit (accumulated_of r) (Ok 5) o o'
    unfolding ended last_words accumulated_of sample_sums_of
    close-probe q s w h = record { result = rw (e, w); answers = rw (e, w) h }

  pub close-bad : (r : Option Accumulator) → r ≡ None → FinishExit (accumulated_of r) (Err SampleNotFinite) o o
  unfolding ended last_words accumulated_of
  close-bad r e = record { result = rw e; answers = rw e }

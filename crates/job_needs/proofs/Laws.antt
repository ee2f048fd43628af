-- The answer of `needs`, and what it stores. Assumes nothing.
use Prim.Native.Nat.{ℕ, ◌+◌, ◌*◌, ◌≤◌, ◌<◌}
use native.Mathlib.Omega.{arith}
use mathlib.Core.Path.{◌≡◌, refl}
use mathlib.Core.Bool.{◌||◌}
use mathlib.Core.List.{List}
use lib.Dec.{ltb}
use lib.ListN.{length, set}
use borrow.Author.Tests.{lt-ltb, le-ltb}
use Rattle.case_file.specs.declared.Counts.{Counts}
use Rattle.case_file.proofs.TrailerLaws.{opens}
use Rattle.case_survey.specs.Survey.{CaseSurvey, survey_of}
use Rattle.case_survey.proofs.Laws.{Surveys, survey-right, faces-few}
use Rattle.mesh.specs.Case.{area_short}
use Rattle.job_needs.specs.Needs.{words_needed, floats_needed, needs_result, needs_of}
use Rattle.std.specs.Prelude.{Ok, Err}
use Rattle.refusal.specs.declared.Refusal.{Refusal}
use Rattle.reading.specs.Result.{Refusable, ◌>>=◌, refuse}
use Rattle.refusal.specs.declared.Refusal.TheVariants.{TooFewPlaces}

-- refusal 4 is due under these numbers, and no others
pub area-needed : (c : CaseSurvey) (words floats : ℕ) → area_short c words floats ≡ (ltb words (words_needed c) || ltb floats (floats_needed c))
unfolding area_short words_needed floats_needed
area-needed c words floats = refl

-- the answer and the places, as `needs` promises them
abbrev Told : List ℕ → Refusable (Unit {0}) → List ℕ → List ℕ → Type 0
Told file r l l' = (r ≡ needs_result (survey_of file) (length l)) × (l' ≡ needs_of (survey_of file) l)

pub refused-told : (file : List ℕ) (k : Refusal) → survey_of file ≡ Err k → (l : List ℕ) → Told file (Err k) l l
unfolding needs_result needs_of ◌>>=◌
refused-told file k e l = (rw e, rw e)

module _ (file : List ℕ) (n : Counts) (f : ℕ) (s : Surveys file n f) where
  there : survey_of file ≡ Ok (record { counts = n; definitions = s.ds })
  there = survey-right file n s.opens s.ds s.right s.zones

  pub few : (f ≤ 1048576) × (n.cells ≤ 16384)
  few =
      let faces = faces-few file n s.ds s.opens s.right in
      let o = opens file n s.opens in
      (omega (arith, faces, s.count), o.cells)

  module _ (l : List ℕ) where
    pub no_place : length l < 3 → Told file (Err TooFewPlaces) l l
    unfolding needs_result needs_of refuse ◌>>=◌
    no_place short = (rw (there, lt-ltb (length l) 3 short), rw (there, lt-ltb (length l) 3 short))

    pub stored : 3 ≤ length l → Told file (Ok tt) l (set (set (set l 0 (16 * f + 96 * n.cells)) 1 (12 * f + 64 * n.cells)) 2 n.cells)
    unfolding needs_result needs_of refuse ◌>>=◌ words_needed floats_needed
    stored long = (rw (there, le-ltb (length l) 3 long), rw (there, le-ltb (length l) 3 long, s.count))

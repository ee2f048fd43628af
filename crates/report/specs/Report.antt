-- 01, "The program `airjob`": what it prints for the bytes of its two files, and how it leaves the buffers that it lends. Quoted lines are 01's.
use Rattle.std.specs.Prelude.{ℕ, ◌≡◌, cond, ◌||◌, List, length}
use Rattle.refusal.specs.Number.{number}
use Rattle.refusal.specs.declared.Refusal.TheVariants.{FileTooLong}
use Rattle.reading.specs.After.{After}
use Rattle.job_promise.specs.Job.{outcome}
use Rattle.report_parts.specs.Parts.{listing_text, is_too_long}
use Rattle.listing.specs.Ensures.{ListingExit}

-- "20, by the program before the job, for a file missing or above 65,536 bytes"; like every refusal it leaves answers and marks untouched
unfoldable pub ended : List ℕ → List ℕ → ℕ → ℕ → List ℕ → List ℕ → After
ended file requests words floats answers marks =
    cond (is_too_long (length file) || is_too_long (length requests))
    (record { result = number FileTooLong; answers = answers; marks = marks })
    (outcome file requests words floats answers marks)

-- what `report` promises: the text of an end with `count` requests, and that end's answers and marks
pub record ReportExit (a : After) (count : ℕ) (text text' : List ℕ) (r : ℕ) (answers marks : List ℕ) : Type 0 where
  pub listed : ListingExit (listing_text a.result a.answers count a.marks) text text' r
  pub same-answers : answers ≡ a.answers
  pub same-marks : marks ≡ a.marks

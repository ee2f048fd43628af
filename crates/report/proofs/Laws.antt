-- How a report ends, and which text it is. Assumes nothing.
use Prim.Native.Nat.{ℕ}
use mathlib.Core.Path.{◌≡◌, refl, ap, sym}
use mathlib.Core.Bool.{Bool, true, false}
use mathlib.Core.List.{List}
use lib.ListN.{length}
use Rattle.refusal.specs.Number.{number}
use Rattle.refusal.specs.declared.Refusal.TheVariants.{FileTooLong}
use Rattle.reading.specs.After.{After}
use Rattle.job_promise.specs.Promise.{JobPromise}
use Rattle.report_parts.specs.Parts.{listing_text, is_too_long}
use Rattle.listing.specs.Ensures.{ListingExit}
use Rattle.report.specs.Report.{ended, ReportExit}

-- ---- refusal 20, or the job's end

module _ (file requests : List ℕ) (words floats : ℕ) (answers marks : List ℕ) where
  pub case-long
      : {b : Bool}
      → b ≡ is_too_long (length file)
      → b ≡ true
      → ended file requests words floats answers marks ≡ record { result = number FileTooLong; answers = answers; marks = marks }
  unfolding ended
  case-long f h = rw (← f, h) refl

  pub requests-long
      : {b d : Bool}
      → b ≡ is_too_long (length file)
      → b ≡ false
      → d ≡ is_too_long (length requests)
      → d ≡ true
      → ended file requests words floats answers marks ≡ record { result = number FileTooLong; answers = answers; marks = marks }
  unfolding ended
  requests-long f g q h = rw (← f, g, ← q, h) refl

  pub both-short
      : {b d : Bool} {n k : ℕ} {answers' marks' : List ℕ}
      → b ≡ is_too_long (length file)
      → b ≡ false
      → d ≡ is_too_long (length requests)
      → d ≡ false
      → JobPromise file requests words floats answers marks (record { result = n; answers = answers'; marks = marks' })
      → k ≡ n
      → ended file requests words floats answers marks ≡ record { result = k; answers = answers'; marks = marks' }
  unfolding ended
  both-short f g q h p e = rw (← f, g, ← q, h, e) (sym p.ends)

-- ---- the text

pub reported
    : (a : After) (count k : ℕ) (answers marks text text' : List ℕ) (r : ℕ)
    → a ≡ record { result = k; answers = answers; marks = marks }
    → ListingExit (listing_text k answers count marks) text text' r
    → ReportExit a count text text' r answers marks
reported a count k answers marks text text' r e t =
    record {
      listed = rw e t;
      same-answers = ap (λ (x : After). x.answers) (sym e);
      same-marks = ap (λ (x : After). x.marks) (sym e);
    }

-- The whole job, from what `prepare` and `run` promise. Assumes nothing.
use Prim.Native.Nat.{ℕ, ◌*◌, ◌/◌, ◌≤◌}
use mathlib.Core.Path.{◌≡◌, refl, ap, ◌∙◌}
use mathlib.Core.List.{List}
use lib.ListN.{length}
use lib.Ieee.{Float}
use Rattle.reading.specs.Result.{◌>>=◌, Refusable}
use Rattle.reading.specs.After.{done, Left}
use Rattle.case_file.specs.declared.Counts.{Counts}
use Rattle.case_file.specs.Trailer.{counts_of}
use Rattle.case_file.specs.Field.{cells_of, values_of}
use Rattle.job_requests.specs.Requests.{requests_in}
use Rattle.job_room.specs.Room.{Lent, prepared}
use Rattle.job_room.specs.declared.Place.{Place}
use Rattle.job_room.specs.Ensures.{room_in, counts_in, RoomStands, PrepareExit}
use Rattle.job_room.proofs.Laws.{prepared-outside, prepared-fits, counts-are, preparing-refused, preparing-ready}
use Rattle.job_promise.specs.List.{serve_all}
use Rattle.job_promise.specs.Job.{job_of, lent_to, outcome}
use Rattle.std.specs.Prelude.{Ok}
use Rattle.std.specs.Prelude.{Err}
use Rattle.refusal.specs.declared.Refusal.{Refusal}
use Rattle.refusal.specs.Number.{number}

-- the counts of a room that stands are its case's
pub counts-stand : (file words : List ℕ) (floats : List Float) (p : Place) → RoomStands file words floats p → counts_in p ≡ counts_of file
counts-stand file words floats p s = counts-are file (counts_in p) (s.opens)

module _ (file requests : List ℕ) (words floats : ℕ) (answers marks : List ℕ) where
  abbrev lent : Lent
  lent = lent_to words floats answers marks

  pub job-refused : {w : List ℕ} {f : List Float} {x : Refusable Place} {k : Refusal} → PrepareExit (prepared file (length requests) lent) file w f x → x ≡ Err k
      → Left (outcome file requests words floats answers marks) (number k) answers marks
  unfolding outcome job_of done ◌>>=◌
  job-refused p e = rw (prepared-outside file (length requests) lent ∙ preparing-refused p e) (record { same-result = refl; same-answers = refl; same-marks = refl })

  -- what `run` asks
  pub run-asks : {w : List ℕ} {f : List Float} {x : Refusable Place} {p : Place} → PrepareExit (prepared file (length requests) lent) file w f x → x ≡ Ok p
      → (RoomStands file w f p × ((counts_in p).cells ≤ length marks)) × (2 * (length requests / 128) ≤ length answers)
  run-asks {w} {f} {x} {p} h e =
      let r = preparing-ready h e in
      let fits = prepared-fits file (length requests) lent (room_in file w f p) r.0 in
      let counts = counts-stand file w f p r.1 in
      ((r.1, rw counts fits.marks), fits.answers)

  pub job-done : {w : List ℕ} {f : List Float} {x : Refusable Place} {p : Place} {answers' marks' : List ℕ} → PrepareExit (prepared file (length requests) lent) file w f x → x ≡ Ok p
      → Left (done (Ok (serve_all (room_in file w f p) (length answers) (requests_in requests))) (values_of file) (counts_in p).cells answers marks) 0 answers' marks'
      → Left (outcome file requests words floats answers marks) 0 answers' marks'
  unfolding outcome job_of ◌>>=◌ cells_of
  job-done {w} {f} {x} {p} h e l =
      let r = preparing-ready h e in
      let counts : (counts_in p).cells ≡ cells_of file = ap (λ (n : Counts). n.cells) (counts-stand file w f p r.1) in
      rw (prepared-outside file (length requests) lent ∙ r.0) (rw counts at l)

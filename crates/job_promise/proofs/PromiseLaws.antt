-- What the job promises holds of its outcome. Assumes nothing.
use Prim.Native.Nat.{ℕ, zero, suc, ◌+◌, ◌-◌, ◌*◌, ◌/◌, ◌≤◌, ◌<◌}
use native.Mathlib.Omega.{arith}
use native.Mathlib.Decide.{ℕ_discrete}
use mathlib.Core.Path.{◌≡◌, refl, ap, sym, ◌∙◌, subst}
use mathlib.Core.Bool.{Bool, true, false, cond, ◌||◌}
use mathlib.Core.Logic.{⊎_elim}
use mathlib.Core.List.{List, [], ◌∷◌, ◌++◌, map, append_assoc, Memᴰ}
use lib.Dec.{leb, eqb}
use borrow.Author.Tests.{eqb-true}
use lib.ListN.{length, get_or, drop, replicate}
use lib.Ieee.{Float}
use Rattle.arith.specs.Lists.{flatten}
use Rattle.reading.specs.declared.Values.{Values}
use Rattle.reading.specs.Result.{Refusable, ◌>>=◌}
use Rattle.reading.specs.Asks.{give, run, reads}
use Rattle.reading.specs.After.{After, done, Left}
use Rattle.reading.proofs.AsksLaws.{run_bind}
use Rattle.case_file.specs.Field.{cells_of, values_of}
use Rattle.case_file.proofs.FieldLaws.{same-outside, same-values}
use Rattle.job_requests.specs.Requests.{words_at, requests_in}
use Rattle.job_requests.proofs.Laws.{requests-count, requests-at}
use Rattle.job_room.specs.Room.{Room, Lent, prepared}
use Rattle.job_room.specs.declared.Place.{Place}
use Rattle.job_room.specs.Ensures.{room_in, counts_in, PrepareExit}
use Rattle.job_room.proofs.Laws.{prepared-outside, preparing-refused, preparing-ready}
use Rattle.answers.specs.Answer.{fitting, answer_words}
use Rattle.job_reads.proofs.Ranges.{Ranged, due, none, among-is, told}
use Rattle.job_reads.proofs.Ranges as Ranges
use Rattle.job_reads.proofs.JobRefusals.{job_number, job-refusals}
use Rattle.job_reads.proofs.RequestRefusals.{request-refusals}
use Rattle.job_promise.specs.List.{is_flat, reply_to, serve_all}
use Rattle.job_promise.specs.Ensures.{answer_to}
use Rattle.job_promise.specs.Job.{job_of, lent_to, outcome, result_of}
use Rattle.job_promise.specs.Promise.{ResultNumber, accepted, rejected, rejected-45, Answers, end, served, denied, ReadBySome, Mark, marked, clear, JobPromise}
use Rattle.job_promise.proofs.ListLaws.{run-all}
use Rattle.job_promise.proofs.JobLaws.{job-refused, job-done}
use Rattle.job_promise.proofs.Demand3.{reads-each, two_runs, left_is, read-is-marked, marked-is-read, unread-is-clear, later-kept}
use Rattle.std.specs.Prelude.{Ok, Err}
use Rattle.refusal.specs.declared.Refusal.{Refusal}
use Rattle.refusal.specs.declared.Refusal.TheVariants.{WrongTrailer, CountOverLimit, WrongDefinitions, ShortWorkArea, ShortMarks, WrongRequestBytes, ShortAnswers, NoCells, CoordinateNotFinite, CoordinateTooLarge, WrongKind, NoSuchPoint, DegenerateFace, ThirdUser, NoVolume, WrongOrientation, NotConnected, FlatBounds, TooManyBins, FileTooLong, TooFewPlaces, IllFormed, OtherDimension, TooFewSeeds, TooManySteps, WrongOptions, SeedNowhere, WrongPlane, OriginTooLarge, NoSuchField, SampleNotFinite, FluxNotFinite, NoStatistics, InvalidSample, NoIntegrals, AnswerTooLong, ZoneTooLarge, ZonesLost, ShortOutput}
use Rattle.refusal.specs.Number.{number}

-- ---- the answers of a list

-- one answer before the others
one_answer : (left later : ℕ) {a : Refusable (List ℕ)} {n : ℕ} {rest : List ℕ} → Ranged (Ranges.among 30 44) a → Answers n rest → Answers (suc n) (answer_words (fitting left later a) ++ rest)
unfolding fitting answer_words
one_answer left later (due k h) w = let b = among-is 30 44 (number k) h in denied b.0 b.1 w
one_answer left later {n = n} {rest = rest} (none {a = ws}) w = by (leb (length ws + 2 + 2 * later) left)
  where
    by : (t : Bool) → Answers (suc n) (answer_words (cond t (Ok ws) (Err AnswerTooLong)) ++ rest)
    by true = served ws w
    by false = denied {k = 44} (omega arith) (omega arith) w

all-answers : (room : Room) (f : ℕ → Values) (left : ℕ) (rs : List (List ℕ)) (k : ℕ) → Answers (length rs) (run (serve_all room left rs) f ++ replicate k 0)
unfolding serve_all answer_to reply_to
all-answers room f left [] k = end k
all-answers room f left (r ∷ rs) k =
    let reply = run (reply_to room r) f in
    let w = run (answer_to room left (length rs) r) f in
    let words : w ≡ answer_words (fitting left (length rs) reply) = run_bind (reply_to room r) (λ a. give (answer_words (fitting left (length rs) a))) f in
    subst (Answers (suc (length rs))) (sym (ap (λ l. l ++ replicate k 0) (run-all room f left r rs) ∙ append_assoc w _ (replicate k 0)))
    (subst (λ l. Answers (suc (length rs)) (l ++ (run (serve_all room (left - length w) rs) f ++ replicate k 0))) (sym words)
    (one_answer left (length rs) (request-refusals f room (is_flat room) r) (all-answers room f (left - length w) rs k)))

-- ---- a cell among those of one list after another

module _ {A : Type 0} (g : A → List ℕ) (d : A) (i : ℕ) where
  found : (rs : List A) → Memᴰ i (flatten (map g rs)) → (n : ℕ) × (n < length rs) × Memᴰ i (g (get_or rs n d))
  unfolding flatten
  found [] w = absurd (mathlib.Core.List.Memᴰ.not-nil w)
  found (r ∷ rs) w =
      ⊎_elim (λ v. (0, omega arith, v)) (λ v. let f = found rs v in (suc f.0, (let l = f.1 in omega arith), f.2)) (mathlib.Core.List.Memᴰ.append_cases (g r) w)

  among : (rs : List A) (n : ℕ) → n < length rs → Memᴰ i (g (get_or rs n d)) → Memᴰ i (flatten (map g rs))
  unfolding flatten
  among [] n h w = absurd (omega arith)
  among (r ∷ rs) zero h w = mathlib.Core.List.Memᴰ.append_left (flatten (map g rs)) w
  among (r ∷ rs) (suc n) h w = mathlib.Core.List.Memᴰ.append_right (g r) (among rs n (omega arith) w)

-- ---- the outcome of a job

module _ (case requests : List ℕ) (words floats : ℕ) (answers marks : List ℕ) where
  abbrev out : After
  out = outcome case requests words floats answers marks

  abbrev with : Lent
  with = lent_to words floats answers marks

  abbrev room_of : Refusable Room
  room_of = prepared case (length requests) with

  -- a refused job
  module _ (k : Refusal) (shut : room_of ≡ Err k) where
    refused-is : out ≡ record { result = number k; answers = answers; marks = marks }
    unfolding outcome job_of done ◌>>=◌
    refused-is = rw (prepared-outside case (length requests) with ∙ shut)

    told-number : job_number (number k) ≡ true
    told-number = told k (rw shut at (job-refusals case (length requests) with))

    pub refused-number : ResultNumber (Err k) (number k)
    refused-number = by k told-number
      where
        by : (k : Refusal) → job_number (number k) ≡ true → ResultNumber (Err k) (number k)
        by WrongTrailer h = rejected (omega arith) (omega arith)
        by CountOverLimit h = rejected (omega arith) (omega arith)
        by WrongDefinitions h = rejected (omega arith) (omega arith)
        by ShortWorkArea h = rejected (omega arith) (omega arith)
        by ShortMarks h = rejected (omega arith) (omega arith)
        by WrongRequestBytes h = rejected (omega arith) (omega arith)
        by ShortAnswers h = rejected (omega arith) (omega arith)
        by NoCells h = rejected (omega arith) (omega arith)
        by CoordinateNotFinite h = rejected (omega arith) (omega arith)
        by CoordinateTooLarge h = rejected (omega arith) (omega arith)
        by WrongKind h = rejected (omega arith) (omega arith)
        by NoSuchPoint h = rejected (omega arith) (omega arith)
        by DegenerateFace h = rejected (omega arith) (omega arith)
        by ThirdUser h = rejected (omega arith) (omega arith)
        by NoVolume h = rejected (omega arith) (omega arith)
        by WrongOrientation h = rejected (omega arith) (omega arith)
        by NotConnected h = rejected (omega arith) (omega arith)
        by FlatBounds h = rejected (omega arith) (omega arith)
        by TooManyBins h = rejected (omega arith) (omega arith)
        by FileTooLong h = absurd (let z : ◌≡◌ {A = Bool} false true = h in let w : ◌≡◌ {A = ℕ} 0 1 = cc in omega arith)
        by TooFewPlaces h = absurd (let z : ◌≡◌ {A = Bool} false true = h in let w : ◌≡◌ {A = ℕ} 0 1 = cc in omega arith)
        by IllFormed h = absurd (let z : ◌≡◌ {A = Bool} false true = h in let w : ◌≡◌ {A = ℕ} 0 1 = cc in omega arith)
        by OtherDimension h = absurd (let z : ◌≡◌ {A = Bool} false true = h in let w : ◌≡◌ {A = ℕ} 0 1 = cc in omega arith)
        by TooFewSeeds h = absurd (let z : ◌≡◌ {A = Bool} false true = h in let w : ◌≡◌ {A = ℕ} 0 1 = cc in omega arith)
        by TooManySteps h = absurd (let z : ◌≡◌ {A = Bool} false true = h in let w : ◌≡◌ {A = ℕ} 0 1 = cc in omega arith)
        by WrongOptions h = absurd (let z : ◌≡◌ {A = Bool} false true = h in let w : ◌≡◌ {A = ℕ} 0 1 = cc in omega arith)
        by SeedNowhere h = absurd (let z : ◌≡◌ {A = Bool} false true = h in let w : ◌≡◌ {A = ℕ} 0 1 = cc in omega arith)
        by WrongPlane h = absurd (let z : ◌≡◌ {A = Bool} false true = h in let w : ◌≡◌ {A = ℕ} 0 1 = cc in omega arith)
        by OriginTooLarge h = absurd (let z : ◌≡◌ {A = Bool} false true = h in let w : ◌≡◌ {A = ℕ} 0 1 = cc in omega arith)
        by NoSuchField h = absurd (let z : ◌≡◌ {A = Bool} false true = h in let w : ◌≡◌ {A = ℕ} 0 1 = cc in omega arith)
        by SampleNotFinite h = absurd (let z : ◌≡◌ {A = Bool} false true = h in let w : ◌≡◌ {A = ℕ} 0 1 = cc in omega arith)
        by FluxNotFinite h = absurd (let z : ◌≡◌ {A = Bool} false true = h in let w : ◌≡◌ {A = ℕ} 0 1 = cc in omega arith)
        by NoStatistics h = absurd (let z : ◌≡◌ {A = Bool} false true = h in let w : ◌≡◌ {A = ℕ} 0 1 = cc in omega arith)
        by InvalidSample h = absurd (let z : ◌≡◌ {A = Bool} false true = h in let w : ◌≡◌ {A = ℕ} 0 1 = cc in omega arith)
        by NoIntegrals h = absurd (let z : ◌≡◌ {A = Bool} false true = h in let w : ◌≡◌ {A = ℕ} 0 1 = cc in omega arith)
        by AnswerTooLong h = absurd (let z : ◌≡◌ {A = Bool} false true = h in let w : ◌≡◌ {A = ℕ} 0 1 = cc in omega arith)
        by ZoneTooLarge h = rejected-45
        by ZonesLost h = absurd (let z : ◌≡◌ {A = Bool} false true = h in let w : ◌≡◌ {A = ℕ} 0 1 = cc in omega arith)
        by ShortOutput h = absurd (let z : ◌≡◌ {A = Bool} false true = h in let w : ◌≡◌ {A = ℕ} 0 1 = cc in omega arith)

    pub refused-above : 1 ≤ number k
    refused-above = by (Ranges.among 1 19 (number k)) refl told-number
      where
        by : (t : Bool) → Ranges.among 1 19 (number k) ≡ t → (t || eqb (number k) 45) ≡ true → 1 ≤ number k
        by true e h = (among-is 1 19 (number k) e).0
        by false e h = omega (arith, eqb-true (number k) 45 h)

  -- an accepted job
  module _ (room : Room) (built : room_of ≡ Ok room) where
    abbrev all : List ℕ
    all = reads (serve_all room (length answers) (requests_in requests)) (values_of case)

    for_some : (i : ℕ) → Memᴰ i all → ReadBySome case requests with i
    for_some i w =
        let f = found (λ r. reads (reply_to room r) (values_of case)) [] i (requests_in requests) (subst (Memᴰ i) (reads-each room (values_of case) (length answers) (requests_in requests)) w) in
        let l : f.0 < length requests / 128 = let h = f.1 in omega (arith, requests-count requests) in
        record {
          room = room;
          built = built;
          number = f.0;
          listed = omega (arith, l);
          reads = subst (λ r. Memᴰ i (reads (reply_to room r) (values_of case))) (requests-at requests f.0 l) f.2;
        }

    from_some : (i : ℕ) → ReadBySome case requests with i → Memᴰ i all
    from_some i s =
        let l : s.number < length (requests_in requests) = let h = s.listed in omega (arith, requests-count requests) in
        let same : s.room ≡ room = cc (sym s.built ∙ built) in
        subst (Memᴰ i) (sym (reads-each room (values_of case) (length answers) (requests_in requests)))
        (among (λ r. reads (reply_to room r) (values_of case)) [] i (requests_in requests) s.number l
        (subst (λ r. Memᴰ i (reads (reply_to room r) (values_of case))) (sym (requests-at requests s.number s.listed))
        (subst (λ (x : Room). Memᴰ i (reads (reply_to x (words_at requests (128 * s.number))) (values_of case))) same s.reads)))

    cell-mark : (i : ℕ) → i < cells_of case → Mark (ReadBySome case requests with i) (get_or out.marks i 0)
    cell-mark i h = by (ℕ_discrete (get_or out.marks i 0) 1)
      where
        by : Dec (get_or out.marks i 0 ≡ 1) → Mark (ReadBySome case requests with i) (get_or out.marks i 0)
        by (yes w) =
            subst (Mark (ReadBySome case requests with i)) (sym w)
            (marked (for_some i (marked-is-read case requests words floats answers marks room built i h w)))
        by (no n) =
            let unread : (Memᴰ i all → ⊥) = λ w. n (read-is-marked case requests words floats answers marks room built i h w) in
            subst (Mark (ReadBySome case requests with i)) (sym (unread-is-clear case requests words floats answers marks room built i h unread))
            (clear (λ s. unread (from_some i s)))

    accepted-number : out.result ≡ 0
    unfolding done
    accepted-number = ap (λ (a : After). a.result) (left_is case requests words floats answers marks room built)

    accepted-answers : Answers (length requests / 128) out.answers
    unfolding done
    accepted-answers =
        let used = length (run (serve_all room (length answers) (requests_in requests)) (values_of case)) in
        rw (left_is case requests words floats answers marks room built, ← requests-count requests)
        (all-answers room (values_of case) (length answers) (requests_in requests) (length answers - used))

  numbered : (p : Refusable Room) → room_of ≡ p → ResultNumber p out.result
  numbered (Err k) e = rw (refused-is k e) (refused-number k e)
  numbered (Ok room) e = rw (accepted-number room e) accepted

  -- a job whose number is 0 had its room built
  if-accepted : {P : Type 0} → ((room : Room) → room_of ≡ Ok room → P) → out.result ≡ 0 → P
  if-accepted {P} h z = by room_of refl
    where
      by : (p : Refusable Room) → room_of ≡ p → P
      by (Err k) e = absurd (let b = refused-above k e in let w = ap (λ (a : After). a.result) (refused-is k e) in omega (arith, b, w, z))
      by (Ok room) e = h room e

  kept : (p : Refusable Room) → room_of ≡ p → drop (cells_of case) out.marks ≡ drop (cells_of case) marks
  kept (Err k) e = rw (refused-is k e)
  kept (Ok room) e = later-kept case requests words floats answers marks room e

  promised : JobPromise case requests words floats answers marks out
  promised =
      record {
        ends = refl;
        number = numbered room_of refl;
        answered = if-accepted accepted-answers;
        two_runs = λ p s h. two_runs requests words floats answers marks case p (same-outside case p s) (λ i w. same-values case p s i (h i w));
        marked = λ z i h. if-accepted (λ room e. cell-mark room e i h) z;
        later = kept room_of refl;
      }

  -- ---- the two ends of `job`

  left : {n : ℕ} {o m : List ℕ} → Left out n o m → JobPromise case requests words floats answers marks (record { result = n; answers = o; marks = m })
  left l = rw (l.same-result, l.same-answers, l.same-marks) promised

  pub refused-promise : {w : List ℕ} {f : List Float} {x : Refusable Place} {k : Refusal} → PrepareExit room_of case w f x → x ≡ Err k
      → JobPromise case requests words floats answers marks (record { result = number k; answers = answers; marks = marks }) × (Err k ≡ result_of case requests words floats answers marks)
  unfolding result_of job_of ◌>>=◌
  refused-promise {k = k} p e =
      (left (job-refused case requests words floats answers marks p e), rw (prepared-outside case (length requests) with ∙ preparing-refused p e))

  pub done-promise : {w : List ℕ} {f : List Float} {x : Refusable Place} {p : Place} {answers' marks' : List ℕ} → PrepareExit room_of case w f x → x ≡ Ok p
      → Left (done (Ok (serve_all (room_in case w f p) (length answers) (requests_in requests))) (values_of case) (counts_in p).cells answers marks) 0 answers' marks'
      → JobPromise case requests words floats answers marks (record { result = 0; answers = answers'; marks = marks' }) × (Ok tt ≡ result_of case requests words floats answers marks)
  unfolding result_of job_of ◌>>=◌
  done-promise p e h =
      (left (job-done case requests words floats answers marks p e h), rw (prepared-outside case (length requests) with ∙ (preparing-ready p e).0))

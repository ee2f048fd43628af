-- Laws of `prepared` and of what `prepare` promises. Assumes nothing.
use Prim.Native.Nat.{ℕ, ◌%◌, ◌≤◌, ◌*◌, ◌/◌}
use native.Mathlib.Omega.{arith}
use mathlib.Core.Path.{◌≡◌, refl, ap, sym, ◌∙◌, subst}
use mathlib.Core.Bool.{Bool, true, false, not, cond, ◌||◌}
use mathlib.Core.List.{List}
use lib.Dec.{ltb, eqb}
use lib.Ieee.{Float}
use borrow.Author.Tests.{eqb-true, ltb-false}
use Rattle.reading.specs.Result.{Refusable, ◌>>=◌}
use Rattle.reading.proofs.ResultLaws.{bound, not-due}
use Rattle.case_definitions.specs.Faces.{Definition}
use Rattle.case_definitions.specs.Definitions.{definitions}
use Rattle.case_file.specs.Field.{outside, zones_within}
use Rattle.case_file.specs.Trailer.{counts_of, trailer_right, over_limit, opened, words_of}
use Rattle.case_file.specs.declared.Counts.{Counts}
use Rattle.case_file.proofs.OutsideLaws.{outside-opened, outside-words, outside-zones, outside-zones-within}
use Rattle.case_survey.specs.Survey.{CaseSurvey, survey_of}
use Rattle.case_survey.proofs.Laws.{survey-shut, survey-wrong, survey-zoned, survey-right}
use Rattle.mesh.specs.Case.{mesh_of}
use Rattle.mesh.proofs.Laws.{outside-points}
use Rattle.job_room.specs.Room.{Room, Lent, room_of, requests_wrong, shortage, prepared}
use Rattle.job_room.specs.Ensures.{room_in, RoomStands, PrepareExit, standing, barred}
use Rattle.job_room.specs.declared.Place.{Place}
use Rattle.std.specs.Prelude.{Ok, Err}
use Rattle.refusal.specs.declared.Refusal.{Refusal}
use Rattle.refusal.specs.declared.Refusal.TheVariants.{WrongTrailer, CountOverLimit, ZoneTooLarge, ShortMarks, WrongRequestBytes, ShortAnswers}

-- 5, 6 and 7 were not due
pub record Fits (cells requests : ℕ) (lent : Lent) : Type 0 where
  pub marks : cells ≤ lent.marks
  pub whole : requests % 128 ≡ 0
  pub few : requests ≤ 524288
  pub answers : 2 * (requests / 128) ≤ lent.answers

-- ---- what `prepare` answers

module _ {r : Refusable Room} {file w : List ℕ} {f : List Float} where
  pub preparing-refused : {x : Refusable Place} {k : Refusal} → PrepareExit r file w f x → x ≡ Err k → r ≡ Err k
  preparing-refused {k} (barred {k = j} e) g = let h : j ≡ k = cc in e ∙ ap Err h
  preparing-refused {k} (standing e s) g = absurd (let z : ◌≡◌ {A = ℕ} 0 1 = cc in omega arith)

  pub preparing-ready : {x : Refusable Place} {p : Place} → PrepareExit r file w f x → x ≡ Ok p → (r ≡ Ok (room_in file w f p)) × RoomStands file w f p
  preparing-ready {p} (barred e) g = absurd (let z : ◌≡◌ {A = ℕ} 0 1 = cc in omega arith)
  preparing-ready {p} (standing {p = q} e s) g =
      let h : q ≡ p = cc in (e ∙ ap (λ (x : Place). Ok (room_in file w f x)) h, subst (λ (x : Place). RoomStands file w f x) h s)

-- ---- the room of a case is the same outside its field

-- refused while it is surveyed
pub prepared-shut : (file : List ℕ) (requests : ℕ) (lent : Lent) (k : Refusal) → survey_of file ≡ Err k → prepared file requests lent ≡ Err k
unfolding prepared ◌>>=◌
prepared-shut file requests lent k e = rw (e, ◌>>=◌)

-- surveyed
pub prepared-then : (file : List ℕ) (requests : ℕ) (lent : Lent) (c : CaseSurvey) → survey_of file ≡ Ok c
    → prepared file requests lent ≡ (shortage c requests lent >>= λ _. room_of file c)
unfolding prepared ◌>>=◌
prepared-then file requests lent c e = rw (e, ◌>>=◌)

outside-room : (file : List ℕ) (n : Counts) (ds : List Definition) → opened file ≡ Ok n
    → room_of (outside file) (record { counts = n; definitions = ds }) ≡ room_of file (record { counts = n; definitions = ds })
unfolding room_of mesh_of
outside-room file n ds o = rw (outside-points file n o, outside-zones file)

pub prepared-outside : (file : List ℕ) (requests : ℕ) (lent : Lent) → prepared (outside file) requests lent ≡ prepared file requests lent
prepared-outside file requests lent = by-opened (opened file) refl
  where
    by-zones : (n : Counts) (o : opened file ≡ Ok n) (ds : List Definition) → definitions n.cells (words_of file n) ≡ Ok ds → (t : Bool) → zones_within file ≡ t
        → prepared (outside file) requests lent ≡ prepared file requests lent
    by-zones n o ds e false z =
        prepared-shut (outside file) requests lent ZoneTooLarge
        (survey-zoned (outside file) n (outside-opened file ∙ o) ds (ap (definitions n.cells) (outside-words file n o) ∙ e) (outside-zones-within file ∙ z))
        ∙ sym (prepared-shut file requests lent ZoneTooLarge (survey-zoned file n o ds e z))
    by-zones n o ds e true z =
        let c : CaseSurvey = record { counts = n; definitions = ds } in
        prepared-then (outside file) requests lent c
        (survey-right (outside file) n (outside-opened file ∙ o) ds (ap (definitions n.cells) (outside-words file n o) ∙ e) (outside-zones-within file ∙ z))
        ∙ ap (λ (r : Refusable Room). shortage c requests lent >>= λ _. r) (outside-room file n ds o)
        ∙ sym (prepared-then file requests lent c (survey-right file n o ds e z))

    by-definitions : (n : Counts) (o : opened file ≡ Ok n) (d : Refusable (List Definition)) → definitions n.cells (words_of file n) ≡ d
        → prepared (outside file) requests lent ≡ prepared file requests lent
    by-definitions n o (Err k) e =
        prepared-shut (outside file) requests lent k
        (survey-wrong (outside file) n (outside-opened file ∙ o) k (ap (definitions n.cells) (outside-words file n o) ∙ e))
        ∙ sym (prepared-shut file requests lent k (survey-wrong file n o k e))
    by-definitions n o (Ok ds) e = by-zones n o ds e (zones_within file) refl

    by-opened : (x : Refusable Counts) → opened file ≡ x → prepared (outside file) requests lent ≡ prepared file requests lent
    by-opened (Err k) e =
        prepared-shut (outside file) requests lent k (survey-shut (outside file) k (outside-opened file ∙ e))
        ∙ sym (prepared-shut file requests lent k (survey-shut file k e))
    by-opened (Ok n) e = by-definitions n e (definitions n.cells (words_of file n)) refl

-- ---- 5, 6 and 7 were not due

-- the counts of an accepted case are its trailer's
pub counts-are : (file : List ℕ) (n : Counts) → (opened file) ≡ Ok n → n ≡ counts_of file
unfolding opened
counts-are file n e = by_tests (trailer_right file) (over_limit (counts_of file)) e
  where
    by_tests : (a b : Bool) → (cond a (cond b (Err CountOverLimit) (Ok (counts_of file))) (Err WrongTrailer)) ≡ Ok n → n ≡ counts_of file
    by_tests false b e = absurd (let z : ◌≡◌ {A = ℕ} 0 1 = cc in omega arith)
    by_tests true true e = absurd (let z : ◌≡◌ {A = ℕ} 0 1 = cc in omega arith)
    by_tests true false e = cc

surveyed-counts : (file : List ℕ) (c : CaseSurvey) → survey_of file ≡ Ok c → c.counts ≡ counts_of file
unfolding survey_of
surveyed-counts file c e =
    let s1 = bound _ _ _ e in
    let s2 = bound _ _ _ s1.then in
    let s3 = bound _ _ _ s2.then in
    let same_case : record { counts = s1.value; definitions = s2.value } ≡ c = fine-same s3.then in
    ap (λ (c : CaseSurvey). c.counts) (sym same_case) ∙ counts-are file s1.value s1.had
  where
    fine-same : {A : Type 0} {a b : A} → ◌≡◌ {A = Refusable A} (Ok a) (Ok b) → a ≡ b
    fine-same e = cc

requests-right : (requests : ℕ) → requests_wrong requests ≡ false → (requests % 128 ≡ 0) × (requests ≤ 524288)
unfolding requests_wrong
requests-right requests e = by (eqb (requests % 128) 0) refl e
  where
    by : (t : Bool) → eqb (requests % 128) 0 ≡ t → (not t || ltb 524288 requests) ≡ false → (requests % 128 ≡ 0) × (requests ≤ 524288)
    by true h e = (eqb-true _ _ h, ltb-false _ _ e)
    by false h e = absurd (let z : ◌≡◌ {A = ℕ} 0 1 = cc in omega arith)

not_short : (c : CaseSurvey) (requests : ℕ) (lent : Lent) (u : Unit {0}) → shortage c requests lent ≡ Ok u → Fits c.counts.cells requests lent
unfolding shortage
not_short c requests lent u e =
    let b4 = bound _ _ _ e in
    let b5 = bound _ _ _ b4.then in
    let b6 = bound _ _ _ b5.then in
    let w = requests-right requests (not-due WrongRequestBytes _ _ b6.had) in
    record {
      marks = ltb-false _ _ (not-due ShortMarks _ _ b5.had);
      whole = w.0;
      few = w.1;
      answers = ltb-false _ _ (not-due ShortAnswers _ _ b6.then);
    }

pub prepared-fits : (file : List ℕ) (requests : ℕ) (lent : Lent) (r : Room) → prepared file requests lent ≡ Ok r → Fits (counts_of file).cells requests lent
unfolding prepared
prepared-fits file requests lent r e =
    let b1 = bound _ _ _ e in
    let b2 = bound _ _ _ b1.then in
    subst (λ (n : Counts). Fits n.cells requests lent) (surveyed-counts file b1.value b1.had) (not_short b1.value requests lent b2.value b2.had)

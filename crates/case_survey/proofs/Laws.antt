-- Laws of the survey of a case, and how many faces its definitions have. Assumes nothing.
use Prim.Native.Nat.{ℕ, zero, suc, ◌+◌, ◌-◌, ◌*◌, ◌≤◌}
use native.Mathlib.Omega.{arith}
use mathlib.Core.Path.{◌≡◌, ap, sym, ◌∙◌, subst}
use mathlib.Core.Bool.{true, false}
use mathlib.Core.List.{List, [], ◌∷◌}
use lib.ListN.{length, length-drop}
use Rattle.arith.specs.Bytes.{le32}
use Rattle.arith.specs.Lists.{fold}
use Rattle.arith.specs.Records.{part}
use Rattle.reading.specs.Result.{Refusable, ◌>>=◌, refuse}
use Rattle.reading.proofs.ResultLaws.{bound, ok-pair}
use Rattle.case_file.specs.Trailer.{opened, words_of, words_from, words_in}
use Rattle.case_file.specs.Field.{zones_within}
use Rattle.case_file.specs.declared.Counts.{Counts}
use Rattle.case_file.proofs.ReadLaws.{length-read_all}
use Rattle.case_file.proofs.TrailerLaws.{opens}
use Rattle.case_definitions.specs.Faces.{Definition, face_count, add_face_count, faces_counted}
use Rattle.case_definitions.specs.Definitions.{definitions}
use Rattle.case_definitions.specs.Ensures.{walked}
use Rattle.case_definitions.proofs.Walking.{words-part}
use Rattle.case_definitions.proofs.RecordLaws.{definition-read}
use Rattle.case_survey.specs.Survey.{survey_of}
use Rattle.case_survey.specs.Ensures.{SurveyExit, surveyed, refusing}
use Rattle.std.specs.Prelude.{Ok, Err}
use Rattle.refusal.specs.declared.Refusal.{Refusal}
use Rattle.refusal.specs.declared.Refusal.TheVariants.{ZoneTooLarge}

-- ---- 1, 2, 3 and 45

module _ (file : List ℕ) where
  pub survey-shut : (k : Refusal) → opened file ≡ Err k → survey_of file ≡ Err k
  unfolding survey_of ◌>>=◌
  survey-shut k e = rw (e, ◌>>=◌)

  module _ (n : Counts) (o : opened file ≡ Ok n) where
    pub survey-wrong : (k : Refusal) → definitions n.cells (words_of file n) ≡ Err k → survey_of file ≡ Err k
    unfolding survey_of ◌>>=◌
    survey-wrong k e = rw (o, ◌>>=◌) (rw (e, ◌>>=◌))

    module _ (ds : List Definition) (e : definitions n.cells (words_of file n) ≡ Ok ds) where
      pub survey-zoned : zones_within file ≡ false → survey_of file ≡ Err ZoneTooLarge
      unfolding survey_of refuse ◌>>=◌
      survey-zoned z = rw (o, ◌>>=◌) (rw (e, ◌>>=◌) (rw (z, refuse, ◌>>=◌)))

      pub survey-right : zones_within file ≡ true → survey_of file ≡ Ok (record { counts = n; definitions = ds })
      unfolding survey_of refuse ◌>>=◌
      survey-right z = rw (o, ◌>>=◌) (rw (e, ◌>>=◌) (rw (z, refuse, ◌>>=◌)))

-- the lent slice has the words of the case
pub words_same : (file : List ℕ) (n : Counts) → opened file ≡ Ok n → (l : List ℕ) → l ≡ part file (words_from n) (4 * n.words) → words_in l ≡ words_of file n
unfolding words_from
words_same file n o l e = let p = opens file n o in ap words_in e ∙ words-part file n (omega arith)

pub walked-wrong : (r : Refusable (List Definition)) (k : Refusal) → Err k ≡ walked r → r ≡ Err k
unfolding walked
walked-wrong (Err n) k e = let g : n ≡ k = cc in ap Err g
walked-wrong (Ok ds) k e = absurd (let z : ◌≡◌ {A = ℕ} 0 1 = cc in omega arith)

-- what `survey` answers
pub record Surveys (file : List ℕ) (n : Counts) (f : ℕ) : Type 0 where
  pub ds : List Definition
  pub opens : opened file ≡ Ok n
  pub right : definitions n.cells (words_of file n) ≡ Ok ds
  pub zones : zones_within file ≡ true
  pub count : f ≡ faces_counted ds

pub survey-refused : {file : List ℕ} {r : Refusable (Counts × ℕ)} (k : Refusal) → SurveyExit file r → r ≡ Err k → survey_of file ≡ Err k
survey-refused k (refusing {k = j} e) g = let h : j ≡ k = cc in e ∙ ap Err h
survey-refused k (surveyed o d z f) g = absurd (let z : ◌≡◌ {A = ℕ} 0 1 = cc in omega arith)

pub survey-case : {file : List ℕ} {r : Refusable (Counts × ℕ)} (n : Counts) (f : ℕ) → SurveyExit file r → r ≡ Ok (n, f) → Surveys file n f
survey-case n f (refusing e) g = absurd (let z : ◌≡◌ {A = ℕ} 0 1 = cc in omega arith)
survey-case {file} n f (surveyed {n = m} {ds = ds} {f = h} o d z e) g =
    let both : (m ≡ n) × (h ≡ f) = ok-pair g in
    let p = both.0 in
    let q = both.1 in
    record {
      ds = ds;
      opens = o ∙ ap Ok p;
      right = subst (λ (x : Counts). definitions x.cells (words_of file x) ≡ Ok ds) p d;
      zones = z;
      count = sym q ∙ e;
    }

-- ---- every face takes a word

counted-few : (n : ℕ) (ws : List ℕ) (ds : List Definition) (k : ℕ) → definitions n ws ≡ Ok ds → fold add_face_count k ds ≤ k + length ws
unfolding definitions fold add_face_count
counted-few zero [] ds k e = let w : [] ≡ ds = cc in rw (← w) (omega arith)
counted-few zero (x ∷ ws) ds k e = absurd (let z : ◌≡◌ {A = ℕ} 0 1 = cc in omega arith)
counted-few (suc n) ws ds k e =
    let b1 = bound _ _ _ e in
    let b2 = bound _ _ _ b1.then in
    let w : b1.value.read ∷ b2.value ≡ ds = cc b2.then in
    let r = definition-read ws 0 b1.value b1.had in
    let l : length b1.value.left ≡ length ws - r.end = ap length r.left ∙ length-drop r.end ws in
    let rest = counted-few n b1.value.left b2.value (k + face_count b1.value.read) b2.had in
    rw (← w) (omega (arith, r.past, r.within))

pub length-words_of : (file : List ℕ) (n : Counts) → length (words_of file n) ≡ n.words
unfolding words_of
length-words_of file n = length-read_all (le32 file) 4 n.words (words_from n)

pub faces-few : (file : List ℕ) (n : Counts) (ds : List Definition) → opened file ≡ Ok n → definitions n.cells (words_of file n) ≡ Ok ds → faces_counted ds ≤ 1048576
unfolding faces_counted
faces-few file n ds o e =
    let few = (opens file n o).words in
    let c = counted-few n.cells (words_of file n) ds 0 e in
    omega (arith, length-words_of file n)

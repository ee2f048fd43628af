-- Demand 3 over the whole job and the whole list of requests: two runs end alike, and a mark stands exactly where a cell was read. Assumes nothing.
use Prim.Native.Nat.{ℕ, ◌+◌, ◌-◌, ◌≤◌, ◌<◌}
use native.Mathlib.Omega.{arith}
use mathlib.Core.Path.{◌≡◌, refl, ap, sym, ◌∙◌}
use mathlib.Core.List.{List, [], ◌∷◌, ◌++◌, Memᴰ, map, append-nil}
use lib.ListN.{length, get_or, drop, replicate, length-replicate, length-drop}
use lib.Seq.{ext_get_or, get_or-append-add, get_or-drop}
use Rattle.arith.specs.Lists.{flatten}
use Rattle.reading.specs.declared.Values.{Values}
use Rattle.reading.specs.Result.{◌>>=◌}
use Rattle.answers.specs.Answer.{fitting, answer_words}
use Rattle.reading.specs.Asks.{Asks, run, reads}
use Rattle.reading.specs.Marks.{cleared}
use Rattle.reading.specs.After.{After, done, Named}
use Rattle.reading.proofs.AsksLaws.{reads-bind}
use Rattle.reading.proofs.TwoRuns.{same-done, read-marked, marked-read, unread-clear, length-cleared}
use Rattle.reading.proofs.ResultLaws.{bound}
use Rattle.reading.proofs.MarksLaws.{unread-keeps, length-mark_all}
use Rattle.reading.proofs.Within.{Within, given, within-reads, within-bind}
use Rattle.case_file.specs.Field.{outside, cells_of, values_of}
use Rattle.case_file.proofs.OutsideLaws.{cells-outside, values-beyond}
use Rattle.job_requests.specs.declared.Request.{Request}
use Rattle.job_requests.specs.Requests.{requests_in}
use Rattle.job_room.specs.Room.{Room, Lent, prepared}
use Rattle.job_room.proofs.Laws.{prepared-fits, prepared-outside}
use Rattle.job_serve.specs.Serve.{serve}
use Rattle.job_reads.proofs.Laws.{serve-within}
use Rattle.job_promise.specs.List.{reply_to, serve_all}
use Rattle.job_promise.specs.Job.{job_of, lent_to, outcome}
use Rattle.std.specs.Prelude.{Ok}

-- ---- a list of requests over a room

-- it reads only cells that its requests read
all-within : (room : Room) {n : ℕ} → ((q : Request) → Within n (serve room q)) → (left : ℕ) (rs : List (List ℕ)) → Within n (serve_all room left rs)
unfolding serve_all reply_to
all-within room h left [] = given
all-within room h left (r ∷ rs) = within-bind (h _) (λ a. within-bind (all-within room h (left - length (answer_words (fitting left (length rs) a))) rs) (λ ws. given))

-- and exactly what they read, one after another
pub reads-each : (room : Room) (f : ℕ → Values) (left : ℕ) (rs : List (List ℕ)) → reads (serve_all room left rs) f ≡ flatten (map (λ r. reads (reply_to room r) f) rs)
unfolding serve_all flatten
reads-each room f left [] = refl
reads-each room f left (r ∷ rs) =
    reads-bind (reply_to room r) _ f
    ∙ ap (λ l. reads (reply_to room r) f ++ l) (reads-bind (serve_all room _ rs) _ f ∙ append-nil _ ∙ reads-each room f (left - length (answer_words (fitting left (length rs) (run (reply_to room r) f)))) rs)

-- ---- two runs

-- refusal 5 was not due: the marks of an accepted job reach all its cells
marks-reach : (file requests : List ℕ) (lent : Lent) (t : Asks (List ℕ)) → job_of file requests lent ≡ Ok t → cells_of file ≤ lent.marks
unfolding cells_of job_of
marks-reach file requests lent t e = let r = bound _ _ _ e in (prepared-fits file (length requests) lent r.value r.had).marks

module _ (requests : List ℕ) (words floats : ℕ) (answers marks : List ℕ) where
  abbrev with : Lent
  with = lent_to words floats answers marks

  -- Two files that are the same outside their fields, and whose fields agree on the cells that the first run marks, leave the same result, the
  -- same answers and the same marks. The work area's contents stand nowhere in `outcome`.
  pub two_runs : (a b : List ℕ) → outside a ≡ outside b
      → ((i : ℕ) → Named (outcome a requests words floats answers marks) (cells_of a) i → values_of a i ≡ values_of b i)
      → outcome a requests words floats answers marks ≡ outcome b requests words floats answers marks
  unfolding outcome
  two_runs a b e h =
      let same : cells_of a ≡ cells_of b = sym (cells-outside a) ∙ ap cells_of e ∙ cells-outside b in
      same-done (cells_of a) answers marks (values_of a) (values_of b)
      (λ i l. values-beyond a i l ∙ sym (values-beyond b i (rw same at l)))
      (job_of (outside a) requests with)
      (λ t u. rw (cells-outside a) at (marks-reach (outside a) requests with t u)) h
      ∙ ap (λ o. done (job_of o requests with) (values_of b) (cells_of a) answers marks) e
      ∙ ap (λ n. done (job_of (outside b) requests with) (values_of b) n answers marks) same

-- ---- the marks of an accepted job

-- a byte behind the cleared ones
behind-cleared : (n : ℕ) (m : List ℕ) (i : ℕ) → n ≤ length m → n ≤ i → get_or (cleared n m) i 0 ≡ get_or m i 0
behind-cleared n m i h k =
    let long : length (replicate {A = ℕ} n 0) ≡ n = length-replicate n 0 in
    let place : i ≡ length (replicate {A = ℕ} n 0) + (i - n) = omega (arith, long) in
    let back : n + (i - n) ≡ i = omega arith in
    ap (λ j. get_or (replicate n 0 ++ drop n m) j 0) place ∙ get_or-append-add (replicate n 0) (drop n m) (i - n) 0 ∙ get_or-drop n m (i - n) 0 ∙ ap (λ j. get_or m j 0) back

module _ (file requests : List ℕ) (words floats : ℕ) (answers marks : List ℕ) (room : Room)
    (built : prepared file (length requests) (lent_to words floats answers marks) ≡ Ok room) where
  abbrev tree : Asks (List ℕ)
  tree = serve_all room (length answers) (requests_in requests)

  abbrev out : After
  out = outcome file requests words floats answers marks

  -- it serves its list
  pub left_is : out ≡ done (Ok tree) (values_of file) (cells_of file) answers marks
  unfolding outcome job_of ◌>>=◌
  left_is = rw (prepared-outside file (length requests) (lent_to words floats answers marks) ∙ built)

  reach : cells_of file ≤ length marks
  unfolding cells_of
  reach = (prepared-fits file (length requests) (lent_to words floats answers marks) room built).marks

  -- byte i < C is 1 where the job reads cell i, and 0 where it does not
  module _ (i : ℕ) (cell : i < cells_of file) where
    pub read-is-marked : Memᴰ i (reads tree (values_of file)) → get_or out.marks i 0 ≡ 1
    read-is-marked w = rw left_is (read-marked (cells_of file) answers marks reach tree (values_of file) i cell w)

    pub marked-is-read : get_or out.marks i 0 ≡ 1 → Memᴰ i (reads tree (values_of file))
    marked-is-read w = marked-read (cells_of file) answers marks reach tree (values_of file) i cell (rw left_is at w)

    pub unread-is-clear : (Memᴰ i (reads tree (values_of file)) → ⊥) → get_or out.marks i 0 ≡ 0
    unread-is-clear w = rw left_is (unread-clear (cells_of file) answers marks reach tree (values_of file) i cell w)

  -- it reads cells of its case alone
  reads-within : (i : ℕ) → Memᴰ i (reads tree (values_of file)) → i < cells_of file
  unfolding cells_of
  reads-within i w =
      within-reads (values_of file)
      (all-within room (serve-within file (length requests) (lent_to words floats answers marks) room built) (length answers) (requests_in requests)) i w

  -- "later bytes keep theirs"
  pub later-kept : drop (cells_of file) out.marks ≡ drop (cells_of file) marks
  unfolding done
  later-kept =
      let c = cells_of file in
      let l = reads tree (values_of file) in
      let long : length out.marks ≡ length marks = rw left_is (length-mark_all (cleared c marks) l ∙ length-cleared c marks reach) in
      let at : (i : ℕ) → get_or out.marks (c + i) 0 ≡ get_or marks (c + i) 0 =
      λ i. rw left_is (unread-keeps (cleared c marks) l (c + i) (λ w. let b = reads-within (c + i) w in omega (arith, b)) ∙ behind-cleared c marks (c + i) reach (omega arith)) in
      ext_get_or 0 (drop c out.marks) (drop c marks) (omega (arith, length-drop c out.marks, length-drop c marks, long))
      (λ i h. get_or-drop c out.marks i 0 ∙ at i ∙ sym (get_or-drop c marks i 0))

-- How a room is computed. `outcome` walks the tree of a job for its answer and again for its cells, over the buffers that are lent; here both come of one
-- pass, without the buffers.
use Rattle.std.specs.Prelude.{ℕ, ◌≡◌, refl, Bool, true, false, ◌&&◌, List, [], ◌∷◌, ◌++◌, ltb, length, drop, set, replicate, Ok, Err}
use Rattle.std.proofs.Common.{ap, ◌∙◌, length-set, ltb-true}
use Rattle.std.proofs.lemmas.List.{length-replicate, set-append_left}
use Rattle.reading.specs.declared.Values.{Values}
use Rattle.reading.specs.Result.{Refusable}
use Rattle.reading.specs.Asks.{Asks, give, ask, run, reads}
use Rattle.reading.specs.Marks.{mark_all}
use Rattle.reading.specs.After.{done}
use Rattle.case_file.specs.Field.{outside, cells_of, values_of}
use Rattle.job_room.specs.Room.{Lent}
use Rattle.job_promise.specs.Job.{job_of, outcome}
use Rattle.test_rooms.specs.Printed.{Printed, end_of, Known}

-- answer and cells in one pass
unfoldable pub ran : Asks (List ℕ) → (ℕ → Values) → Printed
ran (give a) f = record { words = a; cells = [] }
ran (ask i k) f = let r = ran (k (f i)) f in record { words = r.words; cells = i ∷ r.cells }

-- each number is below n
unfoldable pub below : ℕ → List ℕ → Bool
below n [] = true
below n (i ∷ l) = ltb i n && below n l

-- the words, the marks of the case's cells, and whether all cells that are marked are the case's
pub record Seen : Type 0 where
  pub words : List ℕ
  pub marks : List ℕ
  pub inside : Bool

-- what was told, as it is seen
unfoldable pub seen : ℕ → Printed → Bool → Seen
seen cells p inside = record { words = p.words; marks = mark_all (replicate cells 0) p.cells; inside = inside }

-- a job in one pass
unfoldable pub one_pass : ℕ → Refusable (Asks (List ℕ)) → (ℕ → Values) → Refusable Seen
one_pass cells (Err k) f = Err k
one_pass cells (Ok t) f = let r = ran t f in Ok (seen cells r (below cells r.cells))

-- what is to be seen
unfoldable pub due : ℕ → Refusable Printed → Refusable Seen
due cells (Err k) = Err k
due cells (Ok p) = Ok (seen cells p true)

-- the one pass gives what is told: this is computed
pub record Computes (file requests : List ℕ) (lent : Lent) (p : Refusable Printed) : Type 0 where
  pub pass : one_pass (cells_of file) (job_of (outside file) requests lent) (values_of file) ≡ due (cells_of file) p

-- ---- then the room is known

-- the pass has the answer
ran-words : (t : Asks (List ℕ)) (f : ℕ → Values) → run t f ≡ (ran t f).words
unfolding ran
ran-words (give a) f = refl
ran-words (ask i k) f = ran-words (k (f i)) f

-- the pass has the cells
ran-cells : (t : Asks (List ℕ)) (f : ℕ → Values) → reads t f ≡ (ran t f).cells
unfolding ran
ran-cells (give a) f = refl
ran-cells (ask i k) f = ap (λ (l : List ℕ). i ∷ l) (ran-cells (k (f i)) f)

-- both of two tests hold
both : (a b : Bool) → a && b ≡ true → (a ≡ true) × (b ≡ true)
both true b e = (refl, e)
both false b e = (cc, cc)

-- marks of the first cells leave the rest
marks-inside : (l m rest : List ℕ) → below (length m) l ≡ true → mark_all (m ++ rest) l ≡ mark_all m l ++ rest
unfolding below
marks-inside [] m rest e = refl
marks-inside (i ∷ l) m rest e =
    let h = both (ltb i (length m)) (below (length m) l) e in
    rw (set-append_left m rest i 1 (ltb-true i (length m) h.0))
    (marks-inside l (set m i 1) rest (ap (λ (n : ℕ). below n l) (length-set m i 1) ∙ h.1))

-- a job whose pass gives what is told ends as told
ends_so
    : (j : Refusable (Asks (List ℕ))) (f : ℕ → Values) (cells : ℕ) (p : Refusable Printed) (answers marks : List ℕ)
    → one_pass cells j f ≡ due cells p
    → done j f cells answers marks ≡ end_of p cells answers marks
unfolding done end_of one_pass due seen
ends_so (Err k) f cells (Err l) answers marks e = cc
ends_so (Err k) f cells (Ok p) answers marks e = cc
ends_so (Ok t) f cells (Err l) answers marks e = cc
ends_so (Ok t) f cells (Ok p) answers marks e =
    let s : seen cells (ran t f) (below cells (ran t f).cells) ≡ seen cells p true = cc in
    let w : (ran t f).words ≡ p.words = ap (λ (x : Seen). x.words) s in
    let b : mark_all (replicate cells 0) (ran t f).cells ≡ mark_all (replicate cells 0) p.cells = ap (λ (x : Seen). x.marks) s in
    let i : below cells (ran t f).cells ≡ true = ap (λ (x : Seen). x.inside) s in
    let m =
    marks-inside (ran t f).cells (replicate cells 0) (drop cells marks)
    (ap (λ (n : ℕ). below n (ran t f).cells) (length-replicate cells 0) ∙ i) in
    rw (ran-words t f, ran-cells t f, w, m, b)

-- a room that is computed is known
pub by-computing : {file requests : List ℕ} {lent : Lent} {p : Refusable Printed} → Computes file requests lent p → Known file requests lent p
unfolding outcome
by-computing {file} {requests} {lent} {p} e =
    record {
      ends =
          λ answers marks a m.
          rw (a, m) (ends_so (job_of (outside file) requests lent) (values_of file) (cells_of file) p answers marks e.pass);
    }

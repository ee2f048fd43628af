-- One answer after another. Assumes nothing.
use Prim.Native.Nat.{ℕ, suc, ◌+◌, ◌-◌, ◌*◌, ◌≤◌, ◌<◌}
use native.Mathlib.Omega.{arith}
use mathlib.Core.Path.{◌≡◌, refl, ap, sym, ◌∙◌}
use mathlib.Core.List.{List, [], ◌∷◌, ◌++◌, append_assoc, append-nil}
use lib.ListN.{length, get_or, take, drop, replicate, length-drop, drop_of_length-le}
use lib.Seq.{drop-cons, length-take-le}
use Rattle.reading.specs.declared.Values.{Values}
use Rattle.reading.specs.Asks.{Asks, give, run, reads}
use Rattle.reading.specs.Marks.{mark_all, cleared}
use Rattle.reading.specs.After.{done, Left}
use Rattle.reading.proofs.AsksLaws.{run_bind, reads-bind}
use Rattle.reading.proofs.MarksLaws.{mark_all-append, length-mark_all}
use Rattle.job_room.specs.Room.{Room}
use Rattle.answers.specs.Answer.{fitting, answer_words}
use Rattle.job_promise.specs.List.{reply_to, serve_all}
use Rattle.job_promise.specs.Ensures.{ServeAllExit, answer_to}
use Rattle.std.specs.Prelude.{Ok}

module _ (room : Room) (f : ℕ → Values) where
  -- the first answer and the rest
  pub run-all : (left : ℕ) (r : List ℕ) (rs : List (List ℕ)) →
      let w = run (answer_to room left (length rs) r) f in run (serve_all room left (r ∷ rs)) f ≡ w ++ run (serve_all room (left - length w) rs) f
  unfolding serve_all answer_to
  run-all left r rs =
      run_bind (reply_to room r) _ f
      ∙ run_bind (serve_all room (left - length (answer_words (fitting left (length rs) (run (reply_to room r) f)))) rs) _ f
      ∙ sym (ap (λ w. w ++ run (serve_all room (left - length w) rs) f) (run_bind (reply_to room r) (λ a. give (answer_words (fitting left (length rs) a))) f))

  pub reads_all : (left : ℕ) (r : List ℕ) (rs : List (List ℕ)) →
      let t = answer_to room left (length rs) r in reads (serve_all room left (r ∷ rs)) f ≡ reads t f ++ reads (serve_all room (left - length (run t f)) rs) f
  unfolding serve_all answer_to
  reads_all left r rs =
      let w = answer_words (fitting left (length rs) (run (reply_to room r) f)) in
      let rest = serve_all room (left - length w) rs in
      let first : reads (answer_to room left (length rs) r) f ≡ reads (reply_to room r) f = reads-bind (reply_to room r) (λ a. give (answer_words (fitting left (length rs) a))) f ∙ append-nil (reads (reply_to room r) f) in
      let words : run (answer_to room left (length rs) r) f ≡ w = run_bind (reply_to room r) (λ a. give (answer_words (fitting left (length rs) a))) f in
      reads-bind (reply_to room r) _ f
      ∙ ap (λ l. reads (reply_to room r) f ++ l) (reads-bind rest (λ ws. give (w ++ ws)) f ∙ append-nil (reads rest f))
      ∙ sym (ap (λ l. l ++ reads (serve_all room (left - length (run (answer_to room left (length rs) r) f)) rs) f) first ∙ ap (λ v. reads (reply_to room r) f ++ reads (serve_all room (left - length v) rs) f) words)

-- ---- in the middle of the list: i requests are answered, their words end at `at`

pub record Along (room : Room) (f : ℕ → Values) (m₀ : List ℕ) (len : ℕ) (reqs : List (List ℕ)) (i at : ℕ) (m o : List ℕ) : Type 0 where
  pub answer : run (serve_all room len reqs) f ≡ take at o ++ run (serve_all room (len - at) (drop i reqs)) f
  pub marks : mark_all m (reads (serve_all room (len - at) (drop i reqs)) f) ≡ mark_all m₀ (reads (serve_all room len reqs) f)
  pub fits : at + 2 * (length reqs - i) ≤ len
  pub below : i ≤ length reqs
  pub long : length o ≡ len
  pub marks-long : length m ≡ length m₀

module _ (room : Room) (f : ℕ → Values) (m₀ : List ℕ) (len : ℕ) (reqs : List (List ℕ)) where
  pub along-start : (o : List ℕ) → length o ≡ len → 2 * length reqs ≤ len → Along room f m₀ len reqs 0 0 m₀ o
  along-start o e h =
      let z : len - 0 ≡ len = omega arith in
      record {
        answer = ap (λ (k : ℕ). run (serve_all room k reqs) f) (sym z);
        marks = ap (λ (k : ℕ). mark_all m₀ (reads (serve_all room k reqs) f)) z;
        fits = omega arith;
        below = omega arith;
        long = e;
        marks-long = refl;
      }

  pub along-next : {i at later r : ℕ} {m m' o o' : List ℕ} → Along room f m₀ len reqs i at m o → i < length reqs → later ≡ length reqs - i - 1
      → ServeAllExit (answer_to room (length o - at) later (get_or reqs i [])) f m m' o o' at later r → Along room f m₀ len reqs (i + 1) r m' o'
  along-next {i} {at} {later} {r} {m} {m'} {o} {o'} a h l t =
      record {
        answer = a.answer ∙ ap (λ s. take at o ++ run (serve_all room (len - at) s) f) cons ∙ ap (λ s. take at o ++ s) (run-all room f (len - at) q rs) ∙ sym (append_assoc (take at o) w _)
            ∙ ap (λ s. s ++ run (serve_all room (len - at - length w) rs) f) (sym words) ∙ ap (λ (k : ℕ). take r o' ++ run (serve_all room k rs) f) left;
        marks = ap (λ s. mark_all s (reads (serve_all room (len - r) rs) f)) (t.marks ∙ ap (mark_all m) tree-reads)
            ∙ sym (mark_all-append m (reads first f) (reads (serve_all room (len - r) rs) f))
            ∙ ap (λ (k : ℕ). mark_all m (reads first f ++ reads (serve_all room k rs) f)) (sym left)
            ∙ ap (mark_all m) (sym (reads_all room f (len - at) q rs))
            ∙ ap (λ s. mark_all m (reads (serve_all room (len - at) s) f)) (sym cons)
            ∙ a.marks;
        fits = omega (arith, t.placed.room, a.long, l);
        below = omega arith;
        long = t.placed.long ∙ a.long;
        marks-long = ap length t.marks ∙ length-mark_all m (reads (answer_to room (length o - at) later q) f) ∙ a.marks-long;
      }
    where
      q : List ℕ
      q = get_or reqs i []

      rs : List (List ℕ)
      rs = drop (i + 1) reqs

      one : suc i ≡ i + 1
      one = omega arith

      cons : drop i reqs ≡ q ∷ rs
      cons = drop-cons reqs i [] h ∙ ap (λ (k : ℕ). q ∷ drop k reqs) one

      rest : length rs ≡ later
      rest = length-drop (i + 1) reqs ∙ (let e : length reqs - (i + 1) ≡ later = omega (arith, l) in e)

      first : Asks (List ℕ)
      first = answer_to room (len - at) (length rs) q

      w : List ℕ
      w = run first f

      tree : answer_to room (length o - at) later q ≡ first
      tree = ap (λ (k : ℕ). answer_to room (k - at) later q) a.long ∙ ap (λ (k : ℕ). answer_to room (len - at) k q) (sym rest)

      tree-reads : reads (answer_to room (length o - at) later q) f ≡ reads first f
      tree-reads = ap (λ s. reads s f) tree

      same : run (answer_to room (length o - at) later q) f ≡ w
      same = ap (λ s. run s f) tree

      words : take r o' ≡ take at o ++ w
      words = t.placed.words ∙ ap (λ s. take at o ++ s) same

      ends : r ≡ at + length w
      ends = t.placed.end ∙ ap (λ s. at + length s) same

      left : len - at - length w ≡ len - r
      left = omega (arith, ends)

  pub along-end : {i at : ℕ} {m o o₀ : List ℕ} → Along room f m₀ len reqs i at m o → length reqs ≤ i → length o₀ ≡ len → ServeAllExit (serve_all room len reqs) f m₀ m o₀ o 0 0 at
  unfolding serve_all
  along-end {i} {at} {m} {o} {o₀} a h e =
      let none : drop i reqs ≡ [] = drop_of_length-le reqs h in
      let over : run (serve_all room len reqs) f ≡ take at o = a.answer ∙ ap (λ s. take at o ++ run (serve_all room (len - at) s) f) none ∙ append-nil (take at o) in
      record {
        marks = ap (λ s. mark_all m (reads (serve_all room (len - at) s) f)) (sym none) ∙ a.marks;
        placed =
            record {
              words = sym over;
              end = omega (arith, ap length over ∙ length-take-le at o (omega (arith, a.fits, a.long)));
              room = omega (arith, a.fits);
              long = a.long ∙ sym e;
            };
      }

-- ---- the whole

pub done-is : (t : Asks (List ℕ)) (f : ℕ → Values) (cells r : ℕ) (m m' o o' o'' : List ℕ) → ServeAllExit t f (cleared cells m) m' o o' 0 0 r
    → o'' ≡ take r o' ++ replicate (length o' - r) 0 → Left (done (Ok t) f cells o m) 0 o'' m'
unfolding done
done-is t f cells r m m' o o' o'' t' e =
    let ends : length o' - r ≡ length o - length (run t f) = omega (arith, t'.placed.end, t'.placed.long) in
    record {
      same-result = refl;
      same-answers = e ∙ ap (λ (k : ℕ). take r o' ++ replicate k 0) ends ∙ ap (λ s. s ++ replicate (length o - length (run t f)) 0) t'.placed.words;
      same-marks = t'.marks;
    }

-- the same from the marks that were cleared
pub run_is : (t : Asks (List ℕ)) (f : ℕ → Values) (n cells r : ℕ) (m m₁ m' o o' o'' : List ℕ) → n ≡ cells → m₁ ≡ cleared n m → ServeAllExit t f m₁ m' o o' 0 0 r
    → o'' ≡ take r o' ++ replicate (length o' - r) 0 → Left (done (Ok t) f cells o m) 0 o'' m'
run_is t f n cells r m m₁ m' o o' o'' e c s z =
    let from : m₁ ≡ cleared cells m = c ∙ ap (λ (k : ℕ). cleared k m) e in
    done-is t f cells r m m' o o' o'' (rw from at s) z

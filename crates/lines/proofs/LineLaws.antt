-- A turn of a line's loop, over plain values: what is left to serve, and what was written. Assumes nothing.
use Prim.Native.Nat.{ℕ, suc, ◌+◌, ◌-◌, ◌≤◌, ◌<◌}
use native.Mathlib.Nat.{sub-zero}
use native.Mathlib.Omega.{arith}
use mathlib.Core.Path.{◌≡◌, refl, ap, sym, ◌∙◌, fun_ext}
use mathlib.Core.List.{List, [], ◌∷◌, ◌++◌, append_assoc, append-nil}
use lib.ListN.{length, set}
use lib.Seq.{sets}
use lib.Ieee.{Float}
use Rattle.arith.specs.F64.{◌⊕◌, ◌⊗◌, 0·0}
use Rattle.arith.specs.declared.Vec3.{Vec3}
use Rattle.reading.specs.declared.Values.{Values}
use Rattle.reading.specs.Asks.{Asks, give, run, reads, ◌>>=◌}
use Rattle.reading.specs.Marks.{mark_all}
use Rattle.reading.specs.Served.{Served}
use Rattle.reading.proofs.Going.{Going}
use Rattle.reading.proofs.AsksLaws.{bind_assoc, bind-give, run_bind, reads-bind}
use Rattle.reading.proofs.ServedLaws.{going_start, going-part, going_end}
use Rattle.arith.specs.Limits.{most_steps}
use Rattle.lines_words.specs.declared.Pen.{Pen}
use Rattle.lines_words.specs.Words.{line_words}
use Rattle.lines_words.specs.Pen.{next_word, words_along, pen_along}
use Rattle.lines_words.specs.Ensures.{PenEntry, PutPointExit}
use Rattle.lines_words.proofs.PenLaws.{after_kept, along-at, line-words, line-count, line-few}
use Rattle.lines_locate.specs.Field.{StreamlineField, staying}
use Rattle.lines_step.specs.declared.Step.{Step}
use Rattle.lines_step.specs.declared.Step.TheVariants.{Next, Ended}
use Rattle.lines_step.specs.declared.StreamlineOptions.{StreamlineOptions}
use Rattle.lines_step.specs.Step.{step}
use Rattle.lines.specs.declared.StreamlineSettings.{StreamlineSettings}
use Rattle.lines.specs.Line.{home_of, sign, signed_step, onward, line_from, points_after, line, line_answer}
use Rattle.lines.specs.Ensures.{PointsAfterExit, TraceExit}

pub give-then : {A B : Type 0} (a : A) (k : A → Asks B) → (give a >>= k) ≡ k a
unfolding ◌>>=◌
give-then a k = refl

module _ (F : StreamlineField) (o : StreamlineOptions) (h : Float) where
  -- what is left where the points of `done` were drawn: n more at most, from p
  abbrev pub left : List Vec3 → ℕ → Vec3 → Float → Asks (List Vec3)
  left done n p total = line_from F o h n p total >>= λ l. give (done ++ l)

  -- after a step
  abbrev after : List Vec3 → ℕ → Float → Step → Asks (List Vec3)
  after done n total Ended = give (done ++ [])
  after done n total (Next q segment) = left (done ++ q ∷ []) n q (total ⊕ segment)

  after-ended : (done : List Vec3) (n : ℕ) (total : Float) → (onward (line_from F o h n) total Ended >>= λ l. give (done ++ l)) ≡ give (done ++ [])
  unfolding onward ◌>>=◌
  after-ended done n total = refl

  after_next : (done : List Vec3) (n : ℕ) (total : Float) (q : Vec3) (segment : Float)
      → (onward (line_from F o h n) total (Next q segment) >>= λ l. give (done ++ l)) ≡ left (done ++ q ∷ []) n q (total ⊕ segment)
  unfolding onward
  after_next done n total q segment =
      bind_assoc (line_from F o h n q (total ⊕ segment)) _ _
      ∙ ap (λ k. line_from F o h n q (total ⊕ segment) >>= k) (fun_ext (λ l. same l))
    where
      same : (l : List Vec3) → (give (q ∷ l) >>= λ k. give (done ++ k)) ≡ give ((done ++ q ∷ []) ++ l)
      same l = give-then (q ∷ l) (λ k. give (done ++ k)) ∙ ap {B = Asks (List Vec3)} give (sym (append_assoc done (q ∷ []) l))

  left-suc : (done : List Vec3) (n : ℕ) (p : Vec3) (total : Float) → left done (suc n) p total ≡ step F o h p total >>= after done n total
  unfolding line_from
  left-suc done n p total = bind_assoc (step F o h p total) _ _ ∙ ap (λ r. step F o h p total >>= r) (fun_ext each)
    where
      each : (r : Step) → (onward (line_from F o h n) total r >>= λ l. give (done ++ l)) ≡ after done n total r
      each Ended = after-ended done n total
      each (Next q segment) = after_next done n total q segment

  module _ {w : Asks (List Vec3)} {f : ℕ → Values} {m₀ m : List ℕ} (done : List Vec3) (n k : ℕ) (p : Vec3) (total : Float) (below : k < n)
      (g : Going w f m₀ (left done (n - k) p total) m) where
    pub turned : {m' : List ℕ} {r : Step} → Served (step F o h p total) f m m' r → Going w f m₀ (after done (n - (k + 1)) total r) m'
    turned s =
        let e : n - k ≡ suc (n - (k + 1)) = omega arith in
        going-part (after done (n - (k + 1)) total) (rw (e, left-suc done (n - (k + 1)) p total) at g) s

  -- before the first step
  pub begun : {f : ℕ → Values} {m : List ℕ} (n : ℕ) (p : Vec3) (total : Float) → Going (line_from F o h n p total) f m (left [] (n - 0) p total) m
  begun {f} {m} n p total = rw (sub-zero, bind-give (line_from F o h n p total)) (going_start (line_from F o h n p total) f m)

  -- after the last one
  pub finished : {w : Asks (List Vec3)} {f : ℕ → Values} {m₀ m : List ℕ} (done : List Vec3) (n : ℕ) (p : Vec3) (total : Float) → n ≡ 0 →
      Going w f m₀ (left done n p total) m → Served w f m₀ m done
  unfolding line_from ◌>>=◌
  finished done n p total e g = going_end (rw append-nil at (rw e at g))

-- the line ends
pub ended : {w : Asks (List Vec3)} {f : ℕ → Values} {m₀ m : List ℕ} (done : List Vec3) → Going w f m₀ (give (done ++ [])) m → Served w f m₀ m done
ended done g = going_end (rw append-nil at g)

-- what a drawing promises, from what was served; x is the sign
pub drawn : (F : StreamlineField) (s : StreamlineSettings) (seed : Vec3) {x : Float} {f : ℕ → Values} {m₀ m o o' : List ℕ} {start r : Pen} {done : List Vec3} → x ≡ sign s.direction
    → Served (line_from F s.options (s.options.step_size ⊗ x) s.options.max_steps seed 0·0) f m₀ m done → o' ≡ sets o (next_word start) (words_along start done)
    → r ≡ pen_along start done → r.count ≤ most_steps + 1 → PointsAfterExit (points_after F s seed) f m₀ m start o o' r
unfolding points_after signed_step
drawn F s seed {o} {start} ex t wr e few =
    let u = rw ex at t in
    record {
      marks = u.marks;
      words = wr ∙ ap (λ l. sets o (next_word start) (words_along start l)) u.answer;
      pen = e ∙ ap (pen_along start) u.answer;
      few = few;
    }

-- ---- the words of a whole line

-- the pen stays at the line's words
pub pen-first : {start first : Pen} {seed : Vec3} {o o₁ : List ℕ} → PutPointExit start seed o o₁ first → start.at ≤ 16000000 → start.count ≡ 0 → (first.at ≤ 16000000) × (first.count ≤ 1)
pen-first {start} {seed = seed} t low none = let k = after_kept start seed in rw t.pen-after (omega (arith, k.at, low), omega (arith, k.few, none))

pub pen-last : {t : Asks (List Vec3)} {f : ℕ → Values} {m m' o₁ o₂ : List ℕ} {first pen : Pen} → PointsAfterExit t f m m' first o₁ o₂ pen → first.at ≤ 16000000 → PenEntry pen
pen-last {t} {f} {first} w low = record { low = rw (w.pen, along-at first (run t f)) low; few = w.few }

-- F for a line that stays in its seed's zone is G
pub traced : (F G : StreamlineField) (s : StreamlineSettings) (f : ℕ → Values) (m m' o o₁ o₂ o₃ : List ℕ) (start first pen : Pen) (r : ℕ) (seed : Vec3) → G ≡ staying (home_of F seed) F → start.count ≡ 0
    → PutPointExit start seed o o₁ first → PointsAfterExit (points_after G s seed) f m m' first o₁ o₂ pen → o₃ ≡ set o₂ pen.at pen.count → r ≡ next_word pen - pen.at
    → TraceExit (line_answer F start.style s seed) f m m' o o₃ start.at r × (r ≤ 196612)
traced F G s f m m' o o₁ o₂ o₃ start first pen r seed g none t v c n =
    let w = rw g at v in
    let stays : StreamlineField = staying (home_of F seed) F in
    let pts = run (points_after stays s seed) f in
    let answer : run (line_answer F start.style s seed) f ≡ line_words start.style (seed ∷ pts) =
    unfold line_answer line in run_bind (points_after stays s seed >>= λ l. give (seed ∷ l)) (λ l. give (line_words start.style l)) f ∙ ap (line_words start.style) (run_bind (points_after stays s seed) (λ l. give (seed ∷ l)) f) in
    let asked : reads (line_answer F start.style s seed) f ≡ reads (points_after stays s seed) f =
    unfold line_answer line in reads-bind (points_after stays s seed >>= λ l. give (seed ∷ l)) (λ l. give (line_words start.style l)) f ∙ append-nil _ ∙ reads-bind (points_after stays s seed) (λ l. give (seed ∷ l)) f ∙ append-nil _ in (
      record {
        marks = w.marks ∙ ap (mark_all m) (sym asked);
        words = line-words start seed pts o o₁ o₂ o₃ first pen r none t w.words w.pen c n ∙ ap (sets o start.at) (sym answer);
        count = line-count start seed pts o o₁ o₂ o₃ first pen r none t w.words w.pen c n ∙ ap length (sym answer);
      },
      line-few start seed pts o o₁ o₂ o₃ first pen r none t w.words w.pen c n w.few,
    )

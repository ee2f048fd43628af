-- From a line to the answer of a job: the refusals 34 and 35, the seeds of a rake and its lines. Assumes nothing.
use Prim.Native.Nat.{ℕ, suc, ◌+◌, ◌≤◌, ◌<◌}
use native.Mathlib.Omega.{arith}
use native.Mathlib.Numerals.{add-one}
use mathlib.Core.Path.{◌≡◌, refl, ap, sym, ◌∙◌, fun_ext}
use mathlib.Core.Bool.{Bool, true, false, not, true≢false}
use mathlib.Core.List.{List, [], ◌∷◌, ◌++◌, append_assoc, append-nil}
use lib.ListN.{length, set, get_or, drop}
use lib.Seq.{sets}
use Rattle.arith.specs.Lists.{any_of}
use Rattle.arith.proofs.RecordLaws.{length-tab, get_or-tab, drop-tab, drop-end}
use Rattle.arith.proofs.ListLaws.{any_here, any_next}
use Rattle.arith.specs.declared.Vec3.{Vec3}
use Rattle.reading.specs.declared.Values.{Values}
use Rattle.reading.specs.Asks.{Asks, give, run, reads, ◌>>=◌}
use Rattle.reading.specs.Marks.{mark_all}
use Rattle.reading.specs.Served.{Served}
use Rattle.reading.proofs.Going.{Going}
use Rattle.reading.proofs.AsksLaws.{bind_assoc, bind-give, run_bind, reads-bind}
use Rattle.reading.proofs.ServedLaws.{going_start, going-part, going_end}
use Rattle.reading.specs.Result as result
use Rattle.reading.specs.Result.{Refusable, refuse}
use Rattle.lines_locate.specs.Field.{StreamlineField}
use Rattle.lines_velocity.specs.Velocity.{locate_in}
use Rattle.answers.specs.Ensures.{length_of, decided, replied, Reply}
use Rattle.lines.specs.declared.StreamlineSettings.{StreamlineSettings}
use Rattle.lines.specs.declared.Rake.{Rake}
use Rattle.lines.specs.Line.{is_nowhere, nowhere, line_answer}
use Rattle.lines.specs.Rake.{seed_at, seeds, lines_words}
use Rattle.lines.specs.Ensures.{TraceExit}
use Rattle.answers.proofs.WordLaws.{sets-append, sets-set}
use Rattle.lines_words.specs.declared.Style.TheVariants.{Points}
use Rattle.lines.proofs.LineLaws.{give-then}
use Rattle.std.specs.Prelude.{Some, None, Ok, Err}
use Rattle.std.specs.declared.option.Option.{Option}
use Rattle.refusal.specs.declared.Refusal.{Refusal}
use Rattle.refusal.specs.declared.Refusal.TheVariants.{WrongOptions, SeedNowhere}

-- ---- a point that locates, or not

module _ (F : StreamlineField) (p : Vec3) (r : Option ℕ) (e : r ≡ locate_in F p) where
  pub nowhere-not : (i : ℕ) → r ≡ Some i → false ≡ nowhere F p
  unfolding nowhere is_nowhere
  nowhere-not i h = rw (sym e ∙ h)

  pub nowhere-so : r ≡ None → true ≡ nowhere F p
  unfolding nowhere is_nowhere
  nowhere-so h = rw (sym e ∙ h)

-- ---- the answer of a job

module _ {j : Refusable (Asks (List ℕ))} {f : ℕ → Values} {m o : List ℕ} where
  pub answered-refused : (k : Refusal) → j ≡ Err k → Reply (decided j) f o (Err k) o o m m
  unfolding length_of decided replied
  answered-refused k e = rw e (record { result = refl; answers = refl; marks = refl })

  pub answered-fine : {m' o' : List ℕ} {r : ℕ} (t : Asks (List ℕ)) → j ≡ Ok t → TraceExit t f m m' o o' 0 r → Reply (decided j) f o (Ok r) o o' m m'
  unfolding length_of decided replied
  answered-fine t e w =
      let told : Asks (Refusable (List ℕ)) = t >>= λ ws. give (Ok ws) in
      let answer : ◌≡◌ {A = Refusable (List ℕ)} (run told f) (Ok (run t f)) = run_bind t (λ ws. give (Ok ws)) f in
      let asked : reads told f ≡ reads t f = reads-bind t (λ ws. give (Ok ws)) f ∙ append-nil (reads t f) in
      rw e
      (record {
        result = rw answer (ap {B = Refusable ℕ} Ok w.count);
        answers = rw answer w.words;
        marks = w.marks ∙ ap (mark_all m) (sym asked);
      })

-- the two refusals, whatever follows
module _ {good : Bool} (lost : Bool) (t : Asks (List ℕ)) {a : Bool} (ea : a ≡ good) where
  pub not_good : a ≡ false → result.◌>>=◌ (refuse WrongOptions (not good)) (λ _. result.◌>>=◌ (refuse SeedNowhere lost) (λ _. Ok t)) ≡ Err WrongOptions
  unfolding refuse result.◌>>=◌
  not_good h = rw (sym ea ∙ h)

  module _ {b : Bool} (h : a ≡ true) (eb : b ≡ lost) where
    pub is_lost : b ≡ true → result.◌>>=◌ (refuse WrongOptions (not good)) (λ _. result.◌>>=◌ (refuse SeedNowhere lost) (λ _. Ok t)) ≡ Err SeedNowhere
    unfolding refuse result.◌>>=◌
    is_lost k = rw (sym ea ∙ h, sym eb ∙ k)

    pub is-fine : b ≡ false → result.◌>>=◌ (refuse WrongOptions (not good)) (λ _. result.◌>>=◌ (refuse SeedNowhere lost) (λ _. Ok t)) ≡ Ok t
    unfolding refuse result.◌>>=◌
    is-fine k = rw (sym ea ∙ h, sym eb ∙ k)

-- ---- the seeds of a rake
module _ (k : Rake) where
  length-seeds : length (seeds k) ≡ k.count
  unfolding seeds
  length-seeds = length-tab (seed_at k) k.count

  seeds-at : (i : ℕ) → i < k.count → drop i (seeds k) ≡ seed_at k i ∷ drop (i + 1) (seeds k)
  unfolding seeds
  seeds-at i h = drop-tab (seed_at k) k.count i h

  seeds-end : (i : ℕ) → k.count ≤ i → drop i (seeds k) ≡ []
  seeds-end i h = drop-end (seeds k) i (rw length-seeds h)

  seed-here : (i : ℕ) → i < k.count → get_or (seeds k) i k.start ≡ seed_at k i
  unfolding seeds
  seed-here i h = get_or-tab (seed_at k) k.count i k.start h

  module _ (F : StreamlineField) (i : ℕ) (r : Bool) (inv : any_of (nowhere F) (drop i (seeds k)) ≡ r) where
    pub seed-lost : (t : Bool) (p : Vec3) → i < k.count → p ≡ seed_at k i → t ≡ nowhere F p → t ≡ true → true ≡ r
    seed-lost t p h ep e w =
        let in-range : i < length (seeds k) = rw length-seeds h in
        sym (any_here (seeds k) i k.start in-range (nowhere F) (rw (seed-here i h, ← ep) (sym e ∙ w))) ∙ inv

    pub seed-found : (t : Bool) (p : Vec3) → i < k.count → p ≡ seed_at k i → t ≡ nowhere F p → t ≡ false → any_of (nowhere F) (drop (i + 1) (seeds k)) ≡ r
    seed-found t p h ep e w =
        let in-range : i < length (seeds k) = rw length-seeds h in
        sym (any_next (seeds k) i k.start in-range (nowhere F) (rw (seed-here i h, ← ep) (sym e ∙ w))) ∙ inv

    pub all_found : k.count ≤ i → false ≡ r
    unfolding any_of
    all_found h = rw (seeds-end i h) at inv

-- where every seed from i on locates, seed i does
pub seed-locates : (k : Rake) (F : StreamlineField) (i : ℕ) (p : Vec3) → any_of (nowhere F) (drop i (seeds k)) ≡ false → i < k.count → p ≡ seed_at k i
    → (nowhere F p ≡ false) × (any_of (nowhere F) (drop (i + 1) (seeds k)) ≡ false)
seed-locates k F i p e h ep = by (nowhere F p) refl
  where
    by : (b : Bool) → nowhere F p ≡ b → (nowhere F p ≡ false) × (any_of (nowhere F) (drop (i + 1) (seeds k)) ≡ false)
    by true w = absurd (true≢false (seed-lost k F i false e true p h ep (sym w) refl))
    by false w = (w, seed-found k F i false e false p h ep (sym w) refl)

-- ---- line after line

module _ (F : StreamlineField) (s : StreamlineSettings) where
  -- what is left where the words of `done` were written
  abbrev pub left : List ℕ → List Vec3 → Asks (List ℕ)
  left done ps = lines_words F s ps >>= λ ws. give (done ++ ws)

  left-next : (done : List ℕ) (p : Vec3) (ps : List Vec3) → left done (p ∷ ps) ≡ line_answer F Points s p >>= λ l. left (done ++ l) ps
  unfolding lines_words
  left-next done p ps =
      bind_assoc (line_answer F Points s p) _ _ ∙ ap (λ r. line_answer F Points s p >>= r) (fun_ext each)
    where
      same : (l ws : List ℕ) → (give (l ++ ws) >>= λ k. give (done ++ k)) ≡ give ((done ++ l) ++ ws)
      same l ws = give-then (l ++ ws) (λ k. give (done ++ k)) ∙ ap {B = Asks (List ℕ)} give (sym (append_assoc done l ws))

      each : (l : List ℕ) → ((lines_words F s ps >>= λ ws. give (l ++ ws)) >>= λ k. give (done ++ k)) ≡ left (done ++ l) ps
      each l = bind_assoc (lines_words F s ps) _ _ ∙ ap (λ r. lines_words F s ps >>= r) (fun_ext (same l))

  pub lines-begun : {f : ℕ → Values} {m : List ℕ} (ps : List Vec3) → Going (lines_words F s ps) f m (left [] ps) m
  lines-begun {f} {m} ps = rw (bind-give (lines_words F s ps)) (going_start (lines_words F s ps) f m)

  module _ {w : Asks (List ℕ)} {f : ℕ → Values} {m₀ m : List ℕ} (k : Rake) (done : List ℕ) (i : ℕ)
      (g : Going w f m₀ (left done (drop i (seeds k))) m) where
    pub lines-turned : {m' b b' : List ℕ} {at r : ℕ} (p : Vec3) → i < k.count → p ≡ seed_at k i → TraceExit (line_answer F Points s p) f m m' b b' at r
        → Going w f m₀ (left (done ++ run (line_answer F Points s p) f) (drop (i + 1) (seeds k))) m'
    lines-turned p h e t =
        going-part (λ l. left (done ++ l) (drop (i + 1) (seeds k)))
        (rw (seeds-at k i h, ← e, left-next done p (drop (i + 1) (seeds k))) at g) (record { answer = refl; marks = t.marks })

    pub lines-ended : k.count ≤ i → Served w f m₀ m done
    unfolding lines_words ◌>>=◌
    lines-ended h = going_end (rw append-nil at (rw (seeds-end k i h) at g))

pub lines-written : {w : Asks (List ℕ)} {f : ℕ → Values} {m₀ m o o' : List ℕ} {at n : ℕ} {done : List ℕ} →
    Served w f m₀ m done → o' ≡ sets o at done → n ≡ length done → TraceExit w f m₀ m o o' at n
lines-written {o} {at} s wr e = record { marks = s.marks; words = wr ∙ ap (λ l. sets o at l) s.answer; count = e ∙ ap length s.answer }

-- the words of one more line
abbrev pub written-words : {t : Asks (List ℕ)} {f : ℕ → Values} {m m' o o' : List ℕ} {at r : ℕ} → TraceExit t f m m' o o' at r → List ℕ
written-words {t} {f} w = run t f

pub words_more : {t : Asks (List ℕ)} {f : ℕ → Values} {m m' : List ℕ} (o o' o'' done : List ℕ) (n r : ℕ) → n ≡ length done → o' ≡ sets o 1 done
    → TraceExit t f m m' o' o'' (n + 1) r → o'' ≡ sets o 1 (done ++ run t f)
words_more {t} {f} o o' o'' done n r e h w =
    let at : n + 1 ≡ 1 + length done = omega arith in
    w.words ∙ rw (h, at) (sym (sets-append o 1 done (run t f)))

-- the count before them
pub rake-written : (t : Asks (List ℕ)) {f : ℕ → Values} {m m' : List ℕ} (o o' o'' : List ℕ) (count r : ℕ) → TraceExit t f m m' o o' 1 r → o'' ≡ set o' 0 count
    → TraceExit (t >>= λ ws. give (count ∷ ws)) f m m' o o'' 0 (r + 1)
rake-written t {f} {m} o o' o'' count r w e =
    let answer : run (t >>= λ ws. give (count ∷ ws)) f ≡ count ∷ run t f = run_bind t (λ ws. give (count ∷ ws)) f in
    let asked : reads (t >>= λ ws. give (count ∷ ws)) f ≡ reads t f = reads-bind t (λ ws. give (count ∷ ws)) f ∙ append-nil _ in
    record {
      marks = w.marks ∙ ap (mark_all m) (sym asked);
      words = e ∙ ap (λ l. set l 0 count) w.words ∙ rw answer (sets-set (run t f) o 0 1 count (omega arith));
      count = rw answer (add-one r ∙ ap suc w.count);
    }

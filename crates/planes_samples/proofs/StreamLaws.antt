-- The stream of samples, part by part, and that it is what the tree reads and answers. Assumes nothing.
use Prim.Native.Nat.{ℕ}
use mathlib.Core.Path.{◌≡◌, refl, ap, sym, ◌∙◌}
use mathlib.Core.Bool.{Bool, true, false}
use mathlib.Core.List.{List, [], ◌∷◌, ◌++◌, append-nil}
use native.Mathlib.Omega.{arith}
use lib.ListN.{set}
use Rattle.arith.specs.Lists.{fold}
use Rattle.reading.specs.declared.Values.{Values}
use Rattle.reading.specs.Result.{Refusable, refuse, ◌>>=◌}
use Rattle.reading.specs.Asks.{give, run, reads}
use Rattle.reading.specs.Marks.{mark_all}
use Rattle.reading.proofs.AsksLaws.{run_bind, reads-bind}
use Rattle.planes_cut.specs.declared.Cut.{Cut}
use Rattle.planes_sections.specs.Intersect.{PlaneCell}
use Rattle.planes_sums.specs.Sample.{Sample, has_finite_values}
use Rattle.planes_samples.specs.Sampling.{Taken, before, onward, taken, complete, sample}
use Rattle.planes_samples.specs.Ensures.{Stream, written_all, stream}
use Rattle.planes_sums.specs.Kept.{SampleSums, add_to, written}
use Rattle.std.specs.Prelude.{Ok, Err}
use Rattle.refusal.specs.declared.Refusal.TheVariants.{SampleNotFinite}

module _ (c : Cut) (f : ℕ → Values) where
  abbrev pub at : PlaneCell → Sample
  at p = record { geometry = p; values = f p.cell }

  taken-sound : (p : PlaneCell) (ps : List PlaneCell) → has_finite_values (f p.cell) ≡ true → run (taken (p ∷ ps)) f ≡ before (at p) (run (taken ps) f)
  unfolding taken onward
  taken-sound p ps h = ap (λ (b : Bool). run (onward b (at p) (taken ps)) f) h ∙ run_bind (taken ps) (λ t. give (before (at p) t)) f

  reads-sound : (p : PlaneCell) (ps : List PlaneCell) → has_finite_values (f p.cell) ≡ true → reads (taken (p ∷ ps)) f ≡ p.cell ∷ reads (taken ps) f
  unfolding taken onward
  reads-sound p ps h =
      ap (λ (b : Bool). p.cell ∷ reads (onward b (at p) (taken ps)) f) h
      ∙ ap (λ (l : List ℕ). p.cell ∷ l) (reads-bind (taken ps) (λ t. give (before (at p) t)) f ∙ append-nil (reads (taken ps) f))

  taken-bad : (p : PlaneCell) (ps : List PlaneCell) → has_finite_values (f p.cell) ≡ false → run (taken (p ∷ ps)) f ≡ record { samples = []; bad = true }
  unfolding taken onward
  taken-bad p ps h = ap (λ (b : Bool). run (onward b (at p) (taken ps)) f) h

  reads-bad : (p : PlaneCell) (ps : List PlaneCell) → has_finite_values (f p.cell) ≡ false → reads (taken (p ∷ ps)) f ≡ p.cell ∷ []
  unfolding taken onward
  reads-bad p ps h = ap (λ (b : Bool). p.cell ∷ reads (onward b (at p) (taken ps)) f) h

  -- the stream of samples that were taken, from cells that were read
  abbrev after : Taken → List ℕ → SampleSums → List ℕ → List ℕ → Stream
  after k cells t o m =
      record { outcome = complete k >>= λ ss. Ok (fold (add_to c) t ss); answers = written_all c t o k.samples; marks = mark_all m cells }

  stream-as : (l : List PlaneCell) (t : SampleSums) (o m : List ℕ) (k : Taken) (cells : List ℕ) → run (taken l) f ≡ k → reads (taken l) f ≡ cells → stream c f l t o m ≡ after k cells t o m
  unfolding stream
  stream-as l t o m k cells ek ec = rw (ek, ec)

  kept_more : (b : Bool) (s : Sample) (ss : List Sample) (t : SampleSums)
      → (complete (record { samples = s ∷ ss; bad = b }) >>= λ l. Ok (fold (add_to c) t l)) ≡ (complete (record { samples = ss; bad = b }) >>= λ l. Ok (fold (add_to c) (add_to c t s) l))
  unfolding complete refuse ◌>>=◌ fold
  kept_more true s ss t = refl
  kept_more false s ss t = refl

  after_more : (k : Taken) (i : ℕ) (cells : List ℕ) (s : Sample) (t : SampleSums) (o m : List ℕ) → after (before s k) (i ∷ cells) t o m ≡ after k cells (add_to c t s) (written t o s) (set m i 1)
  unfolding before written_all
  after_more k i cells s t o m =
      ap (λ (r : Refusable SampleSums). record { outcome = r; answers = written_all c (add_to c t s) (written t o s) k.samples; marks = mark_all (set m i 1) cells }) (kept_more k.bad s k.samples t)

  pub stream-nil : (t : SampleSums) (o m : List ℕ) → stream c f [] t o m ≡ record { outcome = Ok t; answers = o; marks = m }
  unfolding stream taken complete refuse ◌>>=◌ fold written_all
  stream-nil t o m = refl

  pub stream-sound : (p : PlaneCell) (ps : List PlaneCell) (t : SampleSums) (o m : List ℕ) → has_finite_values (f p.cell) ≡ true →
      stream c f (p ∷ ps) t o m ≡ stream c f ps (add_to c t (at p)) (written t o (at p)) (set m p.cell 1)
  stream-sound p ps t o m e =
      stream-as (p ∷ ps) t o m _ _ (taken-sound p ps e) (reads-sound p ps e)
      ∙ after_more (run (taken ps) f) p.cell (reads (taken ps) f) (at p) t o m
      ∙ sym (stream-as ps (add_to c t (at p)) (written t o (at p)) (set m p.cell 1) _ _ refl refl)

  pub stream-bad : (p : PlaneCell) (ps : List PlaneCell) (t : SampleSums) (o m : List ℕ) → has_finite_values (f p.cell) ≡ false →
      stream c f (p ∷ ps) t o m ≡ record { outcome = Err SampleNotFinite; answers = o; marks = set m p.cell 1 }
  unfolding complete refuse ◌>>=◌ written_all
  stream-bad p ps t o m e = stream-as (p ∷ ps) t o m _ _ (taken-bad p ps e) (reads-bad p ps e)

  -- a part was sampled: the rest goes on from there
  pub stream-then : (l k : List PlaneCell) (t t' : SampleSums) (o o' m m' : List ℕ) → stream c f l t o m ≡ record { outcome = Ok t'; answers = o'; marks = m' } →
      stream c f (l ++ k) t o m ≡ stream c f k t' o' m'
  stream-then [] k t t' o o' m m' e =
      let w = sym (stream-nil t o m) ∙ e in
      let d : ◌≡◌ {A = Refusable SampleSums} (Ok t) (Ok t') = ap (λ (s : Stream). s.outcome) w in
      let a : t ≡ t' = cc in
      rw (a, ap (λ (s : Stream). s.answers) w, ap (λ (s : Stream). s.marks) w)
  stream-then (p ∷ l) k t t' o o' m m' e = by (stream-then l k (add_to c t (at p)) t' (written t o (at p)) o' (set m p.cell 1) m') (has_finite_values (f p.cell)) refl
    where
      by : (stream c f l (add_to c t (at p)) (written t o (at p)) (set m p.cell 1) ≡ record { outcome = Ok t'; answers = o'; marks = m' } →
          stream c f (l ++ k) (add_to c t (at p)) (written t o (at p)) (set m p.cell 1) ≡ stream c f k t' o' m') → (b : Bool) → has_finite_values (f p.cell) ≡ b → stream c f (p ∷ (l ++ k)) t o m ≡ stream c f k t' o' m'
      by rest true h = stream-sound p (l ++ k) t o m h ∙ rest (sym (stream-sound p l t o m h) ∙ e)
      by rest false h = absurd (let d : ◌≡◌ {A = Refusable SampleSums} (Err SampleNotFinite) (Ok t') = ap (λ (s : Stream). s.outcome) (sym (stream-bad p l t o m h) ∙ e) in let z : ◌≡◌ {A = ℕ} 0 1 = cc in omega arith)

  -- it ended in it
  pub stream-stop : (l k : List PlaneCell) (t : SampleSums) (o o' m m' : List ℕ) → stream c f l t o m ≡ record { outcome = Err SampleNotFinite; answers = o'; marks = m' } →
      stream c f (l ++ k) t o m ≡ record { outcome = Err SampleNotFinite; answers = o'; marks = m' }
  stream-stop [] k t o o' m m' e = absurd (let d : ◌≡◌ {A = Refusable SampleSums} (Ok t) (Err SampleNotFinite) = ap (λ (s : Stream). s.outcome) (sym (stream-nil t o m) ∙ e) in let z : ◌≡◌ {A = ℕ} 0 1 = cc in omega arith)
  stream-stop (p ∷ l) k t o o' m m' e = by (stream-stop l k (add_to c t (at p)) (written t o (at p)) o' (set m p.cell 1) m') (has_finite_values (f p.cell)) refl
    where
      by : (stream c f l (add_to c t (at p)) (written t o (at p)) (set m p.cell 1) ≡ record { outcome = Err SampleNotFinite; answers = o'; marks = m' } →
          stream c f (l ++ k) (add_to c t (at p)) (written t o (at p)) (set m p.cell 1) ≡ record { outcome = Err SampleNotFinite; answers = o'; marks = m' }) → (b : Bool) → has_finite_values (f p.cell) ≡ b → stream c f (p ∷ (l ++ k)) t o m ≡ record { outcome = Err SampleNotFinite; answers = o'; marks = m' }
      by rest true h = stream-sound p (l ++ k) t o m h ∙ rest (sym (stream-sound p l t o m h) ∙ e)
      by rest false h = stream-bad p (l ++ k) t o m h ∙ sym (stream-bad p l t o m h) ∙ e

  -- the marks are those of the tree
  pub stream-marks : (l : List PlaneCell) (t : SampleSums) (o m : List ℕ) → (stream c f l t o m).marks ≡ mark_all m (reads (sample l) f)
  unfolding stream sample
  stream-marks l t o m = ap (mark_all m) (sym (reads-bind (taken l) (λ k. give (complete k)) f ∙ append-nil (reads (taken l) f)))

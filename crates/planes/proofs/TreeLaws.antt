-- What the stream of samples leaves, against the trees. Assumes nothing.
use Prim.Native.Nat.{ℕ}
use mathlib.Core.Path.{◌≡◌, refl, ap, sym, ◌∙◌}
use mathlib.Core.Logic.{◌⊎◌, inl, inr}
use mathlib.Core.Bool.{Bool, true, false, cond}
use mathlib.Core.List.{List, [], ◌∷◌, append-nil}
use lib.ListN.{length}
use lib.Seq.{sets}
use Rattle.arith.specs.Lists.{fold}
use Rattle.arith.specs.declared.Vec2.{Vec2}
use Rattle.arith.specs.declared.Vec3.{Vec3}
use Rattle.reading.specs.declared.Values.{Values}
use Rattle.reading.specs.Result as result
use Rattle.reading.specs.Result.{Refusable, refuse, steps}
use Rattle.reading.specs.Asks.{give, run, reads}
use Rattle.reading.specs.Marks.{mark_all}
use Rattle.reading.proofs.AsksLaws.{run_bind, reads-bind}
use Rattle.mesh_area.specs.Tables.{Mesh}
use Rattle.planes_cut.specs.declared.Cut.{Cut}
use Rattle.planes_cut.specs.declared.Plane.{Plane}
use Rattle.planes_cut.specs.Cut.{cut_of}
use Rattle.planes_sections.specs.Intersect.{PlaneCell, intersect}
use Rattle.planes_cut.specs.Plane.{normal_of}
use Rattle.answers.specs.Ensures.{length_of, words_of, replied, Reply}
use Rattle.planes_sums.specs.declared.Sums.{Sums}
use Rattle.planes_sums.specs.declared.Integral.{Integral}
use Rattle.planes_sums.specs.Sample.{Sample}
use Rattle.planes_samples.specs.Sampling.{Taken, taken, complete, sample}
use Rattle.planes_sums.specs.Statistics.{no_sums, add_sample, statistics}
use Rattle.planes_sums.specs.Integrals.{add_integral, no_integral, integrals}
use Rattle.planes.specs.Answers.{sampled, integrals_of, statistics_of, probe_of, probe_words}
use Rattle.answers.specs.Words.{values_words, vec_words}
use Rattle.planes_samples.specs.Ensures.{accumulated_of, written_all, stream, SampleAllExit}
use Rattle.planes_sums.specs.Kept.{SampleSums, of_section, of_statistics, of_integrals, of_probe, add_to, written, add_probed}
use Rattle.planes.specs.Ensures.{missing, statistics_end, integrals_end, ended, last_words, FinishExit}
use Rattle.planes_sums.specs.Probe.{project, covers, first_over, off_plane, probe}
use Rattle.planes_samples.proofs.StreamLaws.{stream-marks}
use Rattle.std.specs.Prelude.{Some, None, Ok, Err}
use Rattle.std.specs.declared.option.Option.{Option}
use Rattle.refusal.specs.declared.Refusal.TheVariants.{SampleNotFinite}
use Rattle.planes_sums.specs.declared.Accumulator.{Accumulator}

-- ---- the outcome: a bad sample, or all samples kept

-- the samples before the first bad one
abbrev pub goods : (ℕ → Values) → List PlaneCell → List Sample
goods f l = (run (taken l) f).samples

complete-bad : (k : Taken) → k.bad ≡ true → complete k ≡ Err SampleNotFinite
unfolding complete refuse result.◌>>=◌
complete-bad k h = rw h

complete-good : (k : Taken) → k.bad ≡ false → complete k ≡ Ok k.samples
unfolding complete refuse result.◌>>=◌
complete-good k h = rw h

module _ (c : Cut) (f : ℕ → Values) where
  pub record BadRun (l : List PlaneCell) (t : SampleSums) (o m : List ℕ) : Type 0 where
    pub outcome : (stream c f l t o m).outcome ≡ Err SampleNotFinite
    pub tree : run (sample l) f ≡ Err SampleNotFinite

  pub record GoodRun (l : List PlaneCell) (t : SampleSums) (o m : List ℕ) : Type 0 where
    pub outcome : (stream c f l t o m).outcome ≡ Ok (fold (add_to c) t (goods f l))
    pub tree : run (sample l) f ≡ Ok (goods f l)

  run-sample : (l : List PlaneCell) → run (sample l) f ≡ complete (run (taken l) f)
  unfolding sample
  run-sample l = run_bind (taken l) (λ t. give (complete t)) f

  pub stream-run : (l : List PlaneCell) (t : SampleSums) (o m : List ℕ) → BadRun l t o m ⊎ GoodRun l t o m
  unfolding stream result.◌>>=◌
  stream-run l t o m = by (run (taken l) f).bad refl
    where
      by : (b : Bool) → (run (taken l) f).bad ≡ b → BadRun l t o m ⊎ GoodRun l t o m
      by true h =
          let e = complete-bad (run (taken l) f) h in
          inl (record { outcome = rw e; tree = run-sample l ∙ e })
      by false h =
          let e = complete-good (run (taken l) f) h in
          inr (record { outcome = rw e; tree = run-sample l ∙ e })

-- ---- codes 6 to 8 write nothing while they read

abbrev pub Quiet : SampleSums → Type 0
Quiet (of_section p at) = ⊥
Quiet (of_statistics field r) = Unit
Quiet (of_integrals r) = Unit
Quiet (of_probe q r) = Unit

quiet-added : (c : Cut) (t : SampleSums) (s : Sample) → Quiet t → Quiet (add_to c t s)
unfolding add_to
quiet-added c (of_section p at) s q = absurd q
quiet-added c (of_statistics field r) s q = tt
quiet-added c (of_integrals r) s q = tt
quiet-added c (of_probe q r) s w = tt

quiet-written : (t : SampleSums) (o : List ℕ) (s : Sample) → Quiet t → written t o s ≡ o
unfolding written
quiet-written (of_section p at) o s q = absurd q
quiet-written (of_statistics field r) o s q = refl
quiet-written (of_integrals r) o s q = refl
quiet-written (of_probe q r) o s w = refl

quiet_all : (c : Cut) (t : SampleSums) (o : List ℕ) (ss : List Sample) → Quiet t → written_all c t o ss ≡ o
unfolding written_all
quiet_all c t o [] q = refl
quiet_all c t o (s ∷ ss) q = quiet_all c (add_to c t s) (written t o s) ss (quiet-added c t s q) ∙ quiet-written t o s q

pub stream-quiet : (c : Cut) (f : ℕ → Values) (l : List PlaneCell) (t : SampleSums) (o m : List ℕ) → Quiet t → (stream c f l t o m).answers ≡ o
unfolding stream
stream-quiet c f l t o m q = quiet_all c t o (goods f l) q

-- ---- the answer of a quiet code

module _ (mesh : Mesh) (plane : Plane) (answer : List Sample → Refusable (List ℕ)) (f : ℕ → Values) where
  pub run-sampled : run (sampled mesh plane answer) f ≡ result.◌>>=◌ (run (sample (intersect mesh plane)) f) answer
  unfolding sampled
  run-sampled = run_bind (sample (intersect mesh plane)) (λ r. give (result.◌>>=◌ r answer)) f

  pub reads-sampled : reads (sampled mesh plane answer) f ≡ reads (sample (intersect mesh plane)) f
  unfolding sampled
  reads-sampled = reads-bind (sample (intersect mesh plane)) (λ r. give (result.◌>>=◌ r answer)) f ∙ append-nil _

  -- what is kept of the samples gives the answer
  pub record Gives (r : Refusable SampleSums) (ss : List Sample) : Type 0 where
    pub result : ended r ≡ length_of (answer ss)
    pub words : last_words r ≡ words_of (answer ss)

  replied-words : (o : List ℕ) (e : Refusable (List ℕ)) → sets o 0 (words_of e) ≡ replied o o e
  unfolding words_of replied
  replied-words o (Err n) = refl
  replied-words o (Ok ws) = refl

  pub reply : (c : Cut) (t : SampleSums) (o o₁ o₂ m m₁ : List ℕ) (r : Option Accumulator) (a : Refusable ℕ) (keep : Refusable SampleSums → Refusable SampleSums) → Quiet t → keep (Err SampleNotFinite) ≡ Err SampleNotFinite →
      ((ss : List Sample) → Gives (keep (Ok (fold (add_to c) t ss))) ss) →
      SampleAllExit (stream c f (intersect mesh plane) t o m) r o₁ m₁ → FinishExit (keep (accumulated_of r)) a o₁ o₂ → Reply (sampled mesh plane answer) f o a o o₂ m m₁
  reply c t o o₁ o₂ m m₁ r a keep q kb gives s d = by (stream-run c f l t o m)
    where
      l : List PlaneCell
      l = intersect mesh plane

      still : o₁ ≡ o
      still = s.answers ∙ stream-quiet c f l t o m q

      marked : m₁ ≡ mark_all m (reads (sampled mesh plane answer) f)
      marked = s.marks ∙ stream-marks c f l t o m ∙ ap (mark_all m) (sym reads-sampled)

      by : BadRun c f l t o m ⊎ GoodRun c f l t o m → Reply (sampled mesh plane answer) f o a o o₂ m m₁
      by (inl b) =
          let e : run (sampled mesh plane answer) f ≡ Err SampleNotFinite = run-sampled ∙ rw b.tree (unfold result.◌>>=◌ in refl) in
          let k : keep (accumulated_of r) ≡ Err SampleNotFinite = ap keep (s.outcome ∙ b.outcome) ∙ kb in
          record {
            result = d.result ∙ rw (k, e) (unfold ended length_of in refl);
            answers = d.answers ∙ rw (k, e, still) (unfold last_words replied in refl);
            marks = marked;
          }
      by (inr g) =
          let e : run (sampled mesh plane answer) f ≡ answer (goods f l) = run-sampled ∙ rw g.tree (unfold result.◌>>=◌ in refl) in
          let k : keep (accumulated_of r) ≡ keep (Ok (fold (add_to c) t (goods f l))) = ap keep (s.outcome ∙ g.outcome) in
          let w = gives (goods f l) in
          record {
            result = d.result ∙ rw (k, e) w.result;
            answers = d.answers ∙ rw (k, e, still, w.words) (replied-words o (answer (goods f l)));
            marks = marked;
          }

-- ---- sums: a refusal stays, as in `steps`

module _ (c : Cut) where
  fold-integrals : (r : Refusable Integral) (ss : List Sample) →
      fold (add_to c) (of_integrals r) ss ≡ of_integrals (result.◌>>=◌ r (λ t. steps (add_integral c.normal) t ss))
  unfolding fold add_to steps result.◌>>=◌
  fold-integrals (Ok t) [] = refl
  fold-integrals (Ok t) (s ∷ ss) = fold-integrals (add_integral c.normal t s) ss
  fold-integrals (Err n) [] = refl
  fold-integrals (Err n) (s ∷ ss) = fold-integrals (Err n) ss

  fold-statistics : (field : ℕ) (r : Refusable Sums) (ss : List Sample) →
      fold (add_to c) (of_statistics field r) ss ≡ of_statistics field (result.◌>>=◌ r (λ t. steps (add_sample c.normal field) t ss))
  unfolding fold add_to steps result.◌>>=◌
  fold-statistics field (Ok t) [] = refl
  fold-statistics field (Ok t) (s ∷ ss) = fold-statistics field (add_sample c.normal field t s) ss
  fold-statistics field (Err n) [] = refl
  fold-statistics field (Err n) (s ∷ ss) = fold-statistics field (Err n) ss

  pub integrals-give : (mesh : Mesh) (plane : Plane) (f : ℕ → Values) (ss : List Sample) →
      Gives mesh plane (integrals c.normal) f (Ok (fold (add_to c) (of_integrals (Ok no_integral)) ss)) ss
  unfolding ended last_words integrals_end integrals result.◌>>=◌
  integrals-give mesh plane f ss =
      record {
        result = ap (λ (t : SampleSums). ended (Ok t)) (fold-integrals (Ok no_integral) ss);
        words = ap (λ (t : SampleSums). last_words (Ok t)) (fold-integrals (Ok no_integral) ss);
      }

  pub statistics-give : (field : ℕ) (mesh : Mesh) (plane : Plane) (f : ℕ → Values) (ss : List Sample) →
      Gives mesh plane (statistics c.normal field) f (Ok (fold (add_to c) (of_statistics field (Ok no_sums)) ss)) ss
  unfolding ended last_words statistics_end statistics result.◌>>=◌
  statistics-give field mesh plane f ss =
      record {
        result = ap (λ (t : SampleSums). ended (Ok t)) (fold-statistics field (Ok no_sums) ss);
        words = ap (λ (t : SampleSums). last_words (Ok t)) (fold-statistics field (Ok no_sums) ss);
      }

pub integrals-reply : (mesh : Mesh) (plane : Plane) (f : ℕ → Values) (ps : List Vec3) (o o₁ o₂ m m₁ : List ℕ) (r : Option Accumulator) (a : Refusable ℕ) →
    SampleAllExit (stream (cut_of ps plane) f (intersect mesh plane) (of_integrals (Ok no_integral)) o m) r o₁ m₁ → FinishExit (accumulated_of r) a o₁ o₂ → Reply (integrals_of mesh plane) f o a o o₂ m m₁
unfolding integrals_of cut_of
integrals-reply mesh plane f ps o o₁ o₂ m m₁ r a s d =
    reply mesh plane (integrals (normal_of plane)) f (cut_of ps plane) (of_integrals (Ok no_integral)) o o₁ o₂ m m₁ r a (λ x. x) tt refl (integrals-give (cut_of ps plane) mesh plane f) s d

pub statistics-reply : (field : ℕ) (mesh : Mesh) (plane : Plane) (f : ℕ → Values) (ps : List Vec3) (o o₁ o₂ m m₁ : List ℕ) (r : Option Accumulator) (a : Refusable ℕ) →
    SampleAllExit (stream (cut_of ps plane) f (intersect mesh plane) (of_statistics field (Ok no_sums)) o m) r o₁ m₁ → FinishExit (accumulated_of r) a o₁ o₂ → Reply (statistics_of mesh plane field) f o a o o₂ m m₁
unfolding statistics_of cut_of
statistics-reply field mesh plane f ps o o₁ o₂ m m₁ r a s d =
    reply mesh plane (statistics (normal_of plane) field) f (cut_of ps plane) (of_statistics field (Ok no_sums)) o o₁ o₂ m m₁ r a (λ x. x) tt refl (statistics-give (cut_of ps plane) field mesh plane f) s d

-- ---- the probe

fold-probe : (c : Cut) (q : Vec2) (r : Option (ℕ × Values)) (ss : List Sample) → fold (add_to c) (of_probe q r) ss ≡ of_probe q (fold (add_probed c q) r ss)
unfolding fold add_to
fold-probe c q r [] = refl
fold-probe c q r (s ∷ ss) = fold-probe c q (add_probed c q r s) ss

hit-stays : (c : Cut) (q : Vec2) (i : ℕ) (v : Values) (ss : List Sample) → fold (add_probed c q) (Some (i, v)) ss ≡ Some (i, v)
unfolding fold add_probed
hit-stays c q i v [] = refl
hit-stays c q i v (s ∷ ss) = hit-stays c q i v ss

first-over : (c : Cut) (q : Vec2) (ss : List Sample) → fold (add_probed c q) None ss ≡ first_over c.plane q ss
unfolding fold add_probed first_over
first-over c q [] = refl
first-over c q (s ∷ ss) = by (covers c.plane q s.geometry.polygon) (first-over c q ss)
  where
    by : (b : Bool) → fold (add_probed c q) None ss ≡ first_over c.plane q ss →
        fold (add_probed c q) (cond b (Some (s.geometry.cell, s.values)) None) ss ≡ elim b [ true ↦ Some (s.geometry.cell, s.values) | false ↦ first_over c.plane q ss ]
    by true ih = hit-stays c q s.geometry.cell s.values ss
    by false ih = ih

five : (r : Option (ℕ × Values)) → length (probe_words r) ≡ 5
unfolding probe_words values_words vec_words
five (Some (i, v)) = refl
five None = refl

missing-bad : (b : Bool) (q : Vec2) → missing b q (Err SampleNotFinite) ≡ Err SampleNotFinite
unfolding missing
missing-bad true q = refl
missing-bad false q = refl

kept : (b : Bool) (c : Cut) (q : Vec2) (ss : List Sample) →
    missing b q (Ok (fold (add_to c) (of_probe q None) ss)) ≡ Ok (of_probe q (cond b None (first_over c.plane q ss)))
unfolding missing
kept true c q ss = refl
kept false c q ss = ap Ok (fold-probe c q None ss ∙ ap (of_probe q) (first-over c q ss))

probe-gives : (mesh : Mesh) (plane : Plane) (f : ℕ → Values) (answer : List Sample → Refusable (List ℕ)) (q : Vec2) (k : Refusable SampleSums) (r : Option (ℕ × Values)) (ss : List Sample) →
    k ≡ Ok (of_probe q r) → answer ss ≡ Ok (probe_words r) → Gives mesh plane answer f k ss
unfolding ended last_words length_of words_of
probe-gives mesh plane f answer q k r ss e w =
    record {
      result = ap ended e ∙ ap Ok (sym (five r)) ∙ sym (ap length_of w);
      words = ap last_words e ∙ sym (ap words_of w);
    }

pub probe-reply : (p : Vec3) (b : Bool) (q : Vec2) (mesh : Mesh) (plane : Plane) (f : ℕ → Values) (ps : List Vec3) (o o₁ o₂ m m₁ : List ℕ) (r k : Option Accumulator) (a : Refusable ℕ) →
    b ≡ off_plane plane p → q ≡ project plane p →
    SampleAllExit (stream (cut_of ps plane) f (intersect mesh plane) (of_probe q None) o m) r o₁ m₁ → accumulated_of k ≡ missing b q (accumulated_of r) → FinishExit (accumulated_of k) a o₁ o₂ → Reply (probe_of mesh plane p) f o a o o₂ m m₁
unfolding probe_of cut_of probe
probe-reply p b q mesh plane f ps o o₁ o₂ m m₁ r k a eb eq s ek d =
    reply mesh plane (λ l. Ok (probe_words (cond (off_plane plane p) None (first_over plane (project plane p) l)))) f (cut_of ps plane) (of_probe q None) o o₁ o₂ m m₁ r a (missing b q) tt (missing-bad b q)
    (λ ss. probe-gives mesh plane f _ q _ _ ss (kept b (cut_of ps plane) q ss) (rw (eb, eq))) s (rw (← ek) d)

-- Code 5 writes its polygons while it reads them. Assumes nothing.
use Prim.Native.Nat.{ℕ, suc, ◌+◌}
use native.Mathlib.Omega.{arith}
use mathlib.Core.Path.{◌≡◌, refl, ap, ap₂, sym, ◌∙◌}
use mathlib.Core.Logic.{◌⊎◌, inl, inr}
use mathlib.Core.List.{List, [], ◌∷◌, ◌++◌, map}
use lib.ListN.{length, length-append}
use lib.Seq.{sets}
use Rattle.arith.specs.Lists.{fold, flatten}
use Rattle.reading.specs.declared.Values.{Values}
use Rattle.reading.specs.Result as result
use Rattle.reading.specs.Result.{Refusable}
use Rattle.reading.specs.Asks.{run, reads}
use Rattle.reading.specs.Marks.{mark_all}
use Rattle.mesh_area.specs.Tables.{Mesh}
use Rattle.planes_cut.specs.declared.Cut.{Cut}
use Rattle.planes_cut.specs.declared.Plane.{Plane}
use Rattle.planes_sections.specs.Intersect.{PlaneCell, intersect}
use Rattle.answers.specs.Ensures.{length_of, replied, Reply}
use Rattle.planes_sums.specs.Sample.{Sample}
use Rattle.planes.specs.Answers.{sampled, section_words, section_of}
use Rattle.planes_sums.specs.Words.{sample_words}
use Rattle.planes_samples.specs.Ensures.{accumulated_of, written_all, stream, SampleAllExit}
use Rattle.planes_sums.specs.Kept.{SampleSums, of_section, add_to, written}
use Rattle.planes.specs.Ensures.{left_by, ended, last_words, FinishExit}
use Rattle.answers.proofs.WordLaws.{sets-append, sets-set}
use Rattle.planes_samples.proofs.StreamLaws.{stream-marks}
use Rattle.planes.proofs.TreeLaws.{goods, BadRun, GoodRun, stream-run, run-sampled, reads-sampled}
use Rattle.std.specs.Prelude.{Ok, Err}
use Rattle.std.specs.declared.option.Option.{Option}
use Rattle.refusal.specs.declared.Refusal.TheVariants.{SampleNotFinite}
use Rattle.planes_sums.specs.declared.Accumulator.{Accumulator}

-- the words of some samples
abbrev words_for : List Sample → List ℕ
words_for ss = flatten (map sample_words ss)

words-next : (s : Sample) (ss : List Sample) → words_for (s ∷ ss) ≡ sample_words s ++ words_for ss
unfolding flatten
words-next s ss = refl

no_words : words_for [] ≡ []
unfolding flatten
no_words = refl

added : (c : Cut) (n i : ℕ) (s : Sample) → add_to c (of_section n i) s ≡ of_section (suc n) (i + length (sample_words s))
unfolding add_to
added c n i s = refl

written-there : (n i : ℕ) (o : List ℕ) (s : Sample) → written (of_section n i) o s ≡ sets o i (sample_words s)
unfolding written
written-there n i o s = refl

written-section : (c : Cut) (n i : ℕ) (o : List ℕ) (ss : List Sample) → written_all c (of_section n i) o ss ≡ sets o i (words_for ss)
unfolding written_all
written-section c n i o [] = ap (sets o i) (sym no_words)
written-section c n i o (s ∷ ss) =
    ap₂ (λ (t : SampleSums) (w : List ℕ). written_all c t w ss) (added c n i s) (written-there n i o s)
    ∙ written-section c (suc n) (i + length (sample_words s)) (sets o i (sample_words s)) ss
    ∙ sym (sets-append o i (sample_words s) (words_for ss))
    ∙ ap (sets o i) (sym (words-next s ss))

pub stream-section : (c : Cut) (f : ℕ → Values) (l : List PlaneCell) (n i : ℕ) (o m : List ℕ) → (stream c f l (of_section n i) o m).answers ≡ sets o i (words_for (goods f l))
unfolding stream
stream-section c f l n i o m = written-section c n i o (goods f l)

fold-section : (c : Cut) (n i : ℕ) (ss : List Sample) → fold (add_to c) (of_section n i) ss ≡ of_section (n + length ss) (i + length (words_for ss))
unfolding fold flatten
fold-section c n i [] = ap₂ of_section (omega arith) (omega arith)
fold-section c n i (s ∷ ss) =
    ap (λ (t : SampleSums). fold (add_to c) t ss) (added c n i s)
    ∙ fold-section c (suc n) (i + length (sample_words s)) ss
    ∙ ap₂ of_section (omega arith) (let e = length-append (sample_words s) (words_for ss) in omega arith)

bad-result : (t : Refusable SampleSums) (e : Refusable (List ℕ)) → t ≡ Err SampleNotFinite → e ≡ Err SampleNotFinite → ended t ≡ length_of e
unfolding ended length_of
bad-result t e a b = rw (a, b)

bad-answers : (t : Refusable SampleSums) (e : Refusable (List ℕ)) (o o₁ left : List ℕ) → t ≡ Err SampleNotFinite → e ≡ Err SampleNotFinite → o₁ ≡ left → sets o₁ 0 (last_words t) ≡ replied o left e
unfolding last_words replied
bad-answers t e o o₁ left a b h = rw (a, b) h

good-result : (t : Refusable SampleSums) (e : Refusable (List ℕ)) (ss : List Sample) → t ≡ Ok (of_section (length ss) (suc (length (words_for ss)))) → e ≡ Ok (section_words ss) → ended t ≡ length_of e
unfolding ended length_of section_words
good-result t e ss a b = rw (a, b)

good-answers : (t : Refusable SampleSums) (e : Refusable (List ℕ)) (ss : List Sample) (o o₁ left : List ℕ) → t ≡ Ok (of_section (length ss) (suc (length (words_for ss)))) →
    e ≡ Ok (section_words ss) → o₁ ≡ sets o 1 (words_for ss) → sets o₁ 0 (last_words t) ≡ replied o left e
unfolding last_words replied section_words
good-answers t e ss o o₁ left a b h = rw (a, b, h) (sets-set (words_for ss) o 0 1 (length ss) (omega arith))

pub section-reply : (mesh : Mesh) (plane : Plane) (f : ℕ → Values) (c : Cut) (o o₁ o₂ m m₁ : List ℕ) (r : Option Accumulator) (a : Refusable ℕ) →
    SampleAllExit (stream c f (intersect mesh plane) (of_section 0 1) o m) r o₁ m₁ → FinishExit (accumulated_of r) a o₁ o₂ →
    Reply (section_of mesh plane) f (left_by f (intersect mesh plane) o) a o o₂ m m₁
unfolding section_of left_by
section-reply mesh plane f c o o₁ o₂ m m₁ r a s d = by (stream-run c f l (of_section 0 1) o m)
  where
    l : List PlaneCell
    l = intersect mesh plane

    answer : List Sample → Refusable (List ℕ)
    answer ss = Ok (section_words ss)

    there : o₁ ≡ sets o 1 (words_for (goods f l))
    there = s.answers ∙ stream-section c f l 0 1 o m

    marked : m₁ ≡ mark_all m (reads (sampled mesh plane answer) f)
    marked = s.marks ∙ stream-marks c f l (of_section 0 1) o m ∙ ap (mark_all m) (sym (reads-sampled mesh plane answer f))

    by : BadRun c f l (of_section 0 1) o m ⊎ GoodRun c f l (of_section 0 1) o m → Reply (sampled mesh plane answer) f (sets o 1 (words_for (goods f l))) a o o₂ m m₁
    by (inl b) =
        let e : run (sampled mesh plane answer) f ≡ Err SampleNotFinite = run-sampled mesh plane answer f ∙ rw b.tree (unfold result.◌>>=◌ in refl) in
        let k : accumulated_of r ≡ Err SampleNotFinite = s.outcome ∙ b.outcome in
        record {
          result = d.result ∙ bad-result (accumulated_of r) _ k e;
          answers = d.answers ∙ bad-answers (accumulated_of r) _ o o₁ _ k e there;
          marks = marked;
        }
    by (inr g) =
        let e : run (sampled mesh plane answer) f ≡ Ok (section_words (goods f l)) = run-sampled mesh plane answer f ∙ rw g.tree (unfold result.◌>>=◌ in refl) in
        let k : accumulated_of r ≡ Ok (of_section (length (goods f l)) (suc (length (words_for (goods f l))))) =
        s.outcome ∙ g.outcome ∙ ap Ok (fold-section c 0 1 (goods f l) ∙ ap₂ of_section (omega arith) (omega arith)) in
        record {
          result = d.result ∙ good-result (accumulated_of r) _ (goods f l) k e;
          answers = d.answers ∙ good-answers (accumulated_of r) _ (goods f l) o o₁ _ k e there;
          marks = marked;
        }

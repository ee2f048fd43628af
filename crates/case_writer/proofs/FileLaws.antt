-- The file of contents that are right, and what the writer and the converter answer. Assumes nothing.
use Prim.Native.Nat.{ℕ, suc, ◌+◌, ◌≤◌, ◌<◌}
use native.Mathlib.Omega.{arith}
use mathlib.Core.Path.{◌≡◌, refl, ap, sym, ◌∙◌}
use mathlib.Core.Bool.{Bool, true, false}
use mathlib.Core.List.{List, [], ◌∷◌, ◌++◌}
use lib.Dec.{ltb, eqb}
use lib.ListN.{length, get_or, take, length-append}
use borrow.Author.Tests.{eq-eqb, ne_eqb, lt-ltb, le-ltb}
use mir.Val.{Fits}
use mir.Syntax.{w8, w32, w64}
use Rattle.arith.proofs.All.{All}
use Rattle.arith_bytes.specs.Stored.{all_bytes, stored}
use Rattle.arith_bytes.proofs.ByteLaws.{length-all_bytes, stored-first}
use Rattle.reading.specs.Result.{Refusable, ◌>>=◌, refuse}
use Rattle.case_file.specs.declared.Counts.{Counts}
use Rattle.case_file.specs.Trailer.{counts_of, zones_from, trailer_from}
use Rattle.case_file.specs.Field.{zones_of}
use Rattle.case_file.proofs.TrailerLaws.{Opens, opens, open-short}
use Rattle.case_survey.specs.Survey.{CaseSurvey, survey_of}
use Rattle.case_survey.proofs.Laws.{survey-shut}
use Rattle.case_records.specs.Ensures.{checked}
use Rattle.case_contents.specs.Contents.{Contents, with_edition, in_edition, contents_of, zone_words, front_of, file_of}
use Rattle.case_contents.specs.Refusals.{is_edition, loses_zones, writable, written, converted}
use Rattle.case_contents.specs.Accepted.{SizedCounts, Sized}
use Rattle.case_contents.specs.Promise.{output_after, WritePromise, ConvertPromise}
use Rattle.case_contents.proofs.LayoutLaws.{length-file_of}
use Rattle.case_contents.proofs.RoundTrip.{Bits, front-is}
use Rattle.case_contents.proofs.RefusalLaws as refusals
use Rattle.case_contents.proofs.RefusalLaws.{Found, found, read-writable, read-sized}
use Rattle.case_contents.proofs.PromiseLaws.{edition-read, write-promise, convert-promise}
use Rattle.case_writer.specs.Ensures.{holding, end_bytes, PutCopyEntry, FileExit}
use Rattle.case_writer.proofs.PartLaws.{join}
use Rattle.std.specs.Prelude.{Ok, Err}
use Rattle.refusal.specs.declared.Refusal.{Refusal}
use Rattle.refusal.specs.declared.Refusal.TheVariants.{WrongTrailer, ZonesLost, ShortOutput}

-- ---- the file, and 47

module _ (c : Contents) (s : Sized c) (before : List ℕ) (k : ℕ) (e : k ≡ trailer_from c.counts + 32) where
  long : length (file_of c) ≡ k
  long = length-file_of c s ∙ sym e

  pub file-short : length before < k → FileExit c before before (Err ShortOutput)
  unfolding output_after refuse ◌>>=◌
  file-short h = record { answer = rw (lt-ltb (length before) (length (file_of c)) (omega (arith, long))); output = refl }

  pub front-room : k ≤ length before → zones_from c.counts ≤ length before
  unfolding trailer_from
  front-room h = omega arith

  module _ (h : k ≤ length before) where
    whole : {after : List ℕ} → after ≡ stored 0 (file_of c) before → FileExit c before after (Ok k)
    unfolding output_after refuse ◌>>=◌
    whole g =
        record {
          answer = rw (le-ltb (length before) (length (file_of c)) (omega (arith, long)), long);
          output = g ∙ stored-first (file_of c) before;
        }

    -- the parts that both editions have, and then the rest
    pub file-there : (front : List ℕ) {o1 o2 : List ℕ} → front ≡ front_of c → o1 ≡ stored 0 front before →
        o2 ≡ stored (zones_from c.counts) (all_bytes 4 (zone_words c.counts c.zones) ++ end_bytes c.counts) o1 → FileExit c before o2 (Ok k)
    unfolding file_of end_bytes
    file-there front {o1} {o2} f e1 e2 =
        let rest : List ℕ = all_bytes 4 (zone_words c.counts c.zones) ++ end_bytes c.counts in
        let l : length (front_of c) ≡ zones_from c.counts = front_long c s in
        let m : length (front_of c ++ rest) ≡ k = long in
        whole (join before (front_of c) (zones_from c.counts) rest o1 o2 (rw (← f) e1) l (omega (arith, length-append (front_of c) rest)) e2)
      where
        front_long : (c : Contents) → Sized c → length (front_of c) ≡ zones_from c.counts
        front_long c s =
            unfold front_of in unfold zones_from in
            simp (length-append, length-all_bytes) (omega (arith, s.points, s.words, s.velocities, s.pressures))

-- ---- the writer

-- the numbers of a slice fit their type
numbers : (P : ℕ → Type 0) (l : List ℕ) → ((i : ℕ) → P (get_or l i 0)) → All P l
numbers P [] h = tt
numbers P (x ∷ l) h = (h 0, numbers P l (λ i. h (suc i)))

pub slice-bytes : (l : List ℕ) → ((i : ℕ) → Fits w8 (get_or l i 0)) → All (λ b. b < 256) l
slice-bytes l h = numbers (λ b. b < 256) l (λ i. (h i).fits)

pub slice-bits : (n : Counts) (a b v q z : List ℕ) → ((i : ℕ) → Fits w64 (get_or a i 0)) → ((i : ℕ) → Fits w32 (get_or b i 0)) → ((i : ℕ) → Fits w64 (get_or v i 0)) →
    ((i : ℕ) → Fits w64 (get_or q i 0)) → ((i : ℕ) → Fits w32 (get_or z i 0)) → Bits (holding n a b v q z)
slice-bits n a b v q z ha hb hv hq hz =
    record {
      points = numbers (λ w. w < 18446744073709551616) a (λ i. (ha i).fits);
      words = numbers (λ w. w < 4294967296) b (λ i. (hb i).fits);
      velocities = numbers (λ w. w < 18446744073709551616) v (λ i. (hv i).fits);
      pressures = numbers (λ w. w < 18446744073709551616) q (λ i. (hq i).fits);
      zones = numbers (λ w. w < 4294967296) z (λ i. (hz i).fits);
    }

module _ (c : Contents) where
  pub checked-sized : (Ok tt) ≡ checked (writable c) → Sized c
  unfolding checked
  checked-sized e = by (writable c) refl
    where
      by : (t : Refusable (Unit {0})) → writable c ≡ t → Sized c
      by (Err k) f = absurd (let z : ◌≡◌ {A = ℕ} 0 1 = cc in omega arith)
      by (Ok u) f = (refusals.right c u f).sized

  module _ (w : Bits c) where
    pub write-wrong : (out : List ℕ) (r : Refusal) → Err r ≡ checked (writable c) → WritePromise c out out ((Err r))
    unfolding checked written output_after ◌>>=◌
    write-wrong out r e = write-promise c w out out ((Err r)) (by (writable c) refl) refl
      where
        by : (t : Refusable (Unit {0})) → writable c ≡ t → (Err r) ≡ written c (length out)
        by (Err k) f = let g : r ≡ k = cc in rw (f, g)
        by (Ok u) f = absurd (let z : ◌≡◌ {A = ℕ} 0 1 = cc in omega arith)

    pub write-right : (before after : List ℕ) (r : Refusable ℕ) → Ok tt ≡ checked (writable c) → FileExit c before after r → WritePromise c before after r
    unfolding checked written ◌>>=◌
    write-right before after r e x = write-promise c w before after r (by (writable c) refl) x.output
      where
        by : (t : Refusable (Unit {0})) → writable c ≡ t → r ≡ written c (length before)
        by (Err k) f = absurd (let z : ◌≡◌ {A = ℕ} 0 1 = cc in omega arith)
        by (Ok u) f = rw f x.answer

-- ---- put_copy

module _ (case : List ℕ) (n : Counts) (e : ℕ) (p : PutCopyEntry case n e) where
  o : Opens case n
  o = opens case n p.opens

  f : Found case
  f = found case p.survey p.accepted

  pub copy-sized : Sized (in_edition e (contents_of case))
  copy-sized = read-sized case e f p.edition

  counts-copied : (in_edition e (contents_of case)).counts ≡ with_edition e n
  unfolding in_edition contents_of
  counts-copied = ap (with_edition e) (sym o.same)

  pub to-sized : SizedCounts (with_edition e n)
  to-sized = rw (← counts-copied) copy-sized.counts

  pub from-sized : SizedCounts n
  unfolding with_edition
  from-sized =
      let s = to-sized in
      let g : is_edition n.edition ≡ true = rw o.same (edition-read case) in
      record { dimension = s.dimension; edition = g; points = s.points; words = s.words; cells = s.cells }

  pub to-trailer : (k : ℕ) → k ≡ trailer_from (with_edition e n) + 32 → k ≡ trailer_from (in_edition e (contents_of case)).counts + 32
  to-trailer k g = g ∙ ap (λ (m : Counts). trailer_from m + 32) (sym counts-copied)

  pub case-room : zones_from n ≤ length case
  unfolding zones_from
  case-room = omega (arith, o.whole)

  pub out-room : (out : List ℕ) (k : ℕ) → k ≡ trailer_from (with_edition e n) + 32 → k ≤ length out → zones_from n ≤ length out
  unfolding zones_from trailer_from with_edition
  out-room out k g h = omega arith

  pub front-copied : All (λ b. b < 256) case → take (zones_from n) case ≡ front_of (in_edition e (contents_of case))
  unfolding front_of in_edition
  front-copied bytes = ap (λ (m : Counts). take (zones_from m) case) o.same ∙ sym (front-is case f.right bytes)

  zones-copied : (in_edition e (contents_of case)).zones ≡ zones_of case
  unfolding in_edition contents_of
  zones-copied = refl

  pub rest-stored : (out : List ℕ) {out' : List ℕ} →
      out' ≡ stored (zones_from (with_edition e n)) (all_bytes 4 (zone_words (with_edition e n) (zones_of case)) ++ end_bytes (with_edition e n)) out →
      out' ≡ stored (zones_from (in_edition e (contents_of case)).counts)
      (all_bytes 4 (zone_words (in_edition e (contents_of case)).counts (in_edition e (contents_of case)).zones) ++ end_bytes (in_edition e (contents_of case)).counts) out
  rest-stored out g = rw (counts-copied, zones-copied) g

-- ---- convert

module _ (e : ℕ) (case : List ℕ) (bytes : All (λ b. b < 256) case) where
  pub convert-refused : (out : List ℕ) (k : Refusal) → converted e case (length out) ≡ Err k → ConvertPromise e case out out ((Err k))
  unfolding output_after
  convert-refused out k h = convert-promise e case out out bytes ((Err k)) (sym h) refl

  module _ (room : ℕ) where
    pub no-edition : is_edition e ≡ false → converted e case room ≡ Err WrongTrailer
    unfolding converted ◌>>=◌ refuse
    no-edition h = rw h

    module _ (i : is_edition e ≡ true) where
      pub same-edition : (counts_of case).edition ≡ e → converted e case room ≡ Err WrongTrailer
      unfolding converted ◌>>=◌ refuse
      same-edition h = rw (i, eq-eqb (counts_of case).edition e h)

      pub short-file : length case < 32 → converted e case room ≡ Err WrongTrailer
      unfolding converted ◌>>=◌ refuse
      short-file h = by (eqb (counts_of case).edition e) refl
        where
          by : (x : Bool) → eqb (counts_of case).edition e ≡ x → converted e case room ≡ Err WrongTrailer
          by true g = rw (i, g)
          by false g = rw (i, g, survey-shut case WrongTrailer (sym (open-short case h)))

      module _ (d : (counts_of case).edition ≡ e → ⊥) where
        other : eqb (counts_of case).edition e ≡ false
        other = ne_eqb (counts_of case).edition e d

        pub unread : (k : Refusal) → survey_of case ≡ Err k → converted e case room ≡ Err k
        unfolding converted ◌>>=◌ refuse
        unread k g = rw (i, other, g)

        module _ (v : CaseSurvey) (g : survey_of case ≡ Ok v) where
          pub zones-lost : loses_zones (in_edition e (contents_of case)) ≡ true → converted e case room ≡ Err ZonesLost
          unfolding converted written ◌>>=◌ refuse
          zones-lost l = rw (i, other, g, read-writable case e (found case v g) i, l)

          goes_on : loses_zones (in_edition e (contents_of case)) ≡ false →
              converted e case room ≡ (refuse ShortOutput (ltb room (length (file_of (in_edition e (contents_of case))))) >>= λ _. Ok (length (file_of (in_edition e (contents_of case)))))
          unfolding converted written ◌>>=◌ refuse
          goes_on l = rw (i, other, g, read-writable case e (found case v g) i, l)

pub converts : (e : ℕ) (case : List ℕ) → All (λ b. b < 256) case → is_edition e ≡ true → ((counts_of case).edition ≡ e → ⊥) → (v : CaseSurvey) → survey_of case ≡ Ok v →
    loses_zones (in_edition e (contents_of case)) ≡ false → (before after : List ℕ) (r : Refusable ℕ) → FileExit (in_edition e (contents_of case)) before after r →
    ConvertPromise e case before after r
converts e case bytes i d v g l before after r x =
    convert-promise e case before after bytes r (x.answer ∙ sym (goes_on e case bytes (length before) i d v g l)) x.output

-- What an answer of the writer or of the converter tells of the output. Assumes nothing.
use Prim.Native.Nat.{ℕ, ◌≤◌, ◌<◌}
use native.Mathlib.Omega.{arith}
use mathlib.Core.Path.{◌≡◌, refl, ap, sym, ◌∙◌}
use mathlib.Core.Bool.{Bool, true, false, cond, not, ◌&&◌, ◌||◌}
use mathlib.Core.List.{List, ◌++◌}
use lib.Dec.{eqb}
use lib.ListN.{length, get_or, take, drop}
use lib.Seq.{take-append_seam}
use borrow.Author.Tests.{eqb-true, eqb-false, ne_eqb, le-ltb}
use Rattle.arith.specs.Lists.{all_of}
use Rattle.arith.proofs.All.{All}
use Rattle.reading.specs.Result.{Refusable, ◌>>=◌, refuse}
use Rattle.reading.proofs.ResultLaws.{bound, not-due}
use Rattle.case_file.specs.Trailer.{trailer_word, edition_of, counts_of}
use Rattle.case_file.specs.Field.{zone_of, zones_of, is_at_most}
use Rattle.case_file.proofs.ZoneLaws.{get_or-zones}
use Rattle.case_contents.specs.Contents.{Contents, with_edition, in_edition, contents_of, file_of}
use Rattle.case_contents.specs.Refusals.{is_edition, loses_zones, writable, written, converted}
use Rattle.case_contents.specs.Promise.{output_after, ReadsAs, WritePromise, ConvertPromise}
use Rattle.case_contents.proofs.RoundTrip.{Bits, written_back, read_again, read-bits, zone-one, all-by-place}
use Rattle.case_contents.proofs.RefusalLaws.{Right, right, accepts-written, Found, found, read-writable}
use Rattle.std.specs.Prelude.{Ok}
use Rattle.refusal.specs.declared.Refusal.TheVariants.{WrongTrailer}

-- ---- contents in their own edition

module _ (file : List ℕ) where
  own-edition : in_edition (counts_of file).edition (contents_of file) ≡ contents_of file
  unfolding in_edition with_edition contents_of
  own-edition = refl

  pub edition-read : is_edition (counts_of file).edition ≡ true
  unfolding counts_of edition_of is_edition
  edition-read = by (eqb (trailer_word file 0) 102 || eqb (trailer_word file 0) 103)
    where
      by : (x : Bool) → eqb (cond x 2 1) 1 || eqb (cond x 2 1) 2 ≡ true
      by true = refl
      by false = refl

  zone-none : (counts_of file).edition ≡ 1 → (i : ℕ) → is_at_most 0 (get_or (zones_of file) i 0) ≡ true
  unfolding is_at_most zone_of
  zone-none one i =
      let e : get_or (zones_of file) i 0 ≡ 0 = get_or-zones file i ∙ zone-one file (counts_of file) i one in
      rw e

  none-lost : loses_zones (contents_of file) ≡ false
  unfolding loses_zones contents_of
  none-lost = by (eqb (counts_of file).edition 1) refl
    where
      by : (x : Bool) → eqb (counts_of file).edition 1 ≡ x → x && not (all_of (is_at_most 0) (zones_of file)) ≡ false
      by false f = refl
      by true f = rw (all-by-place (is_at_most 0) (zones_of file) (λ i h. zone-none (eqb-true (counts_of file).edition 1 f) i))

  -- an accepted file can be written again
  module _ (f : Found file) where
    own_writable : writable (contents_of file) ≡ Ok tt
    unfolding refuse
    own_writable =
        let e = read-writable file (counts_of file).edition f edition-read in
        (rw own-edition at e) ∙ rw none-lost

    pub own-written : All (λ b. b < 256) file → (room : ℕ) → length file ≤ room → written (contents_of file) room ≡ Ok (length file)
    unfolding written ◌>>=◌ refuse
    own-written bytes room h = rw (own_writable, read_again file f.right bytes, le-ltb room (length file) h)

-- ---- the writer

-- what a length that was answered tells
record Length (c : Contents) (n : ℕ) : Type 0 where
  right : Right c
  long : n ≡ length (file_of c)

length-told : (c : Contents) (room n : ℕ) → written c room ≡ Ok n → Length c n
unfolding written
length-told c room n e =
    let b1 = bound _ _ _ e in
    let b2 = bound _ _ _ b1.then in
    record { right = right c b1.value b1.had; long = let g : length (file_of c) ≡ n = cc b2.then in sym g }

module _ (c : Contents) (w : Bits c) (before after : List ℕ) (r : Refusable ℕ) (answer : r ≡ written c (length before))
    (output : after ≡ output_after r (file_of c) before) where
  -- the front of the output is the file
  file-there : (n : ℕ) → r ≡ Ok n → take n after ≡ file_of c
  unfolding output_after
  file-there n e =
      let k = length-told c (length before) n (sym answer ∙ e) in
      let o : after ≡ file_of c ++ drop (length (file_of c)) before = rw e at output in
      rw (o, k.long) (take-append_seam (file_of c) (drop (length (file_of c)) before))

  reads-back : (n : ℕ) → r ≡ Ok n → ReadsAs (take n after) c
  reads-back n e =
      let k = length-told c (length before) n (sym answer ∙ e) in
      let p = k.right in
      rw (file-there n e) (record { accepted = accepts-written c p w; contents = written_back c p.sized w p.kept })

  only_one : (file : List ℕ) → ReadsAs file c → length file ≤ length before → (r ≡ Ok (length file)) × (take (length file) after ≡ file)
  only_one file a h =
      let f = found file a.accepted.survey a.accepted.accepted in
      let same : file_of c ≡ file = ap file_of (sym a.contents) ∙ read_again file f.right a.accepted.bytes in
      let e : r ≡ Ok (length file) = answer ∙ ap (λ d. written d (length before)) (sym a.contents) ∙ own-written file f a.accepted.bytes (length before) h in
      (e, file-there (length file) e ∙ same)

  pub write-promise : WritePromise c before after r
  write-promise = record { answer = answer; output = output; read_back = reads-back; only = only_one }

-- ---- the converter

bits-kept : (e : ℕ) (c : Contents) → Bits c → Bits (in_edition e c)
unfolding in_edition
bits-kept e c w = record { points = w.points; words = w.words; velocities = w.velocities; pressures = w.pressures; zones = w.zones }

-- an edition that is set again, and the one that is set
twice : (d e : ℕ) (c : Contents) → in_edition d (in_edition e c) ≡ in_edition d c
unfolding in_edition with_edition
twice d e c = refl

edition-set : (e : ℕ) (c : Contents) → (in_edition e c).counts.edition ≡ e
unfolding in_edition with_edition
edition-set e c = refl

counted : (g : List ℕ) → (counts_of g).edition ≡ (contents_of g).counts.edition
unfolding contents_of
counted g = refl

-- what a length that was answered tells
record Converted (e : ℕ) (file : List ℕ) (room n : ℕ) : Type 0 where
  edition : is_edition e ≡ true
  other : eqb (counts_of file).edition e ≡ false
  read : Found file
  wrote : written (in_edition e (contents_of file)) room ≡ Ok n

neither : (a b : Bool) → (not a || b) ≡ false → (a ≡ true) × (b ≡ false)
neither true b h = (refl, h)
neither false b h = absurd (let z : ◌≡◌ {A = ℕ} 0 1 = cc in omega arith)

converted-told : (e : ℕ) (file : List ℕ) (room n : ℕ) → converted e file room ≡ Ok n → Converted e file room n
unfolding converted
converted-told e file room n h =
    let b1 = bound _ _ _ h in
    let b2 = bound _ _ _ b1.then in
    let t = neither (is_edition e) (eqb (counts_of file).edition e) (not-due WrongTrailer _ _ b1.had) in
    record { edition = t.0; other = t.1; read = found file b2.value b2.had; wrote = b2.then }

module _ (e : ℕ) (file before after : List ℕ) (bytes : All (λ b. b < 256) file) (r : Refusable ℕ) (answer : r ≡ converted e file (length before))
    (output : after ≡ output_after r (file_of (in_edition e (contents_of file))) before) where
  keeps : (n : ℕ) → r ≡ Ok n → ReadsAs (take n after) (in_edition e (contents_of file))
  keeps n h =
      let t = converted-told e file (length before) n (sym answer ∙ h) in
      let w : Bits (in_edition e (contents_of file)) = bits-kept e (contents_of file) (read-bits file bytes) in
      reads-back (in_edition e (contents_of file)) w before after r (h ∙ sym t.wrote) output n h

  goes_back : (n room : ℕ) → r ≡ Ok n → length file ≤ room →
      (converted (counts_of file).edition (take n after) room ≡ Ok (length file))
      × (file_of (in_edition (counts_of file).edition (contents_of (take n after))) ≡ file)
  goes_back n room h k =
      let t = converted-told e file (length before) n (sym answer ∙ h) in
      let a = keeps n h in
      let back : in_edition (counts_of file).edition (contents_of (take n after)) ≡ contents_of file = returned n a.contents in
      let first : (counts_of (take n after)).edition ≡ e = edition-of (take n after) a.contents in
      let other : eqb (counts_of (take n after)).edition (counts_of file).edition ≡ false =
      rw first (ne_eqb e (counts_of file).edition (λ g. eqb-false (counts_of file).edition e t.other (sym g))) in (
        again (counts_of file).edition (take n after) (edition-read file) other a room (rw back (own-written file t.read bytes room k)),
        ap file_of back ∙ read_again file t.read.right bytes,
      )
    where
      returned : (n : ℕ) → contents_of (take n after) ≡ in_edition e (contents_of file) → in_edition (counts_of file).edition (contents_of (take n after)) ≡ contents_of file
      returned n g = rw g (twice (counts_of file).edition e (contents_of file) ∙ own-edition file)

      edition-of : (g : List ℕ) → contents_of g ≡ in_edition e (contents_of file) → (counts_of g).edition ≡ e
      edition-of g h = counted g ∙ ap (λ (d : Contents). d.counts.edition) h ∙ edition-set e (contents_of file)

      again : (d : ℕ) (g : List ℕ) → is_edition d ≡ true → eqb (counts_of g).edition d ≡ false → ReadsAs g (in_edition e (contents_of file)) → (room : ℕ) → {m : ℕ} →
          written (in_edition d (contents_of g)) room ≡ Ok m → converted d g room ≡ Ok m
      again d g i o a room u = unfold converted in unfold ◌>>=◌ in unfold refuse in rw (i, o, a.accepted.accepted) u

  pub convert-promise : ConvertPromise e file before after r
  convert-promise = record { answer = answer; output = output; kept = keeps; back = goes_back }

-- What the writer does not refuse a reader accepts, and what a reader accepts the writer writes. Assumes nothing.
use Prim.Native.Nat.{ℕ, ◌*◌, ◌≤◌}
use native.Mathlib.Omega.{arith}
use mathlib.Core.Path.{◌≡◌, refl, ap, ◌∙◌}
use mathlib.Core.Bool.{Bool, true, false, ◌&&◌}
use mathlib.Core.List.{List}
use lib.Dec.{leb, eqb}
use lib.ListN.{length}
use borrow.Author.Tests.{eqb-true, eq-eqb, le-ltb, not-false}
use Rattle.arith.specs.Bytes.{le32, le64}
use Rattle.arith.specs.Lists.{all_of}
use Rattle.reading.specs.Result.{◌>>=◌, refuse, Refusable}
use Rattle.reading.proofs.ResultLaws.{bound, not-due}
use Rattle.case_file.specs.declared.Counts.{Counts}
use Rattle.case_file.specs.Trailer.{counts_of, words_from, field_from, pressures_from, is_dimension, trailer_right, over_limit, opened, words_of}
use Rattle.case_file.specs.Field.{cells_of, zones_of, is_at_most, zones_within}
use Rattle.case_file.proofs.ReadLaws.{length-read_all}
use Rattle.case_file.proofs.TrailerLaws.{and_left, and_right, within, opens}
use Rattle.case_file.proofs.ZoneLaws.{length-zones}
use Rattle.case_definitions.specs.Faces.{Definition}
use Rattle.case_definitions.specs.Definitions.{definitions}
use Rattle.case_survey.specs.Survey.{CaseSurvey, survey_of}
use Rattle.case_contents.specs.Contents.{Contents, with_edition, in_edition, contents_of, file_of}
use Rattle.case_contents.specs.Refusals.{is_edition, long_as, parts_right, well_formed, loses_zones, writable}
use Rattle.case_contents.specs.Accepted.{Accepted, Sized}
use Rattle.case_contents.proofs.LayoutLaws.{counts-back, right-trailer}
use Rattle.case_contents.proofs.RoundTrip.{Bits, words_back, zones-back, file-bytes}
use Rattle.std.specs.Prelude.{Ok, Err}
use Rattle.refusal.specs.declared.Refusal.TheVariants.{ZonesLost, WrongTrailer, CountOverLimit, ZoneTooLarge}

-- ---- what no refusal tells

module _ (c : Contents) where
  pub sized : well_formed c ≡ true → over_limit c.counts ≡ false → Sized c
  unfolding well_formed parts_right long_as
  sized h over =
      let n = c.counts in
      let a : Bool = eqb (length c.points) (3 * n.points) in
      let b : Bool = eqb (length c.words) n.words in
      let v : Bool = eqb (length c.velocities) (3 * n.cells) in
      let q : Bool = eqb (length c.pressures) n.cells in
      let z : Bool = eqb (length c.zones) n.cells in
      let p : a && b && v && q && z ≡ true = and_right (is_dimension n.dimension && is_edition n.edition) _ h in
      let d : is_dimension n.dimension && is_edition n.edition ≡ true = and_left _ (a && b && v && q && z) h in
      let abvq = and_left (a && b && v && q) z p in
      let abv = and_left (a && b && v) q abvq in
      let ab = and_left (a && b) v abv in
      let w = within n over in
      record {
        counts =
            record {
              dimension = and_left (is_dimension n.dimension) _ d;
              edition = and_right (is_dimension n.dimension) _ d;
              points = w.0;
              words = w.2;
              cells = w.1;
            };
        points = eqb-true _ _ (and_left a b ab);
        words = eqb-true _ _ (and_right a b ab);
        velocities = eqb-true _ _ (and_right (a && b) v abv);
        pressures = eqb-true _ _ (and_right (a && b && v) q abvq);
        zones = eqb-true _ _ (and_right (a && b && v && q) z p);
      }

-- nothing is refused
pub record Right (c : Contents) : Type 0 where
  pub sized : Sized c
  pub over : over_limit c.counts ≡ false
  pub records : List Definition
  pub walked : definitions c.counts.cells c.words ≡ Ok records
  pub zones : all_of (is_at_most 255) c.zones ≡ true
  pub kept : loses_zones c ≡ false

pub right : (c : Contents) (u : Unit {0}) → writable c ≡ Ok u → Right c
unfolding writable
right c u e =
    let b1 = bound _ _ _ e in
    let b2 = bound _ _ _ b1.then in
    let b3 = bound _ _ _ b2.then in
    let b4 = bound _ _ _ b3.then in
    let over = not-due CountOverLimit _ _ b2.had in
    record {
      sized = sized c (not-false _ (not-due WrongTrailer _ _ b1.had)) over;
      over = over;
      records = b3.value;
      walked = b3.had;
      zones = not-false _ (not-due ZoneTooLarge _ _ b4.had);
      kept = not-due ZonesLost _ _ b4.then;
    }

-- ---- a reader accepts what is written

module _ (c : Contents) (r : Right c) (w : Bits c) where
  opens-written : opened (file_of c) ≡ Ok c.counts
  unfolding opened
  opens-written = rw (right-trailer c r.sized, counts-back c r.sized, r.over)

  zones-written : zones_within (file_of c) ≡ true
  unfolding zones_within
  zones-written = rw (zones-back c r.sized w r.kept) r.zones

  surveyed-written : survey_of (file_of c) ≡ Ok (record { counts = c.counts; definitions = r.records })
  unfolding survey_of ◌>>=◌ refuse
  surveyed-written = rw (opens-written, words_back c r.sized w, r.walked, zones-written)

  pub accepts-written : Accepted (file_of c)
  accepts-written =
      record { bytes = file-bytes c; survey = record { counts = c.counts; definitions = r.records }; accepted = surveyed-written }

-- ---- the writer writes what a reader accepts

-- what a survey that gave something found
pub record Found (file : List ℕ) : Type 0 where
  pub right : trailer_right file ≡ true
  pub over : over_limit (counts_of file) ≡ false
  pub records : List Definition
  pub walked : definitions (counts_of file).cells (words_of file (counts_of file)) ≡ Ok records
  pub zones : zones_within file ≡ true

opened-case : (o : Refusable Counts) (n : Counts) → o ≡ Ok n → o ≡ Ok n
opened-case (Ok m) n e = let g : m ≡ n = cc in ap Ok g
opened-case (Err k) n e = absurd (let g : ◌≡◌ {A = ℕ} 0 1 = cc in omega arith)

pub found : (file : List ℕ) (v : CaseSurvey) → survey_of file ≡ Ok v → Found file
unfolding survey_of
found file v e =
    let b1 = bound _ _ _ e in
    let b2 = bound _ _ _ b1.then in
    let b3 = bound _ _ _ b2.then in
    let o = opened-case (opened file) b1.value b1.had in
    let k = opens file b1.value o in
    record {
      right = k.right;
      over = not-over (counts_of file) (rw (← k.same) k.points) (rw (← k.same) k.cells) (rw (← k.same) k.words);
      records = b2.value;
      walked = rw (← k.same) b2.had;
      zones = not-false _ (not-due ZoneTooLarge _ _ b3.had);
    }
  where
    not-over : (n : Counts) → n.points ≤ 65536 → n.cells ≤ 16384 → n.words ≤ 1048576 → over_limit n ≡ false
    not-over n p c w = unfold over_limit in rw (le-ltb 65536 n.points p, le-ltb 16384 n.cells c, le-ltb 1048576 n.words w)

parts-read : (file : List ℕ) (e : ℕ) → parts_right (in_edition e (contents_of file)) ≡ true
unfolding parts_right long_as in_edition with_edition contents_of words_of
parts-read file e =
    let n = counts_of file in
    rw (
      eq-eqb _ _ (length-read_all (le64 file) 8 (3 * n.points) 0),
      eq-eqb _ _ (length-read_all (le32 file) 4 n.words (words_from n)),
      eq-eqb _ _ (length-read_all (le64 file) 8 (3 * n.cells) (field_from n)),
      eq-eqb _ _ (length-read_all (le64 file) 8 n.cells (pressures_from n)),
      eq-eqb _ _ (zones-long file),
    )
  where
    zones-long : (file : List ℕ) → length (zones_of file) ≡ (counts_of file).cells
    zones-long file = length-zones file ∙ unfold cells_of in refl

dimension-read : (file : List ℕ) → trailer_right file ≡ true → is_dimension (counts_of file).dimension ≡ true
unfolding trailer_right
dimension-read file r = and_right (leb 32 (length file)) _ (and_left (leb 32 (length file) && is_dimension (counts_of file).dimension) _ r)

-- contents that were read can be refused in edition e by 46 alone
module _ (file : List ℕ) (e : ℕ) (f : Found file) (h : is_edition e ≡ true) where
  well : well_formed (in_edition e (contents_of file)) ≡ true
  unfolding well_formed in_edition with_edition contents_of
  well = let p : parts_right (in_edition e (contents_of file)) ≡ true = parts-read file e in rw (dimension-read file f.right, h, p)

  limits : over_limit (in_edition e (contents_of file)).counts ≡ false
  unfolding in_edition with_edition contents_of over_limit
  limits = f.over

  records : definitions (in_edition e (contents_of file)).counts.cells (in_edition e (contents_of file)).words ≡ Ok f.records
  unfolding in_edition with_edition contents_of
  records = f.walked

  zoned : all_of (is_at_most 255) (in_edition e (contents_of file)).zones ≡ true
  unfolding in_edition contents_of zones_within
  zoned = f.zones

  pub read-writable : writable (in_edition e (contents_of file)) ≡ refuse ZonesLost (loses_zones (in_edition e (contents_of file)))
  unfolding writable ◌>>=◌ refuse
  read-writable = rw (well, limits, records, zoned)

  pub read-sized : Sized (in_edition e (contents_of file))
  read-sized = sized (in_edition e (contents_of file)) well limits

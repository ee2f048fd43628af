-- The stores of the parts of a file, joined. Assumes nothing.
use Prim.Native.Nat.{ℕ, ◌+◌, ◌*◌, ◌≤◌}
use native.Mathlib.Nat.{zero-add}
use native.Mathlib.Omega.{arith}
use mathlib.Core.Path.{◌≡◌, ap, sym, ◌∙◌}
use mathlib.Core.Logic.{⊎_elim}
use mathlib.Core.List.{List, ◌++◌, append_assoc, append-nil}
use lib.ListN.{length, length-append}
use borrow.Author.Tests.{eq-eqb, ne_eqb}
use Rattle.arith_bytes.specs.Stored.{le_bytes, all_bytes, stored}
use Rattle.arith_bytes.proofs.ByteLaws.{length-le_bytes, length-all_bytes, stored_more}
use Rattle.case_file.specs.declared.Counts.{Counts}
use Rattle.case_file.specs.Trailer.{zones_from, zone_bytes, trailer_from, opened}
use Rattle.case_file.specs.Field.{cells_of, zones_of}
use Rattle.case_file.proofs.TrailerLaws.{opens}
use Rattle.case_file.proofs.ZoneLaws.{length-zones}
use Rattle.case_contents.specs.Contents.{dimension_word, trailer_of, zone_words, offset_words, front_of}
use Rattle.case_contents.specs.Accepted.{SizedCounts}
use Rattle.case_contents.proofs.LayoutLaws.{two-or-three}
use Rattle.case_writer.specs.Ensures.{holding, end_bytes, end_from, PutFieldsEntry, PutEndEntry, CopyEntry}
use Rattle.std.specs.Prelude.{Ok}

-- ---- put_fields

-- bytes stored right after others, in an output that they fit
pub join : (out₀ a : List ℕ) (at : ℕ) (b out out' : List ℕ) → out ≡ stored 0 a out₀ → length a ≡ at → at + length b ≤ length out₀ →
    out' ≡ stored at b out → out' ≡ stored 0 (a ++ b) out₀
join out₀ a at b out out' e n h f =
    f ∙ rw (e, ← n) (ap (λ (x : ℕ). stored x b (stored 0 a out₀)) (sym (zero-add (length a))) ∙ stored_more 0 out₀ a b (omega (arith, n)))

module _ (n : Counts) (a b v q z out₀ o1 o2 o3 o4 : List ℕ) (r : PutFieldsEntry (holding n a b v q z) (length out₀)) where
  pub fields-joined : o1 ≡ stored 0 (all_bytes 8 a) out₀ → o2 ≡ stored (24 * n.points) (all_bytes 4 b) o1 →
      o3 ≡ stored (24 * n.points + 4 * n.words) (all_bytes 8 v) o2 → o4 ≡ stored (24 * n.points + 4 * n.words + 24 * n.cells) (all_bytes 8 q) o3 →
      o4 ≡ stored 0 (front_of (holding n a b v q z)) out₀
  unfolding front_of zones_from
  fields-joined e1 e2 e3 e4 =
      let A : List ℕ = all_bytes 8 a in
      let B : List ℕ = all_bytes 4 b in
      let W : List ℕ = all_bytes 8 v in
      let Q : List ℕ = all_bytes 8 q in
      let s = r.sized in
      let room = r.fits in
      let la : length A ≡ 24 * n.points = length-all_bytes 8 a ∙ omega (arith, s.points) in
      let lb : length B ≡ 4 * n.words = length-all_bytes 4 b ∙ omega (arith, s.words) in
      let lw : length W ≡ 24 * n.cells = length-all_bytes 8 v ∙ omega (arith, s.velocities) in
      let lq : length Q ≡ 8 * n.cells = length-all_bytes 8 q ∙ omega (arith, s.pressures) in
      let lab : length (A ++ B) ≡ 24 * n.points + 4 * n.words = length-append A B ∙ omega arith in
      let labw : length ((A ++ B) ++ W) ≡ 24 * n.points + 4 * n.words + 24 * n.cells = length-append (A ++ B) W ∙ omega arith in
      let f2 = join out₀ A (24 * n.points) B o1 o2 e1 la (omega arith) e2 in
      let f3 = join out₀ (A ++ B) (24 * n.points + 4 * n.words) W o2 o3 f2 lab (omega arith) e3 in
      let f4 = join out₀ ((A ++ B) ++ W) (24 * n.points + 4 * n.words + 24 * n.cells) Q o3 o4 f3 labw (omega arith) e4 in
      f4 ∙ ap (λ l. stored 0 l out₀) (regroup A B W Q)
    where
      regroup : (a b c d : List ℕ) → ((a ++ b) ++ c) ++ d ≡ a ++ (b ++ (c ++ d))
      regroup a b c d = simp append_assoc

-- ---- dimension_word

pub dimension-small : (n : Counts) → SizedCounts n → n.dimension ≤ 3
dimension-small n s = ⊎_elim (λ e. omega arith) (λ e. omega arith) (two-or-three n.dimension s.dimension)

pub word_first : (n : Counts) → (n.edition ≡ 2 → ⊥) → n.dimension ≡ dimension_word n
unfolding dimension_word
word_first n d = rw (ne_eqb n.edition 2 d)

pub word-second : (n : Counts) → n.edition ≡ 2 → n.dimension + 100 ≡ dimension_word n
unfolding dimension_word
word-second n e = rw (eq-eqb n.edition 2 e)

-- ---- put_end

pub trailer-long : (n : Counts) → length (all_bytes 4 (trailer_of n)) ≡ 32
unfolding trailer_of
trailer-long n = length-all_bytes 4 (trailer_of n)

module _ (n : Counts) (out : List ℕ) where
  pub end-first : (n.edition ≡ 2 → ⊥) → {out' : List ℕ} → out' ≡ stored (24 * n.points + 4 * n.words + 32 * n.cells) (all_bytes 4 (trailer_of n)) out →
      out' ≡ stored (end_from n) (end_bytes n) out
  unfolding end_from end_bytes offset_words zones_from all_bytes
  end-first d e = rw (ne_eqb n.edition 2 d) e

  module _ (two : n.edition ≡ 2) (p : PutEndEntry n (length out)) where
    -- where the file ends
    pub end_fits : 24 * n.points + 4 * n.words + 32 * n.cells + 4 * n.cells + 36 ≤ length out
    unfolding trailer_from zones_from zone_bytes
    end_fits = let h = rw (eq-eqb n.edition 2 two) at p.fits in omega arith

    pub end-second : {o1 o2 : List ℕ} → o1 ≡ stored (24 * n.points + 4 * n.words + 32 * n.cells + 4 * n.cells) (le_bytes 4 (24 * n.points + 4 * n.words + 32 * n.cells)) out →
        o2 ≡ stored (24 * n.points + 4 * n.words + 32 * n.cells + 4 * n.cells + 4) (all_bytes 4 (trailer_of n)) o1 → o2 ≡ stored (end_from n) (end_bytes n) out
    unfolding end_from end_bytes offset_words zones_from all_bytes
    end-second e1 e2 =
        let zf : ℕ = 24 * n.points + 4 * n.words + 32 * n.cells in
        let k : length (le_bytes 4 zf) ≡ 4 = length-le_bytes 4 zf in
        let more = stored_more (zf + 4 * n.cells) out (le_bytes 4 zf) (all_bytes 4 (trailer_of n)) (omega (arith, end_fits, k, trailer-long n)) in
        rw (eq-eqb n.edition 2 two, append-nil) (e2 ∙ rw (← e1, k) at more)

-- ---- what stands after the pressures

module _ (n : Counts) (zones out : List ℕ) where
  pub tail-first : (n.edition ≡ 2 → ⊥) → {out' : List ℕ} → out' ≡ stored (end_from n) (end_bytes n) out →
      out' ≡ stored (zones_from n) (all_bytes 4 (zone_words n zones) ++ end_bytes n) out
  unfolding end_from zone_words all_bytes
  tail-first d e = rw (ne_eqb n.edition 2 d) (rw (ne_eqb n.edition 2 d) at e)

  module _ (two : n.edition ≡ 2) (long : length zones ≡ n.cells) (p : PutEndEntry n (length out)) where
    zones-long : length (all_bytes 4 zones) ≡ 4 * n.cells
    zones-long = length-all_bytes 4 zones ∙ ap (λ (k : ℕ). 4 * k) long

    end-long : length (end_bytes n) ≡ 36
    unfolding end_bytes offset_words
    end-long = length-append (all_bytes 4 (offset_words n)) (all_bytes 4 (trailer_of n)) ∙ omega (arith, length-all_bytes 4 (offset_words n), one, trailer-long n)
      where
        one : length (offset_words n) ≡ 1
        one = rw (eq-eqb n.edition 2 two)

    pub tail-second : {o1 o2 : List ℕ} → o1 ≡ stored (24 * n.points + 4 * n.words + 32 * n.cells) (all_bytes 4 zones) out → o2 ≡ stored (end_from n) (end_bytes n) o1 →
        o2 ≡ stored (zones_from n) (all_bytes 4 (zone_words n zones) ++ end_bytes n) out
    unfolding end_from zones_from zone_words
    tail-second e1 e2 =
        let zf : ℕ = 24 * n.points + 4 * n.words + 32 * n.cells in
        let more = stored_more zf out (all_bytes 4 zones) (end_bytes n) (omega (arith, zones-long, end-long, end_fits n out two p)) in
        let f = rw (eq-eqb n.edition 2 two) at e2 in
        rw (eq-eqb n.edition 2 two) (f ∙ rw (← e1, zones-long) at more)

-- ---- copy_zones

pub zones-count : (file : List ℕ) (n : Counts) → opened file ≡ Ok n → length (zones_of file) ≡ n.cells
unfolding cells_of
zones-count file n e = length-zones file ∙ ap (λ (m : Counts). m.cells) (sym (opens file n e).same)

pub zones-room : (file : List ℕ) (n : Counts) (room : ℕ) → opened file ≡ Ok n → zones_from n + 4 * n.cells ≤ room →
    24 * n.points + 4 * n.words + 32 * n.cells + 4 * length (zones_of file) ≤ room
unfolding zones_from
zones-room file n room e h = rw (zones-count file n e) h

-- the zones of a case stand where those of the file stand that is made of it
pub copied_at : {case : List ℕ} {n to : Counts} (room : ℕ) (zones out : List ℕ) {out' : List ℕ} → CopyEntry case n to room → out' ≡ stored (zones_from n) zones out →
    out' ≡ stored (24 * to.points + 4 * to.words + 32 * to.cells) zones out
unfolding zones_from
copied_at room zones out p e = rw (p.points, p.words, p.cells) e

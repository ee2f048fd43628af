-- The ways out of `open`, and what a case that opened has. Assumes nothing.
use Prim.Native.Nat.{ℕ, ◌+◌, ◌*◌, ◌≤◌, ◌<◌}
use native.Mathlib.Omega.{arith}
use mathlib.Core.Path.{◌≡◌, refl, sym}
use mathlib.Core.Bool.{Bool, true, false, ◌&&◌, ◌||◌}
use mathlib.Core.List.{List}
use lib.Dec.{leb, ltb}
use lib.ListN.{length}
use borrow.Author.Tests.{eq-eqb, ne_eqb, le-leb, lt-leb, eqb-true, ltb-false}
use Rattle.case_file.specs.declared.Counts.{Counts}
use Rattle.case_file.specs.Trailer.{counts_of, zones_from, zone_bytes, trailer_from, is_dimension, has_offsets, has_zones, has_parts, trailer_right, over_limit, opened}
use Rattle.std.specs.Prelude.{Ok, Err}
use Rattle.refusal.specs.declared.Refusal.TheVariants.{WrongTrailer, CountOverLimit}

pub and_left : (a b : Bool) → (a && b) ≡ true → a ≡ true
and_left true b e = refl
and_left false b e = absurd (let z : ◌≡◌ {A = ℕ} 0 1 = cc in omega arith)

pub and_right : (a b : Bool) → (a && b) ≡ true → b ≡ true
and_right true b e = e
and_right false b e = absurd (let z : ◌≡◌ {A = ℕ} 0 1 = cc in omega arith)

-- ---- the zones

-- how long they are, by edition
pub zones-none : (n : Counts) → (n.edition ≡ 2 → ⊥) → 0 ≡ zone_bytes n
unfolding zone_bytes
zones-none n h = rw (ne_eqb n.edition 2 h)

pub zones-some : (n : Counts) → n.edition ≡ 2 → 4 * n.cells + 4 ≡ zone_bytes n
unfolding zone_bytes
zones-some n h = rw (eq-eqb n.edition 2 h)

-- ---- the answers of `open`

module _ (file : List ℕ) where
  pub open-short : length file < 32 → Err WrongTrailer ≡ opened file
  unfolding opened trailer_right
  open-short h = rw (lt-leb 32 (length file) h)

  module _ (long : 32 ≤ length file) (n : Counts) (same : n ≡ counts_of file) where
    pub open-flat : is_dimension n.dimension ≡ false → Err WrongTrailer ≡ opened file
    unfolding opened trailer_right
    open-flat e = let d : is_dimension (counts_of file).dimension ≡ false = rw (← same) e in rw (le-leb 32 (length file) long, d)

    module _ (dim : is_dimension n.dimension ≡ true) where
      d : is_dimension (counts_of file).dimension ≡ true
      d = rw (← same) dim

      pub open-wrong : has_parts file n ≡ false → Err WrongTrailer ≡ opened file
      unfolding opened trailer_right
      open-wrong e = let p : has_parts file (counts_of file) ≡ false = rw (← same) e in rw (le-leb 32 (length file) long, d, p)

      module _ (parts : has_parts file n ≡ true) where
        right : trailer_right file ≡ true
        unfolding trailer_right
        right = let p : has_parts file (counts_of file) ≡ true = rw (← same) parts in rw (le-leb 32 (length file) long, d, p)

        pub open-over : over_limit n ≡ true → Err CountOverLimit ≡ opened file
        unfolding opened
        open-over e = let o : over_limit (counts_of file) ≡ true = rw (← same) e in rw (right, o)

        pub open-case : over_limit n ≡ false → Ok n ≡ opened file
        unfolding opened
        open-case e = let o : over_limit (counts_of file) ≡ false = rw (← same) e in rw (right, o, same)

-- ---- a case that opened

-- its counts are the trailer's, its parts fill it, and no count is over its limit
pub record Opens (file : List ℕ) (n : Counts) : Type 0 where
  pub same : n ≡ counts_of file
  pub right : trailer_right file ≡ true
  pub whole : 24 * n.points + 4 * n.words + 32 * n.cells + zone_bytes n + 32 ≡ length file
  pub points : n.points ≤ 65536
  pub cells : n.cells ≤ 16384
  pub words : n.words ≤ 1048576

-- a file whose trailer is right ends with it
pub ends : (file : List ℕ) → trailer_right file ≡ true → trailer_from (counts_of file) + 32 ≡ length file
unfolding trailer_right has_parts
ends file e =
    sym (eqb-true _ _ (and_right (has_offsets file (counts_of file) && has_zones file (counts_of file)) _ (and_right (leb 32 (length file) && is_dimension (counts_of file).dimension) _ e)))

pub within : (n : Counts) → over_limit n ≡ false → (n.points ≤ 65536) × (n.cells ≤ 16384) × (n.words ≤ 1048576)
unfolding over_limit
within n e =
    let pc = or_left _ _ e in (
      ltb-false _ _ (or_left _ _ pc),
      ltb-false _ _ (or_right (ltb 65536 n.points) _ pc),
      ltb-false _ _ (or_right (ltb 65536 n.points || ltb 16384 n.cells) _ e),
    )
  where
    or_left : (a b : Bool) → (a || b) ≡ false → a ≡ false
    or_left true b e = e
    or_left false b e = refl

    or_right : (a b : Bool) → (a || b) ≡ false → b ≡ false
    or_right true b e = absurd (let z : ◌≡◌ {A = ℕ} 0 1 = cc in omega arith)
    or_right false b e = e

pub opens : (file : List ℕ) (n : Counts) → opened file ≡ Ok n → Opens file n
unfolding opened
opens file n e = by (trailer_right file) refl (over_limit (counts_of file)) refl
  where
    by : (t : Bool) → trailer_right file ≡ t → (o : Bool) → over_limit (counts_of file) ≡ o → Opens file n
    by false r o v = absurd (let z : ◌≡◌ {A = ℕ} 0 1 = cc in omega arith)
    by true r true v = absurd (let z : ◌≡◌ {A = ℕ} 0 1 = cc in omega arith)
    by true r false v =
        let m : n ≡ counts_of file = cc in
        let w = within (counts_of file) v in
        let all : 24 * (counts_of file).points + 4 * (counts_of file).words + 32 * (counts_of file).cells + zone_bytes (counts_of file) + 32 ≡ length file = unfold trailer_from in unfold zones_from in ends file r in
        record { same = m; right = r; whole = rw m all; points = rw m w.0; cells = rw m w.1; words = rw m w.2 }

-- Two files that are the same outside velocities and pressures: `outside` is the same of both, and a cell with the same bits has the same values. Assumes nothing.
use Prim.Native.Nat.{ℕ, ◌+◌, ◌-◌, ◌*◌, ◌≤◌, ◌<◌}
use native.Mathlib.Omega.{arith}
use mathlib.Core.Path.{◌≡◌, refl, ap, sym, ◌∙◌}
use mathlib.Core.Bool.{Bool, true, false}
use mathlib.Core.List.{List}
use lib.Dec.{eqb}
use lib.ListN.{length, get_or, take, drop, length-take, length-drop}
use lib.Seq.{ext_get_or, get_or-take, get_or-drop}
use borrow.Author.Tests.{eqb-true}
use Rattle.arith.specs.Bytes.{le32, le64, float_at, vec_at}
use Rattle.case_file.specs.declared.Counts.{Counts}
use Rattle.case_file.specs.Trailer.{trailer_word, counts_of, field_from, pressures_from, zones_from, zone_bytes, trailer_from, has_offsets, has_zones, has_parts, trailer_right}
use Rattle.case_file.specs.Field.{blank, outside, values_in, values_of}
use Rattle.case_file.specs.Same.{SameOutsideFields, SameBytes, SameAt}
use Rattle.case_file.proofs.TrailerLaws.{zones-some, ends}
use Rattle.case_file.proofs.OutsideLaws.{outside-counts}

-- ---- numbers in the same bytes

module _ (a b : List ℕ) where
  abbrev Same : ℕ → ℕ → Type 0
  Same = SameBytes a b

  part : (at j n : ℕ) → Same at (j + n) → Same (at + j) n
  part at j n h k l = let e : at + (j + k) ≡ at + j + k = omega arith in rw e at (h (j + k) (omega arith))

  less : (at n m : ℕ) → m ≤ n → Same at n → Same at m
  less at n m l h k w = h k (omega arith)

  pub le32-same : (at : ℕ) → Same at 4 → le32 a at ≡ le32 b at
  unfolding le32
  le32-same at h =
      let z : at + 0 ≡ at = omega arith in
      let e : get_or a at 0 ≡ get_or b at 0 = rw z at (h 0 (omega arith)) in
      rw (e, h 1 (omega arith), h 2 (omega arith), h 3 (omega arith))

  le64-same : (at : ℕ) → Same at 8 → le64 a at ≡ le64 b at
  unfolding le64
  le64-same at h = rw (le32-same at (less at 8 4 (omega arith) h), le32-same (at + 4) (part at 4 4 h))

  float_at-same : (at : ℕ) → Same at 8 → float_at a at ≡ float_at b at
  unfolding float_at
  float_at-same at h = rw (le64-same at h)

  vec_at-same : (at : ℕ) → Same at 24 → vec_at a at ≡ vec_at b at
  unfolding vec_at
  vec_at-same at h =
      rw (float_at-same at (less at 24 8 (omega arith) h), float_at-same (at + 8) (less (at + 8) 16 8 (omega arith) (part at 8 16 h)), float_at-same (at + 16) (part at 16 8 h))

-- ---- the cases without their fields

module _ (a b : List ℕ) (s : SameOutsideFields a b) where
  module _ (right : trailer_right a ≡ true) where
    ends_there : trailer_from (counts_of a) + 32 ≡ length a
    ends_there = ends a right

    ends-behind : zones_from (counts_of a) + zone_bytes (counts_of a) + 32 ≡ length a
    unfolding trailer_from
    ends-behind = ends_there

    whole : field_from (counts_of a) + 32 * (counts_of a).cells ≡ zones_from (counts_of a)
    unfolding field_from zones_from
    whole = omega arith

    behind : (k : ℕ) → zones_from (counts_of a) ≤ k → get_or a k 0 ≡ get_or b k 0
    behind k h = s.bytes k (λ w. omega (arith, w.to))

    before : (k : ℕ) → k < field_from (counts_of a) → get_or a k 0 ≡ get_or b k 0
    before k h = s.bytes k (λ w. omega (arith, w.from))

    word : (k : ℕ) → trailer_word b k ≡ trailer_word a k
    unfolding trailer_word
    word k =
        rw (← s.long)
        (sym (le32-same a b (length a - 32 + 4 * k) (λ j h. behind (length a - 32 + 4 * k + j) (omega (arith, ends-behind)))))

    counts : counts_of b ≡ counts_of a
    unfolding counts_of
    counts = rw (word 0, word 1, word 2, word 3)

    -- the offset of the zones, which edition 2 has
    zones-too : has_zones b (counts_of a) ≡ has_zones a (counts_of a)
    unfolding has_zones
    zones-too = by (eqb (counts_of a).edition 2) refl
      where
        by : (t : Bool) → eqb (counts_of a).edition 2 ≡ t → has_zones b (counts_of a) ≡ has_zones a (counts_of a)
        by false e = rw e
        by true e =
            let z = zones-some (counts_of a) (eqb-true _ _ e) in
            let w : le32 a (length a - 36) ≡ le32 b (length a - 36) = le32-same a b (length a - 36) (λ j h. behind (length a - 36 + j) (omega (arith, ends-behind, z))) in
            rw (e, ← s.long, w)

    right-too : trailer_right b ≡ true
    unfolding trailer_right has_parts has_offsets
    right-too = rw (counts, zones-too, ← s.long, word 4, word 5, word 6, word 7) right

    taken : take (field_from (counts_of a)) a ≡ take (field_from (counts_of a)) b
    taken =
        let n = field_from (counts_of a) in
        ext_get_or 0 (take n a) (take n b) (omega (arith, length-take n a, length-take n b, s.long))
        (λ i h. let l : i < n = omega (arith, length-take n a) in get_or-take n a i 0 l ∙ before i l ∙ sym (get_or-take n b i 0 l))

    dropped : drop (field_from (counts_of a) + 32 * (counts_of a).cells) a ≡ drop (field_from (counts_of a) + 32 * (counts_of a).cells) b
    dropped =
        let n = field_from (counts_of a) + 32 * (counts_of a).cells in
        ext_get_or 0 (drop n a) (drop n b) (omega (arith, length-drop n a, length-drop n b, s.long))
        (λ i h. get_or-drop n a i 0 ∙ behind (n + i) (omega (arith, whole)) ∙ sym (get_or-drop n b i 0))

    same-right : outside a ≡ outside b
    unfolding outside blank
    same-right = rw (right, right-too, counts, outside, taken, dropped)

  same-wrong : trailer_right a ≡ false → outside a ≡ outside b
  same-wrong wrong = ap outside (ext_get_or 0 a b s.long (λ i h. s.bytes i (λ w. let r = w.right in let z : ◌≡◌ {A = ℕ} 0 1 = cc in omega arith)))

  pub same-outside : outside a ≡ outside b
  same-outside = by (trailer_right a) refl
    where
      by : (t : Bool) → trailer_right a ≡ t → outside a ≡ outside b
      by true e = same-right e
      by false e = same-wrong e

  -- ---- the values of a cell

  module _ (i : ℕ) (t : SameAt a b i) where
    counted : values_in a (counts_of a) i ≡ values_in b (counts_of a) i
    unfolding values_in
    counted =
        rw (vec_at-same a b (field_from (counts_of a) + 24 * i) (λ k h. t.velocity k h), float_at-same a b (pressures_from (counts_of a) + 8 * i) (λ k h. t.pressure k h))

    pub same-values : values_of a i ≡ values_of b i
    unfolding values_of
    same-values = counted ∙ ap (λ (n : Counts). values_in b n i) (sym (outside-counts a) ∙ ap counts_of same-outside ∙ outside-counts b)

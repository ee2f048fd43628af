-- A polygon whose vertices lie within 1,048,576 each way contains no point of 2^53 in size or more. Assumes nothing.
use mathlib.Core.Path.{◌≡◌, refl, sym, ap, ◌∙◌}
use mathlib.Core.Bool.{Bool, true, false, ◌&&◌, ◌||◌, true≢false, false≢true}
use mathlib.Core.List.{List, [], ◌∷◌, ◌++◌}
use Prim.Native.Nat.{ℕ, ◌*◌, ◌^◌, ◌≤◌}
use native.Mathlib.Nat.{mul-le-mul_right}
use native.Mathlib.Omega.{arith}
use lib.IntN.{pos}
use lib.Dec.{T, lit≤}
use lib.Ieee.{Float, nan, inf, fin, binary64, up, down, lt, le, eq, is_nan, fits, of_bits}
use lib.Ieee.Fits.{down_pos, sub-fits}
use borrow.Author.Tests.{lt-ltb}
use Rattle.arith.specs.F64.{◌⊕◌, ◌⊖◌, ◌≺◌, ◌≼◌, 0·0, 1e-12, float, finite, abs, fmin, fmax, within}
use Rattle.arith.specs.Lists.{Side, sides_with, sides, all_of}
use Rattle.arith.specs.declared.Vec2.{Vec2}
use Rattle.arith.proofs.Floats.{holds}
use Rattle.lines_polygon.specs.declared.Limits.{Limits}
use Rattle.lines_polygon.specs.Vertices.{xy_within}
use Rattle.lines_polygon.specs.Contains.{contains}
use Rattle.lines_polygon.specs.Extent.{LimitsHold, end_within, run, is_level, crossing_within, side_within}
use Rattle.lines_polygon.proofs.OrderLaws.{below_false, at-most-true, at-most-is}
use Rattle.lines_polygon.proofs.LimitLaws.{both, min-one, max-one, all_first, within-hold}
use Rattle.lines_polygon.proofs.SizeLaws.{Sized, add-sized, sub-sized, sub-nonzero, run-sized}

-- ---- the limits, 2^22 each way

abbrev most : Float
most = fin false 1 (pos 22)

abbrev fewest : Float
fewest = fin true 1 (pos 22)

abbrev wide : Limits
wide = record { low = fewest; high = most; right = most; left = fewest }

sized-most : (x : Float) (k : ℕ) → k ≤ 4194304 → Sized x k 1 → (x ≼ most) ≡ true
unfolding le lt eq
sized-most nan k l h = absurd h
sized-most (inf s) k l h = absurd h
sized-most (fin true m e) k l h = at-most-is (m * up e * 1) (1 * 2 ^ 22 * down e) true false (omega arith)
sized-most (fin false m e) k l h = at-most-is (m * up e * 1) (1 * 2 ^ 22 * down e) false false (omega (arith, h, mul-le-mul_right (down e) l))

sized-fewest : (x : Float) (k : ℕ) → k ≤ 4194304 → Sized x k 1 → (fewest ≼ x) ≡ true
unfolding le lt eq
sized-fewest nan k l h = absurd h
sized-fewest (inf s) k l h = absurd h
sized-fewest (fin false m e) k l h = at-most-is (1 * 2 ^ 22 * down e) (m * up e * 1) true false (omega arith)
sized-fewest (fin true m e) k l h = at-most-is (1 * 2 ^ 22 * down e) (m * up e * 1) true true (omega (arith, h, mul-le-mul_right (down e) l))

sized-finite : (x : Float) (k : ℕ) → Sized x k 1 → finite x ≡ true
unfolding finite
sized-finite nan k h = absurd h
sized-finite (inf s) k h = absurd h
sized-finite (fin s m e) k h = refl

-- ---- a vertex

within-sized : (x : Float) → within x ≡ true → Sized x 1048576 1
unfolding within abs le lt eq of_bits
within-sized nan h = absurd (false≢true h)
within-sized (inf s) h = absurd (false≢true h)
within-sized (fin s m e) h = let k = at-most-true (m * up e * 1) (1 * 2 ^ 20 * down e) false false h in omega (arith, k)

tolerance-sized : Sized 1e-12 1 1
unfolding of_bits
tolerance-sized = lit≤ tt

zero-sized : Sized 0·0 2097152 1
unfolding of_bits
zero-sized = lit≤ tt

record NearVertex (p : Vec2) : Type 0 where
  of-x : Sized p.x 1048576 1
  of-y : Sized p.y 1048576 1
  fit : T (fits binary64 p.y)

vertex-near : (p : Vec2) → xy_within p ≡ true → NearVertex p
unfolding xy_within
vertex-near p e =
    let i = both (within p.x) (within p.y && fits binary64 p.y) e in
    let j = both (within p.y) (fits binary64 p.y) i.1 in
    record { of-x = within-sized p.x i.0; of-y = within-sized p.y j.0; fit = holds j.1 }

less-12 : (x : Float) → Sized x 1048576 1 → (fewest ≼ x ⊖ 1e-12) ≡ true
less-12 x h = sized-fewest (x ⊖ 1e-12) 1048577 (lit≤ tt) (sub-sized x 1e-12 1048576 1 (lit≤ tt) h tolerance-sized)

more-12 : (x : Float) → Sized x 1048576 1 → (x ⊕ 1e-12 ≼ most) ≡ true
more-12 x h = sized-most (x ⊕ 1e-12) 1048577 (lit≤ tt) (add-sized x 1e-12 1048576 1 (lit≤ tt) h tolerance-sized)

end-within : (p : Vec2) → NearVertex p → end_within wide p ≡ true
unfolding end_within
end-within p n =
    rw (less-12 p.y n.of-y, sized-fewest p.y 1048576 (lit≤ tt) n.of-y, more-12 p.y n.of-y, sized-most p.y 1048576 (lit≤ tt) n.of-y, more-12 p.x n.of-x, less-12 p.x n.of-x)

-- ---- a side

module _ (a b : Vec2) (na : NearVertex a) (nb : NearVertex b) where
  abbrev s : Side Vec2
  s = record { from = a; to = b }

  run-near : is_level s ≡ false → Sized (run s) 2097152 1
  unfolding run is_level
  run-near e =
      run-sized (b.x ⊖ a.x) (b.y ⊖ a.y) (sub-fits binary64 b.y a.y)
      (sub-nonzero b.y a.y nb.fit na.fit (λ h k. true≢false (sym (ap (λ (t : Bool). t && (b.y ≼ a.y)) h ∙ k) ∙ e)))
      (sub-sized b.x a.x 1048576 1048576 (lit≤ tt) nb.of-x na.of-x) (sub-sized b.y a.y 1048576 1048576 (lit≤ tt) nb.of-y na.of-y)

  -- where a crossing lies at most, and at least
  reach-most : Sized (run s) 2097152 1 → (fmax (run s) 0·0 ⊕ a.x ≼ most) ≡ true
  reach-most h =
      sized-most (fmax (run s) 0·0 ⊕ a.x) 3145728 (lit≤ tt)
      (add-sized (fmax (run s) 0·0) a.x 2097152 1048576 (lit≤ tt) (max-one (λ (v : Float). Sized v 2097152 1) (run s) 0·0 h zero-sized) na.of-x)

  reach-fewest : Sized (run s) 2097152 1 → (fewest ≼ fmin (run s) 0·0 ⊕ a.x) ≡ true
  reach-fewest h =
      sized-fewest (fmin (run s) 0·0 ⊕ a.x) 3145728 (lit≤ tt)
      (add-sized (fmin (run s) 0·0) a.x 2097152 1048576 (lit≤ tt) (min-one (λ (v : Float). Sized v 2097152 1) (run s) 0·0 h zero-sized) na.of-x)

  crossing-within : crossing_within wide s ≡ true
  unfolding crossing_within
  crossing-within = by (is_level s) refl
    where
      by : (t : Bool) → is_level s ≡ t → (t || (finite (run s) && ((fmax (run s) 0·0 ⊕ a.x ≼ most) && (fewest ≼ fmin (run s) 0·0 ⊕ a.x)))) ≡ true
      by true e = refl
      by false e = rw (sized-finite (run s) 2097152 (run-near e), reach-most (run-near e), reach-fewest (run-near e))

  side-within : side_within wide s ≡ true
  unfolding side_within
  side-within = rw (end-within a na, end-within b nb, crossing-within)

-- ---- all sides

all_then : {A : Type 0} (p : A → Bool) (l : List A) (a : A) → all_of p l ≡ true → p a ≡ true → all_of p (l ++ a ∷ []) ≡ true
unfolding all_of
all_then p [] a e h = rw (h)
all_then p (b ∷ l) a e h = let k = all_first p b l e in rw k.0 (all_then p l a k.1 h)

module _ {A : Type 0} (p : A → Bool) (r : Side A → Bool) (h : (a b : A) → p a ≡ true → p b ≡ true → r (record { from = a; to = b }) ≡ true) where
  pairs-all : (l k : List A) → all_of p l ≡ true → all_of p k ≡ true → all_of r (sides_with l k) ≡ true
  unfolding all_of sides_with
  pairs-all [] k e f = refl
  pairs-all (a ∷ l) [] e f = refl
  pairs-all (a ∷ l) (b ∷ k) e f =
      let i = all_first p a l e in
      let j = all_first p b k f in
      rw (h a b i.0 j.0) (pairs-all l k i.1 j.1)

  sides_all : (l : List A) → all_of p l ≡ true → all_of r (sides l) ≡ true
  unfolding sides
  sides_all [] e = unfold all_of in refl
  sides_all (a ∷ l) e = let i = all_first p a l e in pairs-all (a ∷ l) (l ++ a ∷ []) e (all_then p l a i.1 i.0)

-- ---- the polygon

wide-hold : (polygon : List Vec2) → all_of xy_within polygon ≡ true → LimitsHold polygon wide
wide-hold polygon w =
    within-hold polygon wide (sides_all xy_within (side_within wide) (λ a b h k. side-within a b (vertex-near a h) (vertex-near b k)) polygon w) (unfold is_nan in refl) (unfold is_nan in refl)

-- what is not so would be contained nowhere
refuted : (t c : Bool) → (t ≡ true → c ≡ false) → c ≡ true → t ≡ false
refuted true c h k = absurd (true≢false (sym k ∙ h refl))
refuted false c h k = refl

small : (x : Float) → finite x ≡ true → (most ≺ x) ≡ false → (x ≺ fewest) ≡ false → (abs x ≺ float 0x4340000000000000) ≡ true
unfolding abs lt finite of_bits
small nan f h k = absurd (false≢true f)
small (inf s) f h k = absurd (false≢true f)
small (fin false m e) f h k =
    let i = below_false (1 * 2 ^ 22 * down e) (m * up e * 1) false false h in
    lt-ltb (m * up e * 1) (1 * 2 ^ 53 * down e) (omega (arith, i, down_pos e))
small (fin true m e) f h k =
    let i = below_false (m * up e * 1) (1 * 2 ^ 22 * down e) true true k in
    lt-ltb (m * up e * 1) (1 * 2 ^ 53 * down e) (omega (arith, i, down_pos e))

pub contained-near : (q : Vec2) (polygon : List Vec2) → all_of xy_within polygon ≡ true → finite q.x ≡ true → finite q.y ≡ true → contains q polygon ≡ true
    → ((abs q.x ≺ float 0x4340000000000000) ≡ true) × ((abs q.y ≺ float 0x4340000000000000) ≡ true)
contained-near q polygon w fx fy c =
    let o = wide-hold polygon w in (
      small q.x fx (refuted (most ≺ q.x) (contains q polygon) (λ h. o.beyond q h) c) (refuted (q.x ≺ fewest) (contains q polygon) (λ h. o.before q h) c),
      small q.y fy (refuted (most ≺ q.y) (contains q polygon) (λ h. o.above q h) c) (refuted (q.y ≺ fewest) (contains q polygon) (λ h. o.below q h) c),
    )

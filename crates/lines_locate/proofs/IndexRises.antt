-- The bin of a place along an axis rises with the place. Assumes nothing.
use Prim.Native.Nat.{ℕ, ◌+◌, ◌≤◌, ◌<◌}
use native.Mathlib.Nat.{le_refl, le_antisymm}
use native.Mathlib.Omega.{arith}
use mathlib.Core.Path.{◌≡◌, refl, sym, ◌∙◌}
use mathlib.Core.Logic.{◌⊎◌, inl, inr}
use mathlib.Core.Bool.{Bool, true, false, cond, true≢false}
use lib.Dec.{ltb}
use lib.Ieee.{Float}
use borrow.Author.Tests.{ltb-true, ltb-false}
use Rattle.arith.specs.F64.{◌⊕◌, ◌≼◌, 0·5, ofℕ, floorℕ}
use Rattle.arith.proofs.RecordLaws.{lt-or-ge}
use Rattle.lines_polygon.proofs.OrderLaws.{most-through}
use Rattle.lines_polygon.proofs.RiseLaws.{floor-order}
use Rattle.lines_locate.specs.Ranges.{index_at}

pub index-at-rises : (n : ℕ) (x y : Float) → (x ≼ y) ≡ true → index_at n x ≤ index_at n y
unfolding index_at
index-at-rises n x y h = by (ltb (floorℕ x) n) refl (ltb (floorℕ y) n) refl (ofℕ (floorℕ x) ⊕ 0·5 ≼ x) refl (ofℕ (floorℕ y) ⊕ 0·5 ≼ y) refl
  where
    f : floorℕ x ≤ floorℕ y
    f = floor-order x y h

    -- a half of the same whole part
    half : floorℕ x ≡ floorℕ y → (ofℕ (floorℕ x) ⊕ 0·5 ≼ x) ≡ true → (ofℕ (floorℕ y) ⊕ 0·5 ≼ y) ≡ true
    half e k = rw (← e) (most-through (ofℕ (floorℕ x) ⊕ 0·5) x y k h)

    by : (t : Bool) → ltb (floorℕ x) n ≡ t → (u : Bool) → ltb (floorℕ y) n ≡ u → (v : Bool) → (ofℕ (floorℕ x) ⊕ 0·5 ≼ x) ≡ v → (z : Bool) → (ofℕ (floorℕ y) ⊕ 0·5 ≼ y) ≡ z
        → cond t (cond v (floorℕ x + 1) (floorℕ x)) n ≤ cond u (cond z (floorℕ y + 1) (floorℕ y)) n
    by true et true eu true ev true ez = omega (arith, f)
    by true et true eu true ev false ez = by_2 (lt-or-ge (floorℕ x) (floorℕ y))
      where
        by_2 : (floorℕ x < floorℕ y) ⊎ (floorℕ y ≤ floorℕ x) → floorℕ x + 1 ≤ floorℕ y
        by_2 (inl k) = omega arith
        by_2 (inr k) = absurd (true≢false (sym (half (le_antisymm f k) ev) ∙ ez))
    by true et true eu false ev true ez = omega (arith, f)
    by true et true eu false ev false ez = f
    by true et false eu true ev z ez = let k = ltb-true (floorℕ x) n et in omega arith
    by true et false eu false ev z ez = let k = ltb-true (floorℕ x) n et in omega arith
    by false et true eu v ev z ez =
        let k = ltb-false (floorℕ x) n et in
        let j = ltb-true (floorℕ y) n eu in
        absurd (omega (arith, f))
    by false et false eu v ev z ez = le_refl n

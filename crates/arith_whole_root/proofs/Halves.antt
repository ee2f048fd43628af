-- A whole square root by its halves: what `is_root_from`'s tests say of them. Assumes nothing.
use mathlib.Core.Path.{◌≡◌, refl, sym, ap, ◌∙◌}
use Prim.Native.Nat.{ℕ, ◌+◌, ◌-◌, ◌*◌, ◌^◌, ◌≤◌, ◌<◌}
use native.Mathlib.Nat.{mul_comm, mul_assoc, mul_left_comm, mul-le-mul}
use native.Mathlib.Omega.{arith}
use mathlib.Core.Bool.{Bool, true, false, not}
use lib.Dec.{T, leb, ltb, ltb→lt, leb→le, nleb→lt}
use Rattle.arith_whole_root.specs.Whole.{RootFrom, HalfRoot}
use Rattle.arith_whole_root.proofs.Steps.{square-sum}

-- the product of two halves fits
pub product : (a b : ℕ) → a < 2 ^ 28 → b < 2 ^ 28 → a * b < 2 ^ 56
product a b h k =
    let p : a * b ≤ 2 ^ 28 * (2 ^ 28 - 1) = mul-le-mul {n₁ = a} {m₁ = b} {n₂ = 2 ^ 28} {m₂ = 2 ^ 28 - 1} (omega arith) (omega arith) in
    omega arith

-- the square of a root by its halves
halves : (h l p : ℕ) → (h * p + l) * (h * p + l) ≡ p * p * (h * h) + 2 * (p * (h * l)) + l * l
halves h l p =
    let a : h * p * (h * p) ≡ p * p * (h * h) = mul_assoc h p (h * p) ∙ ap (λ (x : ℕ). h * x) (mul_left_comm p h p) ∙ sym (mul_assoc h h (p * p)) ∙ mul_comm (h * h) (p * p) in
    let b : h * p * l ≡ p * (h * l) = ap (λ (x : ℕ). x * l) (mul_comm h p) ∙ mul_assoc p h l in
    rw (square-sum (h * p) l, a, b) refl

-- what is left of d * 2 ^ 54 when the parts of the square are taken from it
left_over : (d h l u v w : ℕ) → d ≡ u + h * h → u * 2 ^ 27 ≡ v + 2 * (h * l) → v * 2 ^ 27 ≡ w + l * l → d * 2 ^ 54 ≡ (h * 2 ^ 27 + l) * (h * 2 ^ 27 + l) + w
left_over d h l u v w p q r = omega (arith, halves h l (2 ^ 27))

-- the square of q is at most n, and that of q + 2 above it
next-square : (n q w : ℕ) → n ≡ q * q + w → w < 4 * q + 4 → RootFrom n q
next-square n q w e h = record { below = omega arith; above = omega (arith, square-sum q 2) }

-- the root by a number that is half of it
pub half : (n m q : ℕ) → 0 < m → q ≡ 2 * m - 1 → RootFrom n q → HalfRoot n m
half n m q p e R = go (leb ((q + 1) * (q + 1)) n) (leb→le ((q + 1) * (q + 1)) n) (nleb→lt ((q + 1) * (q + 1)) n)
  where
    go : (b : Bool) → (T b → (q + 1) * (q + 1) ≤ n) → (T (not b) → n < (q + 1) * (q + 1)) → HalfRoot n m
    go true f g =
        record { q = q + 1; whole = record { below = f tt; above = omega (arith, R.above, square-sum (q + 1) 1, square-sum q 2, square-sum q 1) }; half = omega arith }
    go false f g = record { q = q; whole = record { below = R.below; above = g tt }; half = omega arith }

-- `is_root_from`'s tests
module _ (d h l : ℕ) where
  abbrev rest-1 : ℕ
  rest-1 = d - h * h

  abbrev rest-2 : ℕ
  rest-2 = rest-1 * 2 ^ 27 - 2 * (h * l)

  abbrev rest-3 : ℕ
  rest-3 = rest-2 * 2 ^ 27 - l * l

  pub checked :
      h * h ≤ d →
      2 * (h * l) ≤ rest-1 * 2 ^ 27 →
      l * l ≤ rest-2 * 2 ^ 27 →
      T (ltb rest-3 (4 * (h * 2 ^ 27 + l) + 4)) →
      RootFrom (d * 2 ^ 54) (h * 2 ^ 27 + l)
  checked p q r t =
      next-square (d * 2 ^ 54) (h * 2 ^ 27 + l) rest-3
      (left_over d h l rest-1 rest-2 rest-3 (omega arith) (omega arith) (omega arith))
      (ltb→lt rest-3 (4 * (h * 2 ^ 27 + l) + 4) t)

-- `isqrt` gives the whole square root. Assumes nothing.
use mathlib.Core.Path.{◌≡◌, ap, ◌∙◌}
use Prim.Native.Nat.{ℕ, zero, suc, ◌+◌, ◌*◌, ◌/◌, ◌^◌, ◌≤◌, ◌<◌}
use native.Mathlib.Nat.{mul_assoc, mul_left_comm, mul-suc}
use native.Mathlib.Omega.{arith}
use mathlib.Core.Bool.{Bool, true, false, cond, not}
use lib.Dec.{T, leb, leb→le, nleb→lt}
use lib.Pow.{pow-add}
use Rattle.arith_root.specs.Root.{isqrt, digit}
use Rattle.arith_whole_root.specs.Whole.{WholeRoot}
use Rattle.arith_whole_root.proofs.Steps.{square-sum}

pub four : (r : ℕ) → 2 * r * (2 * r) ≡ 4 * (r * r)
four r = simp (mul_assoc, mul_left_comm r 2 r) (omega arith)

step : (n r : ℕ) → WholeRoot (n / 4) r → WholeRoot n (digit n (2 * r))
step n r h = go (leb ((2 * r + 1) * (2 * r + 1)) n) (leb→le ((2 * r + 1) * (2 * r + 1)) n) (nleb→lt ((2 * r + 1) * (2 * r + 1)) n)
  where
    go : (b : Bool) → (T b → (2 * r + 1) * (2 * r + 1) ≤ n) → (T (not b) → n < (2 * r + 1) * (2 * r + 1)) → WholeRoot n (cond b (2 * r + 1) (2 * r))
    go true p q =
        let p' = p tt in
        record { below = p'; above = omega (arith, square-sum (2 * r + 1) 1, square-sum (2 * r) 1, square-sum r 1, four r, h.above) }
    go false p q = record { below = omega (arith, four r, h.below); above = q tt }

under : (k n : ℕ) → n < 2 ^ (2 * suc k) → n / 4 < 2 ^ (2 * k)
under k n h =
    let e : 2 ^ (2 * suc k) ≡ 2 ^ (2 * k) * 4 = ap (λ (x : ℕ). 2 ^ x) (mul-suc 2 k) ∙ pow-add 2 (2 * k) 2 in
    omega arith

pub isqrt-is : (k n : ℕ) → n < 2 ^ (2 * k) → WholeRoot n (isqrt k n)
unfolding isqrt
isqrt-is zero n h = record { below = omega arith; above = omega arith }
isqrt-is (suc k) n h = step n (isqrt k (n / 4)) (isqrt-is k (n / 4) (under k n h))

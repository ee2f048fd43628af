-- Whole square roots: there is one, and how its size goes with the square's. Assumes nothing.
use mathlib.Core.Path.{◌≡◌}
use Prim.Native.Nat.{ℕ, suc, ◌+◌, ◌*◌, ◌≤◌, ◌<◌}
use native.Mathlib.Nat.{mul-le-mul, le_antisymm, le_of_suc-le-suc, lt_of_not-le}
use native.Mathlib.Omega.{arith}
use Rattle.arith_whole_root.specs.Whole.{WholeRoot}

-- where r + 1 and s are the two roots' ends, the squares say which is smaller
not-above : (n r s : ℕ) → WholeRoot n r → WholeRoot n s → suc s ≤ r → ⊥
not-above n r s p q g =
    let h : (s + 1) * (s + 1) ≤ r * r = mul-le-mul {n₁ = s + 1} {m₁ = s + 1} {n₂ = r} {m₂ = r} (omega arith) (omega arith) in
    omega arith

pub whole-one : (n r s : ℕ) → WholeRoot n r → WholeRoot n s → r ≡ s
whole-one n r s p q =
    le_antisymm (le_of_suc-le-suc (lt_of_not-le (not-above n r s p q))) (le_of_suc-le-suc (lt_of_not-le (not-above n s r q p)))

-- a root is at least m where m's square is at most n, and below m where the square of m is above n
pub at_least : (n r m : ℕ) → WholeRoot n r → m * m ≤ n → m ≤ r
at_least n r m p h =
    le_of_suc-le-suc (lt_of_not-le (λ (g : suc r ≤ m).
    let k : (r + 1) * (r + 1) ≤ m * m = mul-le-mul {n₁ = r + 1} {m₁ = r + 1} {n₂ = m} {m₂ = m} (omega arith) (omega arith) in
    omega arith))

pub less : (n r m : ℕ) → WholeRoot n r → n < m * m → r < m
less n r m p h =
    lt_of_not-le (λ (g : m ≤ r).
    let k : m * m ≤ r * r = mul-le-mul {n₁ = m} {m₁ = m} {n₂ = r} {m₂ = r} g g in
    omega arith)

-- Whole square roots, and the words of the contracts. Definitions only.
use Rattle.std.specs.Prelude.{◌≡◌, ℕ, ◌+◌, ◌*◌, ◌/◌, ◌≤◌, ◌<◌}

-- r is the whole square root of n: the largest number whose square is at most n.
pub record WholeRoot (n r : ℕ) : Type 0 where
  pub below : r * r ≤ n
  pub above : n < (r + 1) * (r + 1)

-- the square root of n is q or more, and less than q + 2.
pub record RootFrom (n q : ℕ) : Type 0 where
  pub below : q * q ≤ n
  pub above : n < (q + 2) * (q + 2)

-- m is half of n's whole square root q, rounded up where q is odd: √n / 2, rounded to the nearest whole number.
pub record HalfRoot (n m : ℕ) : Type 0 where
  pub q : ℕ
  pub whole : WholeRoot n q
  pub half : m ≡ (q + 1) / 2

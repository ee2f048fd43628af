-- Going round a polygon: the place after i is one of the round, and a flag that turns at each crossing tells an odd number of them.
use Rattle.std.proofs.Common.{◌≡◌, ℕ, ◌+◌, ◌%◌, ◌<◌, Bool, true, false, cond, not, eqb, refl, ap, zero-add, arith}
use borrow.Author.Tests.{eqb-false}
use Rattle.arith.specs.Lists.{after}

pub after_less : (n i : ℕ) → i < n → after n i < n
after_less n i h = by (eqb (i + 1) n) refl
  where
    by : (b : Bool) → eqb (i + 1) n ≡ b → cond b 0 (i + 1) < n
    by true e = omega arith
    by false e = omega (arith, eqb-false (i + 1) n e)

-- k crossings to come, and an odd number so far where the flag is set: an odd number in all
unfoldable pub odd : Bool → ℕ → Bool
odd inside k = eqb ((cond inside 1 0 + k) % 2) 1

pub odd-here : (inside : Bool) (k : ℕ) → odd inside (1 + k) ≡ odd (not inside) k
unfolding odd
odd-here false k = let e : (0 + (1 + k)) % 2 ≡ (1 + k) % 2 = omega arith in ap (λ m. eqb m 1) e
odd-here true k = let e : (1 + (1 + k)) % 2 ≡ (0 + k) % 2 = omega arith in ap (λ m. eqb m 1) e

pub odd-past : (inside : Bool) (k : ℕ) → odd inside (0 + k) ≡ odd inside k
odd-past inside k = rw (zero-add k)

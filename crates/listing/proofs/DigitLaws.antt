-- The text of a number: what `io` ensures determines it. Assumes nothing.
use Prim.Native.Nat.{ℕ, zero, suc, ◌-◌, ◌*◌, ◌/◌, ◌^◌, ◌≤◌, ◌<◌}
use native.Mathlib.Nat.{le_of_suc-le-suc, lt_of_not-le, pow-le-pow_right, pow-suc, one-le-pow, le-div_iff_mul-le, div-lt_iff_lt-mul}
use native.Mathlib.Omega.{arith}
use mathlib.Core.Path.{◌≡◌, refl, ap, sym, subst}
use mathlib.Core.Bool.{true, false}
use lib.Dec.{ltb}
use borrow.Author.Tests.{lt-ltb, le-ltb}
use Rattle.io.specs.Digits.{last_digits, IsDigitCount}
use Rattle.listing.specs.Listing.{decimal_within, decimal_text, hex_text}

-- digits that are the fewest are those of the definition
within-is : (m k n : ℕ) → k ≤ m → 1 ≤ k → n < 10 ^ k → (1 < k → 10 ^ (k - 1) ≤ n) → decimal_within m n ≡ last_digits 10 k n
unfolding decimal_within
within-is m zero n h g b l = absurd (omega arith)
within-is zero (suc k) n h g b l = absurd (omega arith)
within-is (suc m) (suc zero) n h g b l =
    let one : 10 ^ suc zero ≡ 10 = refl in
    let small : ltb n 10 ≡ true = lt-ltb n 10 (omega arith) in
    rw small
within-is (suc m) (suc (suc k)) n h g b l =
    let p : 10 ^ suc (suc k) ≡ 10 ^ suc k * 10 = pow-suc 10 (suc k) in
    let q : 10 ^ suc k ≡ 10 ^ k * 10 = pow-suc 10 k in
    let less : suc (suc k) - 1 ≡ suc k = omega arith in
    let least : 10 ^ suc k ≤ n = subst (λ (j : ℕ). 10 ^ j ≤ n) less (l (omega arith)) in
    let pos : 1 ≤ 10 ^ k = one-le-pow k 10 (omega arith) in
    let large : ltb n 10 ≡ false = le-ltb n 10 (omega arith) in
    let b' : n / 10 < 10 ^ suc k = (div-lt_iff_lt-mul {k = 10} {x = n} {y = 10 ^ suc k} (omega arith)).1 (omega arith) in
    let l' : 10 ^ k ≤ n / 10 = (le-div_iff_mul-le {k = 10} {x = 10 ^ k} {y = n} (omega arith)).1 (omega arith) in
    let less' : k ≡ suc k - 1 = omega arith in
    rw (large, within-is m (suc k) (n / 10) (omega arith) (omega arith) b' (λ _. subst (λ (j : ℕ). 10 ^ j ≤ n / 10) less' l'))

-- where `most` digits hold n, the fewest are no more
at_most : (b least n k most : ℕ) → 0 < b → IsDigitCount b least n k → least ≤ most → n < b ^ most → k ≤ most
at_most b least n k most h f within holds = le_of_suc-le-suc (lt_of_not-le not_more)
  where
    not_more : suc most ≤ k → ⊥
    not_more g =
        let p : b ^ (k - 1) ≤ n = f.2 (omega arith) in
        let q : b ^ most ≤ b ^ (k - 1) = pow-le-pow_right h (omega arith) in
        omega arith

pub few-decimal : (n k : ℕ) → n < 18446744073709551616 → IsDigitCount 10 1 n k → k ≤ 20
few-decimal n k h f = at_most 10 1 n k 20 (omega arith) f (omega arith) (omega arith)

pub few-hex : (n k : ℕ) → n < 18446744073709551616 → IsDigitCount 16 16 n k → k ≤ 16
few-hex n k h f = at_most 16 16 n k 16 (omega arith) f (omega arith) (omega arith)

pub decimal-is : (n k : ℕ) → n < 18446744073709551616 → IsDigitCount 10 1 n k → last_digits 10 k n ≡ decimal_text n
unfolding decimal_text
decimal-is n k h f = sym (within-is 20 k n (few-decimal n k h f) f.0 f.1 f.2)

pub hex-is : (n k : ℕ) → n < 18446744073709551616 → IsDigitCount 16 16 n k → last_digits 16 k n ≡ hex_text n
unfolding hex_text
hex-is n k h f = let e : k ≡ 16 = omega (arith, few-hex n k h f) in ap (λ (j : ℕ). last_digits 16 j n) e

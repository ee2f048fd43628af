-- What `unpack` makes of a pattern. Assumes nothing.
use mathlib.Core.Path.{◌≡◌, sym, ap, ◌∙◌, subst}
use Prim.Native.Nat.{ℕ, suc, ◌+◌, ◌-◌, ◌*◌, ◌/◌, ◌%◌, ◌^◌, ◌≤◌, ◌<◌}
use native.Mathlib.Nat.{mul_assoc, add_comm, mod-eq_of_lt, lt_of_lt_of_le, mul-le-mul_right, lt_of_not-le}
use native.Mathlib.Omega.{arith}
use mathlib.Core.Bool.{Bool, cond}
use lib.Dec.{lit≤}
use lib.Pow.{pow-add, pow_mono, shl_lt}
use lib.Count.{count_leading_zeros, leading_top}
use borrow.Author.Tests.{eq-eqb, ne_eqb}
use Rattle.arith_root.specs.Ensures.{units_of, UnpackExit}

-- ---- a pattern with no exponent: its digits move up by s = count_leading_zeros - 11

module _ (b : ℕ) (some : 0 < b) (small : b / 2 ^ 52 ≡ 0) where
  in-52 : b < 2 ^ 52
  in-52 = omega arith

  in-64 : b < 2 ^ 64
  in-64 = omega arith

  -- the place of the highest digit
  abbrev topd : ℕ
  topd = (leading_top 64 b some in-64).0

  counted : count_leading_zeros 64 b + suc topd ≡ 64
  counted = (leading_top 64 b some in-64).1

  from-top : 2 ^ topd ≤ b
  from-top = (leading_top 64 b some in-64).2

  to-top : b < 2 ^ suc topd
  to-top = (leading_top 64 b some in-64).3

  low-top : topd < 52
  low-top = lt_of_not-le (λ (g : 52 ≤ topd).
      let h : 2 ^ 52 ≤ 2 ^ topd = pow_mono g in
      let t = from-top in
      let u = in-52 in
      omega arith)

  pub shift : count_leading_zeros 64 b ≤ 63
  shift = let a = counted in omega arith

  pub shift_from : 12 ≤ count_leading_zeros 64 b
  shift_from = let a = counted in let h = low-top in omega arith

  abbrev up_by : ℕ
  up_by = count_leading_zeros 64 b - 11

  up-by-is : topd + up_by ≡ 52
  up-by-is = let a = counted in let h = low-top in omega arith

  up-by-suc : suc topd + up_by ≡ 53
  up-by-suc = let a = up-by-is in omega arith

  moved-low : 2 ^ 52 ≤ b * 2 ^ up_by
  moved-low =
      subst (λ (x : ℕ). x ≤ b * 2 ^ up_by) (sym (pow-add 2 topd up_by) ∙ ap (λ (x : ℕ). 2 ^ x) up-by-is) (mul-le-mul_right (2 ^ up_by) from-top)

  moved-high : b * 2 ^ up_by < 2 ^ 53
  moved-high = subst (λ (x : ℕ). b * 2 ^ up_by < 2 ^ x) up-by-suc (shl_lt (suc topd) up_by to-top)

  moved-is : (b * 2 ^ up_by) % 2 ^ 64 ≡ b * 2 ^ up_by
  moved-is = mod-eq_of_lt (lt_of_lt_of_le moved-high (lit≤ tt))

  up-by-le : up_by ≤ 52
  up-by-le = let a = up-by-is in omega arith

  pub unpack-0 : UnpackExit b ((b * 2 ^ up_by) % 2 ^ 64) (1024 - up_by)
  unfolding units_of
  unpack-0 =
      let l = up-by-le in
      let e : 1024 ≡ up_by + (1024 - up_by) = omega arith in
      rw moved-is (record {
        low = moved-low;
        high = moved-high;
        from = omega arith;
        to = omega arith;
        same =
            ap (λ (t : Bool). cond t b ((2 ^ 52 + b % 2 ^ 52) * 2 ^ (b / 2 ^ 52 - 1)) * 2 ^ 1024) (eq-eqb (b / 2 ^ 52) 0 small)
            ∙ ap (λ (x : ℕ). b * 2 ^ x) e
            ∙ ap (λ (x : ℕ). b * x) (pow-add 2 up_by (1024 - up_by))
            ∙ sym (mul_assoc b (2 ^ up_by) (2 ^ (1024 - up_by)));
      })

-- ---- a pattern with an exponent
pub unpack-1 : (b : ℕ) → b < 0x7ff0_0000_0000_0000 → (b / 2 ^ 52 ≡ 0 → ⊥) → UnpackExit b (b % 2 ^ 52 + 2 ^ 52) (b / 2 ^ 52 + 1023)
unfolding units_of
unpack-1 b h more =
    let e : b / 2 ^ 52 - 1 + 1024 ≡ b / 2 ^ 52 + 1023 = omega arith in
    record {
      low = omega arith;
      high = omega arith;
      from = omega arith;
      to = omega arith;
      same =
          ap (λ (t : Bool). cond t b ((2 ^ 52 + b % 2 ^ 52) * 2 ^ (b / 2 ^ 52 - 1)) * 2 ^ 1024) (ne_eqb (b / 2 ^ 52) 0 more)
          ∙ ap (λ (x : ℕ). x * 2 ^ (b / 2 ^ 52 - 1) * 2 ^ 1024) (add_comm (2 ^ 52) (b % 2 ^ 52))
          ∙ mul_assoc (b % 2 ^ 52 + 2 ^ 52) (2 ^ (b / 2 ^ 52 - 1)) (2 ^ 1024)
          ∙ ap (λ (x : ℕ). (b % 2 ^ 52 + 2 ^ 52) * x) (sym (pow-add 2 (b / 2 ^ 52 - 1) 1024) ∙ ap (λ (x : ℕ). 2 ^ x) e);
    }

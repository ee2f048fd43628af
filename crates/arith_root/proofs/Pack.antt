-- What `positive` makes of the parts of a float and of the digits of the root. Assumes nothing.
use mathlib.Core.Path.{◌≡◌, refl, sym, ap, ◌∙◌, subst}
use Prim.Native.Nat.{ℕ, zero, suc, ◌+◌, ◌-◌, ◌*◌, ◌/◌, ◌%◌, ◌^◌, ◌≤◌, ◌<◌}
use native.Mathlib.Nat.{mul_assoc, mul-le-mul_right, lt_of_not-le, not-le_of_lt, lt_of_lt_of_le, le_antisymm, mul-div_cancel}
use native.Mathlib.Omega.{arith}
use mathlib.Core.Bool.{Bool, false, cond, not}
use lib.Dec.{T, eqb, leb}
use lib.Pow.{pow-add, pow_mono, pow_pos, shl_lt}
use lib.Ieee.{binary64, of_bits, of_fields, odd, size, nan_bits}
use lib.Ieee.Bits.{nan_bits_above}
use lib.Ieee.Digits.{size-le, size-lt}
use borrow.Author.Tests.{ne_eqb, lt-leb, le-ltb}
use Rattle.arith_root.specs.Root.{isqrt, rounded}
use Rattle.arith_whole_root.specs.Whole.{WholeRoot, HalfRoot}
use Rattle.arith_root.specs.Ensures.{units_of, UnpackExit}
use Rattle.arith_whole_root.proofs.Whole.{whole-one, at_least, less}
use Rattle.arith_root.proofs.Whole.{isqrt-is}

-- ---- the pattern of an exponent's field g + 1 and the digits t

module _ (g t : ℕ) (G : g < 2046) (H : t < 2 ^ 52) where
  abbrev bits : ℕ
  bits = g * 2 ^ 52 + (2 ^ 52 + t)

  b-sign : leb (2 ^ 63) bits ≡ false
  b-sign = lt-leb (2 ^ 63) bits (omega arith)

  b-field : bits % 2 ^ 63 / 2 ^ 52 ≡ suc g
  b-field = omega arith

  b-digits : bits % 2 ^ 52 ≡ t
  b-digits = omega arith

  b-finite : eqb (suc g) 2047 ≡ false
  b-finite = ne_eqb (suc g) 2047 (λ e. omega arith)

  pub of-fields : of_bits binary64 bits ≡ odd 53 false (2 ^ 52 + t) g 1074
  unfolding of_bits of_fields
  of-fields =
      ap (λ (s : Bool). of_fields binary64 s (bits % 2 ^ 63 / 2 ^ 52) (bits % 2 ^ 52)) b-sign
      ∙ ap (λ (x : ℕ). of_fields binary64 false x (bits % 2 ^ 52)) b-field
      ∙ ap (λ (x : ℕ). of_fields binary64 false (suc g) x) b-digits
      ∙ ap (λ (c : Bool). cond c (cond (eqb t 0) (lib.Ieee.inf false) lib.Ieee.nan) (odd 53 false (2 ^ 52 + t) g 1074)) b-finite

  pub of-no-nan : T (not (nan_bits binary64 bits))
  of-no-nan = subst (λ (b : Bool). T (not b)) (sym (nan_bits_above binary64 bits ∙ le-ltb 0x7ff0_0000_0000_0000 (bits % 2 ^ 63) (omega arith))) tt

-- ---- the number of digits of a * 2 ^ j

size_is : (n j : ℕ) → 2 ^ j ≤ n → n < 2 ^ suc j → size n ≡ suc j
size_is n j l u =
    le_antisymm (size-le n (suc j) u) (lt_of_not-le (λ (g : size n ≤ j). not-le_of_lt (lt_of_lt_of_le (size-lt n) (pow_mono g)) l))

pub size_of : (a j : ℕ) → 2 ^ 52 ≤ a → a < 2 ^ 53 → size (a * 2 ^ j) ≡ suc (52 + j)
size_of a j l u =
    size_is (a * 2 ^ j) (52 + j)
    (subst (λ (x : ℕ). x ≤ a * 2 ^ j) (sym (pow-add 2 52 j)) (mul-le-mul_right (2 ^ j) l))
    (subst (λ (x : ℕ). a * 2 ^ j < 2 ^ x) (omega arith) (shl_lt 53 j u))

-- ---- a number of units as the square of a root of 54 digits

one-or-two : (r : ℕ) → r < 2 → 1 + r ≡ 2 ^ r
one-or-two zero h = refl
one-or-two (suc zero) h = refl
one-or-two (suc (suc r)) h = absurd (omega arith)

wide_low : (a r : ℕ) → 2 ^ 52 ≤ a → r < 2 → 2 ^ 52 ≤ a * (1 + r)
wide_low a zero l h = omega arith
wide_low a (suc zero) l h = omega arith
wide_low a (suc (suc r)) l h = absurd (omega arith)

wide_high : (a r : ℕ) → a < 2 ^ 53 → r < 2 → a * (1 + r) ≤ 2 ^ 54 - 2
wide_high a zero l h = omega arith
wide_high a (suc zero) l h = omega arith
wide_high a (suc (suc r)) l h = absurd (omega arith)

-- the square whose root's digits are taken
abbrev pub wide : ℕ → ℕ → ℕ
wide a h = a * (1 + h % 2)

pub wide-in : (b a h : ℕ) → UnpackExit b a h → (2 ^ 52 ≤ wide a h) × (wide a h ≤ 2 ^ 54 - 2)
wide-in b a h S = (wide_low a (h % 2) S.low (omega arith), wide_high a (h % 2) S.high (omega arith))

pub in-108 : (b a h : ℕ) → UnpackExit b a h → wide a h * 2 ^ 54 < 2 ^ (2 * 54)
in-108 b a h S = let w = (wide-in b a h S).1 in omega arith

pub units-are : (b a h : ℕ) → UnpackExit b a h → units_of b * 2 ^ 1074 ≡ a * 2 ^ (h + 50)
units-are b a h S =
    sym (mul_assoc (units_of b) (2 ^ 1024) (2 ^ 50))
    ∙ ap (λ (x : ℕ). x * 2 ^ 50) S.same
    ∙ mul_assoc a (2 ^ h) (2 ^ 50)
    ∙ ap (λ (x : ℕ). a * x) (sym (pow-add 2 h 50))

pub square-is : (a h k : ℕ) → h + 50 ≡ h % 2 + (54 + 2 * k) → a * 2 ^ (h + 50) ≡ wide a h * 2 ^ 54 * 2 ^ (2 * k)
square-is a h k e =
    ap (λ (x : ℕ). a * 2 ^ x) e
    ∙ ap (λ (x : ℕ). a * x) (pow-add 2 (h % 2) (54 + 2 * k) ∙ ap (λ (x : ℕ). 2 ^ (h % 2) * x) (pow-add 2 54 (2 * k)))
    ∙ ap (λ (x : ℕ). a * (x * (2 ^ 54 * 2 ^ (2 * k)))) (sym (one-or-two (h % 2) (omega arith)))
    ∙ sym (mul_assoc a (1 + h % 2) (2 ^ 54 * 2 ^ (2 * k)))
    ∙ sym (mul_assoc (a * (1 + h % 2)) (2 ^ 54) (2 ^ (2 * k)))

module _ (b a h q : ℕ) (S : UnpackExit b a h) (W : WholeRoot (wide a h * 2 ^ 54) q) where
  abbrev pub drop : ℕ
  drop = h / 2 - 2

  drop-is : (size (units_of b * 2 ^ 1074) + 1) / 2 - 54 ≡ drop
  drop-is =
      let e : size (a * 2 ^ (h + 50)) ≡ suc (52 + (h + 50)) = size_of a (h + 50) S.low S.high in
      ap (λ (x : ℕ). (size x + 1) / 2 - 54) (units-are b a h S) ∙ ap (λ (x : ℕ). (x + 1) / 2 - 54) e ∙ halves h S.from
    where
      halves : (h : ℕ) → 972 ≤ h → (suc (52 + (h + 50)) + 1) / 2 - 54 ≡ h / 2 - 2
      halves h l = omega arith

  kept-is : units_of b * 2 ^ 1074 / 2 ^ (2 * drop) ≡ wide a h * 2 ^ 54
  kept-is =
      ap (λ (x : ℕ). x / 2 ^ (2 * drop)) (units-are b a h S ∙ square-is a h drop (parts h S.from))
      ∙ mul-div_cancel (wide a h * 2 ^ 54) (pow_pos (2 * drop))
    where
      parts : (h : ℕ) → 972 ≤ h → h + 50 ≡ h % 2 + (54 + 2 * (h / 2 - 2))
      parts h l = omega arith

  root_is : isqrt 54 (wide a h * 2 ^ 54) ≡ q
  root_is = whole-one (wide a h * 2 ^ 54) (isqrt 54 (wide a h * 2 ^ 54)) q (isqrt-is 54 (wide a h * 2 ^ 54) (in-108 b a h S)) W

  pub rounded-is : rounded (units_of b * 2 ^ 1074) ≡ odd 53 false ((q + 1) / 2) (h / 2 - 1) 1074
  unfolding rounded
  rounded-is =
      ap (λ (k : ℕ). odd 53 false ((isqrt 54 (units_of b * 2 ^ 1074 / 2 ^ (2 * k)) + 1) / 2) (k + 1) 1074) drop-is
      ∙ ap (λ (x : ℕ). odd 53 false ((isqrt 54 x + 1) / 2) (drop + 1) 1074) kept-is
      ∙ ap (λ (x : ℕ). odd 53 false ((x + 1) / 2) (drop + 1) 1074) root_is
      ∙ ap (λ (x : ℕ). odd 53 false ((q + 1) / 2) x 1074) (next h S.from)
    where
      next : (h : ℕ) → 972 ≤ h → h / 2 - 2 + 1 ≡ h / 2 - 1
      next h l = omega arith

  pub q-low : 2 ^ 53 ≤ q
  q-low = at_least (wide a h * 2 ^ 54) q (2 ^ 53) W (let w = (wide-in b a h S).0 in omega arith)

  pub q-high : q < 2 ^ 54 - 1
  q-high = less (wide a h * 2 ^ 54) q (2 ^ 54 - 1) W (let w = (wide-in b a h S).1 in omega arith)

  abbrev over : ℕ
  over = (q + 1) / 2 - 2 ^ 52

  over-is : (q + 1) / 2 ≡ 2 ^ 52 + over
  over-is = let x = q-low in omega arith

  over-lt : over < 2 ^ 52
  over-lt = let x = q-high in omega arith

  field_lt : h / 2 - 1 < 2046
  field_lt = let x = S.to in omega arith

  pub packed : of_bits binary64 ((h / 2 - 1) * 2 ^ 52 + (q + 1) / 2) ≡ rounded (units_of b * 2 ^ 1074)
  packed =
      ap (λ (x : ℕ). of_bits binary64 ((h / 2 - 1) * 2 ^ 52 + x)) over-is
      ∙ of-fields (h / 2 - 1) over field_lt over-lt
      ∙ ap (λ (x : ℕ). odd 53 false x (h / 2 - 1) 1074) (sym over-is)
      ∙ sym rounded-is

  pub packed-no-nan : T (not (nan_bits binary64 ((h / 2 - 1) * 2 ^ 52 + (q + 1) / 2)))
  packed-no-nan = subst (λ (x : ℕ). T (not (nan_bits binary64 ((h / 2 - 1) * 2 ^ 52 + x)))) (sym over-is) (of-no-nan (h / 2 - 1) over field_lt over-lt)

-- the same by the half of the root
module _ (b a h m : ℕ) (S : UnpackExit b a h) (H : HalfRoot (wide a h * 2 ^ 54) m) where
  pub half_pos : 0 < m
  half_pos = let x = q-low b a h H.q S H.whole in let y = H.half in omega arith

  pub half-fits : m < 2 ^ 53
  half-fits = let x = q-high b a h H.q S H.whole in let y = H.half in omega arith

  pub half-packed : of_bits binary64 ((h / 2 - 1) * 2 ^ 52 + m) ≡ rounded (units_of b * 2 ^ 1074)
  half-packed = ap (λ (x : ℕ). of_bits binary64 ((h / 2 - 1) * 2 ^ 52 + x)) H.half ∙ packed b a h H.q S H.whole

  pub half-no-nan : T (not (nan_bits binary64 ((h / 2 - 1) * 2 ^ 52 + m)))
  half-no-nan = subst (λ (x : ℕ). T (not (nan_bits binary64 ((h / 2 - 1) * 2 ^ 52 + x)))) (sym H.half) (packed-no-nan b a h H.q S H.whole)

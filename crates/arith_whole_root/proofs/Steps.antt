-- One digit of a whole square root: what `whole_root` does in a turn of its loop, as facts of numbers. Assumes nothing.
use mathlib.Core.Path.{◌≡◌, refl, sym, ap, ◌∙◌}
use Prim.Native.Nat.{ℕ, zero, suc, ◌+◌, ◌-◌, ◌*◌, ◌%◌, ◌^◌, ◌≤◌, ◌<◌}
use native.Mathlib.Nat.{mul-add, add-mul, mul_comm, mul_assoc, two-pow-succ, one-mul, zero-mul, sub-zero, mul-one, mod-eq_of_lt, add-zero}
use native.Mathlib.Omega.{arith}
use mathlib.Core.Bool.{Bool, true, false}
use mir.Syntax.{w64}
use mir.Val.{Fits, bool_byte}
use borrow.Author.Tests.{leb-true, leb-false}
use lib.Pow.{pow-lt}
use Rattle.arith_whole_root.specs.Whole.{WholeRoot}
use Rattle.arith_whole_root.proofs.Takes.{takes}

-- q has the first digits of the root of n, and k are to come: the square of q leaves y * 2 ^ k of n, and the root is below q + 2 ^ k.
pub record Begun (n q y k : ℕ) : Type 0 where
  pub few : k ≤ 54
  pub room : q + 2 ^ k ≤ 2 ^ 54
  pub rest : y < 2 * q + 2 ^ k
  pub square : n ≡ q * q + y * 2 ^ k

-- the place of the next digit, as the code has it
abbrev pub place : ℕ → ℕ
place k = (1 * 2 ^ (k - 1)) % 2 ^ 64

pred-suc : (j : ℕ) → suc j - 1 ≡ j
pred-suc j = omega arith

pred_lt : (k : ℕ) → k ≤ 54 → k - 1 < 64
pred_lt k h = omega arith

place_is : (k : ℕ) → k ≤ 54 → place k ≡ 2 ^ (k - 1)
place_is k h = ap (λ (x : ℕ). x % 2 ^ 64) (one-mul (2 ^ (k - 1))) ∙ mod-eq_of_lt (pow-lt {i = k - 1} {j = 64} (pred_lt k h))

twice : (k : ℕ) → 0 < k → 2 ^ k ≡ 2 ^ (k - 1) + 2 ^ (k - 1)
twice zero h = omega arith
twice (suc j) h = two-pow-succ j ∙ ap (λ (x : ℕ). 2 ^ x + 2 ^ x) (sym (pred-suc j))

pub square-sum : (a b : ℕ) → (a + b) * (a + b) ≡ a * a + 2 * (a * b) + b * b
square-sum a b = simp (mul-add, add-mul) (omega (arith, mul_comm b a))

-- what is left of the square where the digit is 1, and where it is 0
taken : (q y p d : ℕ) → 2 * y ≡ d + (2 * q + p) → q * q + y * (p + p) ≡ (q + p) * (q + p) + d * p
taken q y p d e =
    let a : 2 * (y * p) ≡ d * p + (2 * (q * p) + p * p) = sym (mul_assoc 2 y p) ∙ ap (λ (x : ℕ). x * p) e ∙ simp (add-mul, mul_assoc) in
    omega (arith, square-sum q p, mul-add y p p)

left : (q y p : ℕ) → q * q + y * (p + p) ≡ q * q + 2 * y * p
left q y p = omega (arith, mul-add y p p, mul_assoc 2 y p)

takes-1 : (t z : ℕ) → takes t z ≡ true → t ≤ z
takes-1 t z e = omega (arith, leb-true _ z e)

takes-0 : (t z : ℕ) → takes t z ≡ false → z < t
takes-0 t z e = omega (arith, leb-false _ z e)

-- A turn with the digit c, 0 or 1, as a factor: what it computes fits a word, and it leaves one digit less to come.
pub record Turn (n q y k c : ℕ) : Type 0 where
  pub step_fits : Fits w64 (2 * q + place k)
  pub place-fits : Fits w64 (c * place k)
  pub digits-fit : Fits w64 (q + c * place k)
  pub less-fits : Fits w64 (c * (2 * q + place k))
  pub less-le : c * (2 * q + place k) ≤ 2 * y
  pub goes_on : Begun n (q + c * place k) (2 * y - c * (2 * q + place k)) (k - 1)

module _ (n q y k : ℕ) (more : 0 < k) (h : Begun n q y k) where
  at_place : place k ≡ 2 ^ (k - 1)
  at_place = place_is k h.few

  digit-1 : 2 * q + place k ≤ 2 * y → Begun n (q + place k) (2 * y - (2 * q + place k)) (k - 1)
  digit-1 t =
      let a = at_place in
      let b = twice k more in
      record {
        few = omega (arith, h.few);
        room = omega (arith, h.room);
        rest = omega (arith, h.rest);
        square = h.square ∙ (rw (b, a) (taken q y (2 ^ (k - 1)) (2 * y - (2 * q + 2 ^ (k - 1))) (omega arith)));
      }

  digit-0 : 2 * y < 2 * q + place k → Begun n q (2 * y) (k - 1)
  digit-0 t =
      let a = at_place in
      let b = twice k more in
      record { few = omega (arith, h.few); room = omega (arith, h.room); rest = omega arith; square = h.square ∙ (rw b (left q y (2 ^ (k - 1)))) }

  with-digit : (c : ℕ) → c * (2 * q + place k) ≤ 2 * y → Begun n (q + c * place k) (2 * y - c * (2 * q + place k)) (k - 1) → Turn n q y k c
  with-digit c l g =
      record {
        step_fits = omega (arith, at_place, twice k more, h.room);
        place-fits = omega (arith, g.room);
        digits-fit = omega (arith, g.room);
        less-fits = omega (arith, h.room, h.rest);
        less-le = l;
        goes_on = g;
      }

  pub turn : Turn n q y k (bool_byte (takes (2 * q + place k) (2 * y)))
  turn = go (takes (2 * q + place k) (2 * y)) refl
    where
      go : (b : Bool) → takes (2 * q + place k) (2 * y) ≡ b → Turn n q y k (bool_byte b)
      go true e =
          let t = takes-1 (2 * q + place k) (2 * y) e in
          with-digit 1 (omega arith) (rw (one-mul (place k), one-mul (2 * q + place k)) (digit-1 t))
      go false e =
          let t = takes-0 (2 * q + place k) (2 * y) e in
          with-digit 0 (omega arith) (simp (zero-mul, add-zero, sub-zero) (digit-0 t))

pub no_more : (n q y k : ℕ) → k ≡ 0 → Begun n q y k → WholeRoot n q
no_more n q y k e h =
    let s : n ≡ q * q + y * 1 = h.square ∙ ap (λ (x : ℕ). q * q + y * 2 ^ x) e in
    record { below = omega (arith, mul-one y); above = omega (arith, square-sum q 1, mul-one q, mul-one y, simp e at h.rest) }

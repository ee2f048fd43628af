-- Of the sides of a round an even number have ends that a test tells apart: a closed walk changes sides an even number of times. Assumes nothing.
use Prim.Native.Nat.{ℕ, ◌+◌, ◌%◌}
use native.Mathlib.Omega.{arith}
use mathlib.Core.Path.{◌≡◌, refl}
use mathlib.Core.Bool.{Bool, true, false, not, cond, beq}
use mathlib.Core.List.{List, [], ◌∷◌, ◌++◌}
use Rattle.arith.specs.Lists.{Side, sides_with, sides, count_where}

module _ {A : Type 0} (p : A → Bool) where
  -- the test holds at one end of the side and not at the other
  abbrev pub apart : Side A → Bool
  apart s = not (beq (p s.from) (p s.to))

  -- two in a row: a to b, and on to c
  joined : (a b c : Bool) (k : ℕ) → k % 2 ≡ cond (not (beq b c)) 1 0 → (cond (not (beq a b)) 1 0 + k) % 2 ≡ cond (not (beq a c)) 1 0
  joined true true true k h = omega arith
  joined true true false k h = omega arith
  joined true false true k h = omega arith
  joined true false false k h = omega arith
  joined false true true k h = omega arith
  joined false true false k h = omega arith
  joined false false true k h = omega arith
  joined false false false k h = omega arith

  -- a way from a along l to c
  way : (a : A) (l : List A) (c : A) → count_where apart (sides_with (a ∷ l) (l ++ c ∷ [])) % 2 ≡ cond (not (beq (p a) (p c))) 1 0
  unfolding count_where sides_with
  way a [] c = by (not (beq (p a) (p c)))
    where
      by : (t : Bool) → (cond t 1 0 + 0) % 2 ≡ cond t 1 0
      by true = refl
      by false = refl
  way a (b ∷ l) c = joined (p a) (p b) (p c) (count_where apart (sides_with (b ∷ l) (l ++ c ∷ []))) (way b l c)

  pub parted-even : (polygon : List A) → count_where apart (sides polygon) % 2 ≡ 0
  unfolding sides
  parted-even [] = unfold count_where in refl
  parted-even (a ∷ l) = rw (way a l a) (by (p a))
    where
      by : (t : Bool) → ◌≡◌ {A = ℕ} (cond (not (beq t t)) 1 0) 0
      by true = refl
      by false = refl

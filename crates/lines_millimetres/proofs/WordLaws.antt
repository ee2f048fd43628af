-- Signed numbers of 64 bits by their words. Assumes nothing.
use mathlib.Core.Path.{◌≡◌, refl, sym, ap, ◌∙◌}
use Prim.Native.Nat.{ℕ, suc, ◌-◌, ◌^◌}
use native.Mathlib.Decide.{ℕ_discrete}
use native.Mathlib.Omega.{arith}
use lib.Dec.{eqb}
use lib.IntN.{ℤ, pos, negsuc}
use mir.Syntax.{w64}
use mir.Val.{SFits, to_z, of_z}
use mir.ValLaws.{to_z-of_z}
use borrow.Author.Tests.{eq-eqb, ne_eqb}
use Rattle.lines_millimetres.specs.Nearest.{same_number, word64}

-- ---- numbers by their words

-- `==` of the code
pub words_same : (a b : ℤ) → SFits w64 a → SFits w64 b → eqb (of_z w64 a) (of_z w64 b) ≡ same_number a b
unfolding same_number
words_same (pos a) (pos b) f g = refl
words_same (pos a) (negsuc b) f g = let h = f.sfits in let k = g.sfits in ne_eqb a (2 ^ 64 - suc b) (λ e. omega arith)
words_same (negsuc a) (pos b) f g = let h = f.sfits in let k = g.sfits in ne_eqb (2 ^ 64 - suc a) b (λ e. omega arith)
words_same (negsuc a) (negsuc b) f g = by (ℕ_discrete a b)
  where
    by : Dec (a ≡ b) → eqb (2 ^ 64 - suc a) (2 ^ 64 - suc b) ≡ eqb a b
    by (yes e) = eq-eqb _ _ (ap (λ (n : ℕ). 2 ^ 64 - suc n) e) ∙ sym (eq-eqb a b e)
    by (no n) = let h = f.sfits in let k = g.sfits in ne_eqb _ _ (λ (e : 2 ^ 64 - suc a ≡ 2 ^ 64 - suc b). n (omega arith)) ∙ sym (ne_eqb a b n)

-- ---- the word of a number, as the code makes it

pub word-is : (k : ℤ) → SFits w64 k → of_z w64 (to_z w64 (of_z w64 k)) ≡ word64 k
unfolding word64
word-is (pos n) f = ap (of_z w64) (to_z-of_z w64 (pos n) f)
word-is (negsuc n) f = ap (of_z w64) (to_z-of_z w64 (negsuc n) f)

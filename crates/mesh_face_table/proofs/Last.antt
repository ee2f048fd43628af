-- Laws of the last that passes. Assumes nothing.
use mathlib.Core.Path.{◌≡◌, refl, sym, ap, ◌∙◌}
use mathlib.Core.Bool.{Bool, true, false, cond}
use mathlib.Core.Logic.{◌⊎◌, inl, inr}
use Prim.Native.Nat.{ℕ, zero, suc, ◌<◌, ◌≤◌}
use native.Mathlib.Nat.{le_of_suc-le-suc, eq-or-lt_of_le, not-suc-le-zero}
use native.Mathlib.Omega.{arith}
use lib.Dec.{lit≤}
use Rattle.mesh_face_table.specs.Chains.{last}

pub last-next : (p : ℕ → Bool) (n : ℕ) → last p (suc n) ≡ cond (p n) (suc n) (last p n)
unfolding last
last-next p n = by (p n)
  where
    by : (t : Bool) → elim t [ true ↦ suc n | false ↦ last p n ] ≡ cond t (suc n) (last p n)
    by true = refl
    by false = refl

pub last-hit : (p : ℕ → Bool) (n : ℕ) → p n ≡ true → last p (suc n) ≡ suc n
last-hit p n e = last-next p n ∙ rw e

pub last-miss : (p : ℕ → Bool) (n : ℕ) → p n ≡ false → last p (suc n) ≡ last p n
last-miss p n e = last-next p n ∙ rw e

pub last-le : (p : ℕ → Bool) (n : ℕ) → last p n ≤ n
unfolding last
last-le p zero = lit≤ tt
last-le p (suc n) = rw last-next (by (p n) (last-le p n))
  where
    by : (t : Bool) {k : ℕ} → k ≤ n → cond t (suc n) k ≤ suc n
    by true h = omega arith
    by false h = omega arith

-- two tests that agree below n
pub last-same : (p q : ℕ → Bool) (n : ℕ) → ((k : ℕ) → k < n → p k ≡ q k) → last p n ≡ last q n
unfolding last
last-same p q zero h = refl
last-same p q (suc n) h =
    last-next p n ∙ rw (h n (omega arith), last-same p q n (λ k l. h k (omega arith))) (sym (last-next q n))

-- what is found passes
pub last-passes : (p : ℕ → Bool) (n f : ℕ) → last p n ≡ suc f → p f ≡ true
unfolding last
last-passes p zero f e = absurd (no e)
  where
    no : 0 ≡ suc f → ⊥
    no z = omega arith
last-passes p (suc n) f e = by (p n) refl (last-passes p n f) (sym (last-next p n) ∙ e)
  where
    by : (t : Bool) → p n ≡ t → (last p n ≡ suc f → p f ≡ true) → cond t (suc n) (last p n) ≡ suc f → p f ≡ true
    by true q r e = let i : n ≡ f = omega arith in rw i at q
    by false q r e = r e

-- where none is found none passes
pub last_none : (p : ℕ → Bool) (n : ℕ) → last p n ≡ 0 → (k : ℕ) → k < n → p k ≡ false
unfolding last
last_none p zero e k l = absurd (not-suc-le-zero l)
last_none p (suc n) e k l = by (p n) refl (last_none p n) (sym (last-next p n) ∙ e)
  where
    by : (t : Bool) → p n ≡ t → (last p n ≡ 0 → (k : ℕ) → k < n → p k ≡ false) → cond t (suc n) (last p n) ≡ 0 → p k ≡ false
    by true q r e = absurd (no e)
      where
        no : suc n ≡ 0 → ⊥
        no z = omega arith
    by false q r e = or (eq-or-lt_of_le (le_of_suc-le-suc l))
      where
        or : (k ≡ n) ⊎ (k < n) → p k ≡ false
        or (inl i) = rw i q
        or (inr lt) = r e k lt

-- a search among those that pass a wider test passes over nothing
pub last-skip : (p q : ℕ → Bool) (n : ℕ) → ((k : ℕ) → p k ≡ true → q k ≡ true) → last p n ≡ last p (last q n)
unfolding last
last-skip p q zero h = refl
last-skip p q (suc n) h = by (q n) (p n) refl refl (last-skip p q n h)
  where
    by : (t u : Bool) → q n ≡ t → p n ≡ u → last p n ≡ last p (last q n) → last p (suc n) ≡ last p (last q (suc n))
    by true u eq ep r = rw (last-hit q n eq)
    by false true eq ep r = let z : true ≡ false = sym (h n ep) ∙ eq in cc
    by false false eq ep r = last-miss p n ep ∙ r ∙ ap (last p) (sym (last-miss q n eq))

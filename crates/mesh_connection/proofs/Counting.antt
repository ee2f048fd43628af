-- One, each, how many of 0 .. n - 1. Assumes nothing.
use mathlib.Core.Path.{◌≡◌, refl, sym, ◌∙◌, subst}
use mathlib.Core.Bool.{Bool, true, false, cond, ◌&&◌, ◌||◌}
use mathlib.Core.Logic.{◌≢◌, ◌⊎◌, inl, inr}
use Prim.Native.Nat.{ℕ, zero, suc, ◌+◌, ◌<◌, ◌≤◌}
use native.Mathlib.Nat.{le_refl, le_of_suc-le-suc, eq-or-lt_of_le, not-suc-le-zero, lt_irrefl}
use native.Mathlib.Decide.{ℕ_discrete}
use native.Mathlib.Omega.{arith}
use borrow.Author.Tests.{eq-eqb, ne_eqb}
use lib.Dec.{eqb, lit≤}
use Rattle.mesh_connection.specs.Connection.{some_below, every_below}
use Rattle.mesh_connection.specs.Ensures.{count_below}

pub below_suc : {k n : ℕ} → k < suc n → (k ≡ n) ⊎ (k < n)
below_suc h = eq-or-lt_of_le (le_of_suc-le-suc h)

-- ---- tests

pub clash : false ≡ true → ⊥
clash q = let z : ◌≡◌ {A = ℕ} 0 1 = cc in omega arith

pub true-or : (a b : Bool) → a || b ≡ true → (a ≡ true) ⊎ (b ≡ true)
true-or true b e = inl refl
true-or false b e = inr e

pub true-and : (a b : Bool) → a && b ≡ true → (a ≡ true) × (b ≡ true)
true-and true b e = (refl, e)
true-and false b e = absurd (clash e)

pub or_left : (a b : Bool) → a ≡ true → a || b ≡ true
or_left a b e = rw e

pub or_right : (a b : Bool) → b ≡ true → a || b ≡ true
or_right true b e = refl
or_right false b e = e

-- two tests that hold at the same time are equal
pub same_test : (a b : Bool) → (a ≡ true → b ≡ true) → (b ≡ true → a ≡ true) → a ≡ b
same_test true b f g = sym (f refl)
same_test false true f g = g refl
same_test false false f g = refl

-- ---- some_below

pub record Some (p : ℕ → Bool) (n : ℕ) : Type 0 where
  pub at : ℕ
  pub low : at < n
  pub here : p at ≡ true

pub some_in : (p : ℕ → Bool) (n k : ℕ) → k < n → p k ≡ true → some_below p n ≡ true
unfolding some_below
some_in p zero k h e = absurd (not-suc-le-zero h)
some_in p (suc n) k h e = by (below_suc h) (some_in p n k)
  where
    by : (k ≡ n) ⊎ (k < n) → (k < n → p k ≡ true → some_below p n ≡ true) → p n || some_below p n ≡ true
    by (inl q) r = or_left (p n) _ (rw q at e)
    by (inr l) r = or_right (p n) _ (r l e)

pub some_out : (p : ℕ → Bool) (n : ℕ) → some_below p n ≡ true → Some p n
unfolding some_below
some_out p zero e = absurd (clash e)
some_out p (suc n) e = by (true-or (p n) (some_below p n) e) (some_out p n)
  where
    by : (p n ≡ true) ⊎ (some_below p n ≡ true) → (some_below p n ≡ true → Some p n) → Some p (suc n)
    by (inl q) r = record { at = n; low = le_refl (suc n); here = q }
    by (inr q) r = let s = r q in record { at = s.at; low = (let l = s.low in omega arith); here = s.here }

pub some_same : (p q : ℕ → Bool) (n : ℕ) → ((k : ℕ) → k < n → p k ≡ q k) → some_below p n ≡ some_below q n
unfolding some_below
some_same p q zero h = refl
some_same p q (suc n) h = rw (h n (le_refl (suc n)), some_same p q n (λ k l. h k (omega arith)))

-- ---- every_below

pub every-same : (p q : ℕ → Bool) (n : ℕ) → ((k : ℕ) → k < n → p k ≡ q k) → every_below p n ≡ every_below q n
unfolding every_below
every-same p q zero h = refl
every-same p q (suc n) h = rw (h n (le_refl (suc n)), every-same p q n (λ k l. h k (omega arith)))

pub every_in : (p : ℕ → Bool) (n : ℕ) → ((k : ℕ) → k < n → p k ≡ true) → every_below p n ≡ true
unfolding every_below
every_in p zero h = refl
every_in p (suc n) h = rw (h n (le_refl (suc n)), every_in p n (λ k l. h k (omega arith)))

pub every-out : (p : ℕ → Bool) (n k : ℕ) → every_below p n ≡ true → k < n → p k ≡ true
unfolding every_below
every-out p zero k e h = absurd (not-suc-le-zero h)
every-out p (suc n) k e h = by (below_suc h) (true-and (p n) (every_below p n) e) (every-out p n k)
  where
    by : (k ≡ n) ⊎ (k < n) → (p n ≡ true) × (every_below p n ≡ true) → (every_below p n ≡ true → k < n → p k ≡ true) → p k ≡ true
    by (inl q) t r = rw q t.0
    by (inr l) t r = r t.1 l

-- ---- count_below

pub count-le : (p : ℕ → Bool) (n : ℕ) → count_below p n ≤ n
unfolding count_below
count-le p zero = lit≤ tt
count-le p (suc n) = by (p n) (count-le p n)
  where
    by : (t : Bool) → count_below p n ≤ n → cond t 1 0 + count_below p n ≤ suc n
    by true h = omega arith
    by false h = omega arith

-- one that does not pass leaves room
pub count_less : (p : ℕ → Bool) (n k : ℕ) → k < n → p k ≡ false → count_below p n < n
unfolding count_below
count_less p zero k h e = absurd (not-suc-le-zero h)
count_less p (suc n) k h e = by (below_suc h) (count_less p n k) (p n) refl
  where
    by : (k ≡ n) ⊎ (k < n) → (k < n → p k ≡ false → count_below p n < n) → (t : Bool) → p n ≡ t → cond t 1 0 + count_below p n < suc n
    by (inl q) r true et = absurd (clash (sym (rw q at e) ∙ et))
    by (inl q) r false et = let l = count-le p n in omega arith
    by (inr l) r true et = let i = r l e in omega arith
    by (inr l) r false et = let i = r l e in omega arith

pub count_same : (p q : ℕ → Bool) (n : ℕ) → ((k : ℕ) → k < n → p k ≡ q k) → count_below p n ≡ count_below q n
unfolding count_below
count_same p q zero h = refl
count_same p q (suc n) h = rw (h n (le_refl (suc n)), count_same p q n (λ k l. h k (omega arith)))

pub count_none : (p : ℕ → Bool) (n : ℕ) → ((k : ℕ) → k < n → p k ≡ false) → count_below p n ≡ 0
unfolding count_below
count_none p zero h = refl
count_none p (suc n) h = rw (h n (le_refl (suc n)), count_none p n (λ k l. h k (omega arith)))

-- one more passes
pub count-more : (p q : ℕ → Bool) (n d : ℕ) → d < n → p d ≡ false → q d ≡ true → ((k : ℕ) → k ≢ d → q k ≡ p k) → count_below q n ≡ suc (count_below p n)
unfolding count_below
count-more p q zero d h ep eq e = absurd (not-suc-le-zero h)
count-more p q (suc n) d h ep eq e = by (below_suc h) (count-more p q n d)
  where
    by : (d ≡ n) ⊎ (d < n) → (d < n → p d ≡ false → q d ≡ true → ((k : ℕ) → k ≢ d → q k ≡ p k) → count_below q n ≡ suc (count_below p n))
        → cond (q n) 1 0 + count_below q n ≡ suc (cond (p n) 1 0 + count_below p n)
    by (inl i) r =
        let c : count_below q n ≡ count_below p n = count_same q p n (λ k l. e k (λ j. lt_irrefl n (subst (λ (m : ℕ). m < n) (j ∙ i) l))) in
        rw (rw i at eq, rw i at ep, c) (omega arith)
    by (inr l) r =
        let c = r l ep eq e in
        let t : q n ≡ p n = e n (λ j. lt_irrefl n (subst (λ (m : ℕ). m < n) (sym j) l)) in
        rw (t, c) (omega arith)

-- all pass where the count is whole
pub full : (p : ℕ → Bool) (n : ℕ) → count_below p n ≡ n → every_below p n ≡ true
unfolding count_below every_below
full p zero e = refl
full p (suc n) e = by (p n) (full p n) e
  where
    by : (t : Bool) → (count_below p n ≡ n → every_below p n ≡ true) → cond t 1 0 + count_below p n ≡ suc n → t && every_below p n ≡ true
    by true r e = r (omega arith)
    by false r e = let l = count-le p n in absurd (omega arith)

short : (p : ℕ → Bool) (n : ℕ) → count_below p n < n → every_below p n ≡ false
unfolding count_below every_below
short p zero l = absurd (not-suc-le-zero l)
short p (suc n) l = by (p n) (short p n) l
  where
    by : (t : Bool) → (count_below p n < n → every_below p n ≡ false) → cond t 1 0 + count_below p n < suc n → t && every_below p n ≡ false
    by true r l = r (omega arith)
    by false r l = refl

pub every-count : (p : ℕ → Bool) (n : ℕ) → eqb (count_below p n) n ≡ every_below p n
every-count p n = by (ℕ_discrete (count_below p n) n)
  where
    by : Dec (count_below p n ≡ n) → eqb (count_below p n) n ≡ every_below p n
    by (yes e) = eq-eqb _ _ e ∙ sym (full p n e)
    by (no ne) = ne_eqb _ _ ne ∙ sym (short p n (let l = count-le p n in omega arith))

-- where all that pass one test pass another, the tests are the same or more pass the other
pub count-grows : (p q : ℕ → Bool) (n : ℕ) → ((k : ℕ) → k < n → p k ≡ true → q k ≡ true) → ((k : ℕ) → k < n → q k ≡ p k) ⊎ (count_below p n < count_below q n)
unfolding count_below
count-grows p q zero h = inl (λ k l. absurd (not-suc-le-zero l))
count-grows p q (suc n) h = by (p n) (q n) refl refl (count-grows p q n (λ k l. h k (omega arith)))
  where
    all : (a : Bool) → p n ≡ a → q n ≡ a → ((k : ℕ) → k < n → q k ≡ p k) → (k : ℕ) → (k ≡ n) ⊎ (k < n) → q k ≡ p k
    all a ep eq f k (inl e) = rw e (eq ∙ sym ep)
    all a ep eq f k (inr l) = f k l

    by : (a b : Bool) → p n ≡ a → q n ≡ b → ((k : ℕ) → k < n → q k ≡ p k) ⊎ (count_below p n < count_below q n)
        → ((k : ℕ) → k < suc n → q k ≡ p k) ⊎ (cond (p n) 1 0 + count_below p n < cond (q n) 1 0 + count_below q n)
    by true true ep eq (inl f) = inl (λ k l. all true ep eq f k (below_suc l))
    by true true ep eq (inr l) = inr (rw (ep, eq) (omega arith))
    by true false ep eq r = absurd (clash (sym eq ∙ h n (le_refl (suc n)) ep))
    by false true ep eq (inl f) = inr (rw (ep, eq) (let e = count_same q p n f in omega arith))
    by false true ep eq (inr l) = inr (rw (ep, eq) (omega arith))
    by false false ep eq (inl f) = inl (λ k l. all false ep eq f k (below_suc l))
    by false false ep eq (inr l) = inr (rw (ep, eq) (omega arith))

-- A refusal's number is among some, through each form that a definition takes. Assumes nothing.
use Prim.Native.Nat.{ℕ, ◌≤◌}
use mathlib.Core.Path.{◌≡◌}
use mathlib.Core.Bool.{Bool, true, false, cond, ◌&&◌}
use mathlib.Core.List.{List, [], ◌∷◌}
use lib.Dec.{leb}
use borrow.Author.Tests.{leb-true}
use Rattle.reading.specs.Result.{Refusable, ◌>>=◌, refuse, steps, map_all}
use Rattle.case_file.proofs.TrailerLaws.{and_left, and_right}
use Rattle.std.specs.Prelude.{Ok, Err}
use Rattle.refusal.specs.declared.Refusal.{Refusal}
use Rattle.refusal.specs.Number.{number}

-- from `low` to `high`
abbrev pub among : ℕ → ℕ → ℕ → Bool
among low high k = leb low k && leb k high

-- the number passes a test
pub data Ranged {A : Type 0} (p : ℕ → Bool) : Refusable A → Type 0 where
  due : (k : Refusal) → p (number k) ≡ true → Ranged p (Err k)
  none : {a : A} → Ranged p (Ok a)

pub among-is : (low high k : ℕ) → among low high k ≡ true → (low ≤ k) × (k ≤ high)
among-is low high k h = (leb-true low k (and_left _ _ h), leb-true k high (and_right (leb low k) _ h))

pub told : {A : Type 0} {p : ℕ → Bool} (k : Refusal) → Ranged {A = A} p (Err k) → p (number k) ≡ true
told k (due _ h) = h

module _ {p : ℕ → Bool} where
  pub bind : {A B : Type 0} {r : Refusable A} {h : A → Refusable B} → Ranged p r → ((a : A) → Ranged p (h a)) → Ranged p (r >>= h)
  unfolding ◌>>=◌
  bind (due j h) k = due j h
  bind (none {a = a}) k = k a

  pub barred : (n : Refusal) (t : Bool) → p (number n) ≡ true → Ranged p (refuse n t)
  unfolding refuse
  barred n true h = due n h
  barred n false h = none

  pub either : {A : Type 0} (t : Bool) {r s : Refusable A} → Ranged p r → Ranged p s → Ranged p (cond t r s)
  either true x y = x
  either false x y = y

  pub through : {A B : Type 0} (f : B → A → Refusable B) → ((s : B) (a : A) → Ranged p (f s a)) → (s : B) (l : List A) → Ranged p (steps f s l)
  unfolding steps
  through f h s [] = none
  through f h s (a ∷ l) = bind (h s a) (λ t. through f h t l)

  pub each : {A B : Type 0} (f : A → Refusable B) → ((a : A) → Ranged p (f a)) → (l : List A) → Ranged p (map_all f l)
  unfolding map_all
  each f h [] = none
  each f h (a ∷ l) = bind (h a) (λ b. bind (each f h l) (λ bs. none))

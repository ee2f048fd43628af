-- One turn of a loop that may refuse, for `steps` and `map_all`. Assumes nothing.
use Prim.Native.Nat.{ℕ, suc, ◌+◌, ◌<◌}
use mathlib.Core.Bool.{Bool, true, false}
use native.Mathlib.Omega.{arith}
use mathlib.Core.Path.{◌≡◌, refl, ap, sym}
use mathlib.Core.List.{List, [], ◌∷◌, ◌++◌, append_assoc}
use lib.ListN.{length, get_or, drop}
use Rattle.arith.proofs.ListLaws.{left_at}
use Rattle.reading.specs.Result.{Refusable, ◌>>=◌, refuse, steps, map_all}
use Rattle.std.specs.Prelude.{Ok, Err}
use Rattle.refusal.specs.declared.Refusal.{Refusal}

module _ {A B : Type 0} (l : List A) (i : ℕ) (d : A) (more : i < length l) where
  module _ (f : B → A → Refusable B) (s : B) where
    pub steps_next : (t : B) → f s (get_or l i d) ≡ Ok t → steps f s (drop i l) ≡ steps f t (drop (i + 1) l)
    unfolding steps ◌>>=◌
    steps_next t e = rw (left_at l i d more, e, steps)

    pub steps-refused : (n : Refusal) → f s (get_or l i d) ≡ Err n → steps f s (drop i l) ≡ Err n
    unfolding steps ◌>>=◌
    steps-refused n e = rw (left_at l i d more, e, steps)

  -- k: what was made so far
  module _ (f : A → Refusable B) (k : List B) where
    pub map_all-refused : (n : Refusal) → f (get_or l i d) ≡ Err n → (map_all f (drop i l) >>= λ bs. Ok (k ++ bs)) ≡ Err n
    unfolding map_all ◌>>=◌
    map_all-refused n e = rw (left_at l i d more, e, map_all)

    pub map_all-next : (b : B) → f (get_or l i d) ≡ Ok b →
        (map_all f (drop i l) >>= λ bs. Ok (k ++ bs)) ≡ (map_all f (drop (i + 1) l) >>= λ bs. Ok ((k ++ b ∷ []) ++ bs))
    unfolding map_all ◌>>=◌
    map_all-next b e = rw (left_at l i d more, e, map_all) (by (map_all f (drop (i + 1) l)))
      where
        by : (r : Refusable (List B)) → ((r >>= λ bs. Ok (b ∷ bs)) >>= λ bs. Ok (k ++ bs)) ≡ (r >>= λ bs. Ok ((k ++ b ∷ []) ++ bs))
        by (Err n) = refl
        by (Ok bs) = ap Ok (sym (append_assoc k (b ∷ []) bs))

-- ---- from an outcome back to its parts

-- a bind that gives a value had one
pub record Bound {A B : Type 0} (r : Refusable A) (h : A → Refusable B) (b : B) : Type 0 where
  pub value : A
  pub had : r ≡ Ok value
  pub then : h value ≡ Ok b

pub bound : {A B : Type 0} (r : Refusable A) (h : A → Refusable B) (b : B) → (r >>= h) ≡ Ok b → Bound r h b
unfolding ◌>>=◌
bound (Err n) h b e = absurd (let z : ◌≡◌ {A = ℕ} 0 1 = cc in omega arith)
bound (Ok a) h b e = record { value = a; had = refl; then = e }

-- equal pairs in equal answers
pub ok-pair : {A B : Type 0} {a c : A} {b d : B} → ◌≡◌ {A = Refusable (A × B)} (Ok (a, b)) (Ok (c, d)) → (a ≡ c) × (b ≡ d)
ok-pair {A} {B} {a} {c} {b} {d} e = let p : ◌≡◌ {A = A × B} (a, b) (c, d) = cc in (ap (λ (t : A × B). t.0) p, ap (λ (t : A × B). t.1) p)

-- a refusal that was not due
pub not-due : (n : Refusal) (t : Bool) (u : Unit {0}) → refuse n t ≡ Ok u → t ≡ false
unfolding refuse
not-due n true u e = absurd (let z : ◌≡◌ {A = ℕ} 0 1 = cc in omega arith)
not-due n false u e = refl

-- as many values as elements
pub length-map_all : {A B : Type 0} (f : A → Refusable B) (l : List A) (k : List B) → map_all f l ≡ Ok k → length k ≡ length l
unfolding map_all
length-map_all f [] k e = let w : [] ≡ k = cc in rw (← w)
length-map_all f (a ∷ l) k e =
    let b1 = bound _ _ _ e in
    let b2 = bound _ _ _ b1.then in
    let w : b1.value ∷ b2.value ≡ k = cc b2.then in
    rw (← w) (ap suc (length-map_all f l b2.value b2.had))

-- a property that each step keeps, counting the steps
pub steps-keep : {A B : Type 0} (P : ℕ → B → Type 0) (f : B → A → Refusable B) → ((k : ℕ) (s : B) (a : A) (t : B) → P k s → f s a ≡ Ok t → P (suc k) t) →
    (k : ℕ) (s : B) (l : List A) (t : B) → P k s → steps f s l ≡ Ok t → P (k + length l) t
unfolding steps
steps-keep P f keep k s [] t h e = let w : s ≡ t = cc in let z : k + 0 ≡ k = omega arith in rw (z, ← w) h
steps-keep P f keep k s (a ∷ l) t h e =
    let b = bound _ _ _ e in
    let z : k + suc (length l) ≡ suc k + length l = omega arith in
    rw z (steps-keep P f keep (suc k) b.value l t (keep k s a b.value h b.had) b.then)

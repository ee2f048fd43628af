-- One turn and the end of a loop over a list: what is left at i begins with a; and a test along the places of a list. Assumes nothing.
use Prim.Native.Nat.{ℕ, zero, suc, ◌+◌, ◌≤◌, ◌<◌}
use native.Mathlib.Omega.{arith}
use mathlib.Core.Path.{◌≡◌, refl, ap, sym, ◌∙◌}
use mathlib.Core.Bool.{Bool, true, false, ◌&&◌, ◌||◌}
use mathlib.Core.List.{List, [], ◌∷◌}
use lib.ListN.{length, drop}
use Rattle.std.specs.List.{list_any, list_all, range_with_len}
use Rattle.arith.specs.Lists.{fold, any_of, all_of, Side, sides_with, windows}
use Rattle.arith.proofs.RecordLaws.{drop-end}

-- what is left at i begins with a
pub record Here {A : Type 0} (l : List A) (i : ℕ) (a : A) : Type 0 where
  pub left : drop i l ≡ a ∷ drop (i + 1) l

-- nothing is left at i
pub record Past {A : Type 0} (l : List A) (i : ℕ) : Type 0 where
  pub end : length l ≤ i

module _ {A : Type 0} {l : List A} {i : ℕ} {a : A} (h : Here l i a) where
  pub fold-turn : {B : Type 0} (f : B → A → B) (s : B) {s' w : B} → fold f s (drop i l) ≡ w → s' ≡ f s a → fold f s' (drop (i + 1) l) ≡ w
  unfolding fold
  fold-turn f s inv e = ap (λ t. fold f t (drop (i + 1) l)) e ∙ sym (ap (fold f s) h.left) ∙ inv

module _ {A : Type 0} {l : List A} {i : ℕ} (h : Past l i) where
  pub fold_done : {B : Type 0} (f : B → A → B) (s : B) {w : B} → fold f s (drop i l) ≡ w → s ≡ w
  unfolding fold
  fold_done f s inv = rw (drop-end l i h.end) at inv

-- ---- a test of each place in turn, of the elements f i

module _ {A : Type 0} (p : A → Bool) (f : ℕ → A) (l : List A) (n : ℕ) (all : length l ≡ n) (here : (i : ℕ) → i < n → Here l i (f i)) where
  any-from : (k i : ℕ) → i + k ≡ n → list_any (λ j. p (f j)) (range_with_len i k) ≡ any_of p (drop i l)
  unfolding any_of
  any-from zero i e = rw (drop-end l i (omega arith))
  any-from (suc k) i e = rw ((here i (omega arith)).left, any_of) (by (p (f i)) (any-from k (i + 1) (omega arith)))
    where
      by : (t : Bool) {u w : Bool} → u ≡ w → (t || u) ≡ elim t [ true ↦ true | false ↦ w ]
      by true e = refl
      by false e = e

  all-from : (k i : ℕ) → i + k ≡ n → list_all (λ j. p (f j)) (range_with_len i k) ≡ all_of p (drop i l)
  unfolding all_of
  all-from zero i e = rw (drop-end l i (omega arith))
  all-from (suc k) i e = rw ((here i (omega arith)).left, all_of) (by (p (f i)) (all-from k (i + 1) (omega arith)))
    where
      by : (t : Bool) {u w : Bool} → u ≡ w → (t && u) ≡ elim t [ true ↦ w | false ↦ false ]
      by true e = e
      by false e = refl

  pub any-places : list_any (λ j. p (f j)) (range_with_len 0 n) ≡ any_of p l
  any-places = any-from n 0 (omega arith)

  pub all-places : list_all (λ j. p (f j)) (range_with_len 0 n) ≡ all_of p l
  all-places = all-from n 0 (omega arith)

-- ---- each element with the next one

module _ {A B : Type 0} (f : B → Side A → B) (l : List A) (i : ℕ) where
  pub window-turn : (a b : A) → drop i l ≡ a ∷ drop (i + 1) l → drop (i + 1) l ≡ b ∷ drop (i + 1 + 1) l →
      (s : B) {s' w : B} → fold f s (windows (drop i l)) ≡ w → s' ≡ f s (record { from = a; to = b }) → fold f s' (windows (drop (i + 1) l)) ≡ w
  unfolding fold windows sides_with
  window-turn a b here next s inv e =
      ap (λ t. fold f t (windows (drop (i + 1) l))) e
      ∙ ap (λ t. fold f (f s (record { from = a; to = b })) (windows t)) next
      ∙ ap (λ t. fold f s (windows (a ∷ t))) (sym next)
      ∙ ap (λ t. fold f s (windows t)) (sym here)
      ∙ inv

  -- at the last one
  pub window-done : (s : B) {w : B} → length l ≤ i + 1 → fold f s (windows (drop i l)) ≡ w → s ≡ w
  unfolding fold windows sides_with
  window-done s {w} past inv = by (drop i l) (short l i past) inv
    where
      short : (l : List A) (i : ℕ) → length l ≤ i + 1 → length (drop i l) ≤ 1
      short l i h = rw (lib.ListN.length-drop) (omega native.Mathlib.Omega.arith)

      by : (k : List A) → length k ≤ 1 → fold f s (windows k) ≡ w → s ≡ w
      by [] h e = e
      by (a ∷ []) h e = e
      by (a ∷ b ∷ k) h e = absurd (omega native.Mathlib.Omega.arith)

-- at the end the counter is the count
pub at-end : (P : ℕ → Type 0) {i n : ℕ} → i ≤ n → n ≤ i → P i → P n
at-end P l g h = mathlib.Core.Path.subst P (native.Mathlib.Nat.le_antisymm l g) h

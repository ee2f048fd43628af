-- Laws for the proofs of the exported sort: a slice filled in a loop, the order from the measured slices, and the tests of the lengths.
-- Assumes nothing.
use Prim.Native.Nat.{ℕ, ◌+◌, ◌≤◌, ◌<◌}
use native.Mathlib.Nat.{le_antisymm}
use native.Mathlib.Numerals.{add-one}
use native.Mathlib.Omega.{arith}
use mathlib.Core.Path.{◌≡◌, sym, ap, ◌∙◌}
use mathlib.Core.Bool.{true, false}
use mathlib.Core.List.{List, [], ◌∷◌, ◌++◌}
use lib.Ieee.{Float}
use lib.ListN.{length, take, set}
use lib.Seq.{take-suc-set, take_all}
use borrow.Author.Tests.{le-leb, lt-leb, eq-eqb, ne_eqb}
use Rattle.arith.specs.Records.{tab}
use Rattle.arith_angles.specs.Sort.{sorted_places}
use Rattle.arith.proofs.RecordLaws.{tab-next, length-tab}
use Rattle.test_arith_exports.specs.Directions.{quarters, slopes, ordered, fitting}

-- ---- a slice filled with f 0, f 1, ..: one turn, and the end

module _ {A : Type 0} (f : ℕ → A) where
  pub fill-turn : (l : List A) (i : ℕ) (v : A) → i < length l → take i l ≡ tab f i → v ≡ f i → take (i + 1) (set l i v) ≡ tab f (i + 1)
  fill-turn l i v h e w =
      ap (λ (k : ℕ). take k (set l i v)) (add-one i)
      ∙ take-suc-set l i v h
      ∙ ap (λ (k : List A). k ++ v ∷ []) e
      ∙ ap (λ (a : A). tab f i ++ a ∷ []) w
      ∙ sym (tab-next f i)

  pub fill_done : (l : List A) (i n : ℕ) → take i l ≡ tab f i → i ≤ n → n ≤ i → length l ≡ n → l ≡ tab f n
  fill_done l i n e below above long =
      sym (take_all i l (omega arith)) ∙ e ∙ ap (tab f) (le_antisymm below above)

-- ---- the measured slices, sorted

pub order-done : (dx dy : List Float) (q : List ℕ) (s : List Float) (places : List ℕ)
    → q ≡ quarters dx dy (length dx) → s ≡ slopes dx dy (length dx) → places ≡ sorted_places q s (length q) → places ≡ ordered dx dy
unfolding ordered quarters
order-done dx dy q s places eq es e =
    e ∙ rw (eq, es, length-tab)

-- ---- the tests of the lengths

module _ (dx dy : List Float) (places : List ℕ) where
  pub too_long : 192 < length dx → false ≡ fitting dx dy places
  unfolding fitting
  too_long h = rw (lt-leb _ _ h)

  pub other-second : length dx ≤ 192 → (length dy ≡ length dx → ⊥) → false ≡ fitting dx dy places
  unfolding fitting
  other-second a h = rw (le-leb _ _ a, ne_eqb _ _ h)

  pub other-places : length dx ≤ 192 → length dy ≡ length dx → (length places ≡ length dx → ⊥) → false ≡ fitting dx dy places
  unfolding fitting
  other-places a b h = rw (le-leb _ _ a, eq-eqb _ _ b, ne_eqb _ _ h)

  pub fits : length dx ≤ 192 → length dy ≡ length dx → length places ≡ length dx → true ≡ fitting dx dy places
  unfolding fitting
  fits a b h = rw (le-leb _ _ a, eq-eqb _ _ b, eq-eqb _ _ h)

-- What rounds reach, and what the lists of a mesh in the area connect. Assumes nothing.
use mathlib.Core.Path.{◌≡◌, refl, sym, ap, ◌∙◌}
use mathlib.Core.Bool.{Bool, true, false, ◌&&◌, ◌||◌}
use mathlib.Core.List.{List, [], ◌∷◌}
use mathlib.Core.Logic.{◌⊎◌, inl, inr}
use Prim.Native.Nat.{ℕ, zero, suc, ◌+◌, ◌-◌, ◌<◌, ◌≤◌}
use native.Mathlib.Nat.{not-suc-le-zero}
use native.Mathlib.Omega.{arith}
use borrow.Author.Tests.{eqb-true}
use lib.Dec.{eqb}
use lib.ListN.{length, get_or}
use Rattle.arith.specs.Lists.{any_of}
use Rattle.arith.proofs.RecordLaws.{get_or-tab, tab-same}
use Rattle.mesh_connection.specs.Connection.{some_below, every_below, one_round, rounds, connected_by}
use Rattle.mesh_connection.proofs.Counting.{some_in, some_out, some_same, every-same, true-or, true-and, or_left, or_right, same_test, clash}

module _ (touch : ℕ → ℕ → Bool) (n : ℕ) where
  abbrev pub reached : ℕ → ℕ → Bool
  reached k j = get_or (rounds touch n k) j false

  pub reached-start : 0 < n → reached 0 0 ≡ true
  unfolding rounds
  reached-start h = get_or-tab (λ j. eqb j 0) n 0 false h

  pub reached-suc : (k j : ℕ) → j < n → reached (suc k) j ≡ reached k j || some_below (λ i. reached k i && touch i j) n
  unfolding rounds one_round
  reached-suc k j h = get_or-tab (λ m. reached k m || some_below (λ i. reached k i && touch i m) n) n j false h

  pub reached-step : (k i j : ℕ) → i < n → j < n → reached k i ≡ true → touch i j ≡ true → reached (suc k) j ≡ true
  reached-step k i j hi hj r e = reached-suc k j hj ∙ or_right (reached k j) _ (some_in _ n i hi (rw (r, e)))

  reached-more : (k d j : ℕ) → j < n → reached k j ≡ true → reached (d + k) j ≡ true
  reached-more k zero j h r = let e : 0 + k ≡ k = omega arith in rw e r
  reached-more k (suc d) j h r =
      let e : suc d + k ≡ suc (d + k) = omega arith in
      rw e (reached-suc (d + k) j h ∙ or_left (reached (d + k) j) _ (reached-more k d j h r))

  pub reached-le : (k m j : ℕ) → k ≤ m → j < n → reached k j ≡ true → reached m j ≡ true
  reached-le k m j le h r = let e : m - k + k ≡ m = omega arith in rw e at (reached-more k (m - k) j h r)

  -- rounds stay within what holds cell 0 and is closed
  module _ (v : ℕ → Bool) (begun : v 0 ≡ true) (closed : (i j : ℕ) → i < n → j < n → v i ≡ true → touch i j ≡ true → v j ≡ true) where
    pub reached-only : (k j : ℕ) → j < n → reached k j ≡ true → v j ≡ true
    unfolding rounds
    reached-only zero j h r =
        let e : j ≡ 0 = eqb-true j 0 (sym (get_or-tab (λ i. eqb i 0) n j false h) ∙ r) in rw e begun
    reached-only (suc k) j h r = by (true-or _ _ (sym (reached-suc k j h) ∙ r)) (reached-only k)
      where
        by : (reached k j ≡ true) ⊎ (some_below (λ i. reached k i && touch i j) n ≡ true) → ((j : ℕ) → j < n → reached k j ≡ true → v j ≡ true) → v j ≡ true
        by (inl q) f = f j h q
        by (inr q) f =
            let s = some_out _ n q in
            let t = true-and _ _ s.here in
            closed s.at j s.low h (f s.at s.low t.0) t.1

    -- and where all that holds is reached, all are reached exactly where it holds of all
    pub all-reached : ((j : ℕ) → j < n → v j ≡ true → reached n j ≡ true) → every_below v n ≡ connected_by touch n
    unfolding connected_by
    all-reached near = every-same v _ n (λ j h. same_test (v j) _ (near j h) (reached-only n j h))

-- two relations that are the same among n cells connect the same
module _ (touch touch' : ℕ → ℕ → Bool) (n : ℕ) (same : (i j : ℕ) → i < n → j < n → touch i j ≡ touch' i j) where
  pub rounds-same : (k : ℕ) → rounds touch n k ≡ rounds touch' n k
  unfolding rounds one_round
  rounds-same zero = refl
  rounds-same (suc k) =
      rw (rounds-same k)
      (tab-same _ _ n
      (λ j hj.
      ap (λ (b : Bool). reached touch' n k j || b)
      (some_same _ _ n (λ i hi. ap (λ (b : Bool). reached touch' n k i && b) (same i j hi hj)))))

  pub connected-same : connected_by touch n ≡ connected_by touch' n
  unfolding connected_by
  connected-same = rw (rounds-same n)

-- one cell is connected
pub connected-few : (touch : ℕ → ℕ → Bool) (n : ℕ) → n ≤ 1 → connected_by touch n ≡ true
unfolding connected_by every_below
connected-few touch zero h = refl
connected-few touch (suc zero) h = rw (reached-le touch 1 0 1 0 (omega arith) (omega arith) (reached-start touch 1 (omega arith)))
connected-few touch (suc (suc n)) h = absurd (omega arith)

-- ---- an element of a list that passes

module _ {A : Type 0} (p : A → Bool) (d : A) where
  pub any_at : (l : List A) (k : ℕ) → k < length l → p (get_or l k d) ≡ true → any_of p l ≡ true
  unfolding any_of
  any_at [] k h e = absurd (not-suc-le-zero h)
  any_at (a ∷ l) zero h e = rw (e, any_of)
  any_at (a ∷ l) (suc k) h e = by (p a) (any_at l k (omega arith) e)
    where
      by : (t : Bool) → any_of p l ≡ true → elim t [ true ↦ true | false ↦ any_of p l ] ≡ true
      by true r = refl
      by false r = r

  pub record Passing (l : List A) : Type 0 where
    pub at : ℕ
    pub low : at < length l
    pub here : p (get_or l at d) ≡ true

  pub any_some : (l : List A) → any_of p l ≡ true → Passing l
  unfolding any_of
  any_some [] e = absurd (clash e)
  any_some (a ∷ l) e = by (p a) refl e (any_some l)
    where
      by : (t : Bool) → p a ≡ t → elim t [ true ↦ true | false ↦ any_of p l ] ≡ true → (any_of p l ≡ true → Passing l) → Passing (a ∷ l)
      by true q e r = record { at = 0; low = omega arith; here = q }
      by false q e r = let s = r e in record { at = suc s.at; low = (let h = s.low in omega arith); here = s.here }

-- As many rounds as cells reach whatever can be reached: n cells are connected exactly where each is reachable from cell 0. Assumes nothing.
use mathlib.Core.Path.{◌≡◌, sym, ◌∙◌}
use mathlib.Core.Bool.{Bool, true, false, ◌&&◌}
use mathlib.Core.Logic.{◌⊎◌, inl, inr}
use Prim.Native.Nat.{ℕ, zero, suc, ◌<◌, ◌≤◌}
use native.Mathlib.Omega.{arith}
use borrow.Author.Tests.{eqb-true}
use lib.Dec.{eqb}
use Rattle.arith.proofs.RecordLaws.{get_or-tab}
use Rattle.mesh_connection.specs.Connection.{some_below, rounds, connected_by}
use Rattle.mesh_connection.proofs.Reachable.{Reachable, begin, step}
use Rattle.mesh_connection.specs.Ensures.{count_below}
use Rattle.mesh_connection.proofs.Counting.{some_same, some_out, every_in, every-out, true-or, true-and, count-le, count-grows, full}
use Rattle.mesh_connection.proofs.Rounds.{reached, reached-start, reached-suc, reached-step, reached-le}

module _ (touch : ℕ → ℕ → Bool) (n : ℕ) where
  -- what is reached is reachable
  sound : (k j : ℕ) → j < n → reached touch n k j ≡ true → Reachable touch n j
  unfolding rounds
  sound zero j h r = let e : j ≡ 0 = eqb-true j 0 (sym (get_or-tab (λ i. eqb i 0) n j false h) ∙ r) in rw e begin
  sound (suc k) j h r = by (true-or _ _ (sym (reached-suc touch n k j h) ∙ r)) (sound k)
    where
      by : (reached touch n k j ≡ true) ⊎ (some_below (λ i. reached touch n k i && touch i j) n ≡ true) → ((j : ℕ) → j < n → reached touch n k j ≡ true → Reachable touch n j)
          → Reachable touch n j
      by (inl q) f = f j h q
      by (inr q) f =
          let s = some_out _ n q in
          let t = true-and _ _ s.here in
          step s.low h (f s.at s.low t.0) t.1

  -- a round that reaches no new cell is the last to reach one
  abbrev Stable : ℕ → Type 0
  Stable k = (j : ℕ) → j < n → reached touch n (suc k) j ≡ reached touch n k j

  stable-next : (k : ℕ) → Stable k → Stable (suc k)
  stable-next k st j h =
      reached-suc touch n (suc k) j h
      ∙ rw (st j h, some_same (λ i. reached touch n (suc k) i && touch i j) (λ i. reached touch n k i && touch i j) n (λ i l. rw (st i l)))
      (sym (reached-suc touch n k j h) ∙ st j h)

  -- each round before that reaches one more
  grown : (k : ℕ) → Stable k ⊎ (k ≤ count_below (reached touch n k) n)
  grown zero = inr (omega arith)
  grown (suc k) = by (grown k) (count-grows (reached touch n k) (reached touch n (suc k)) n (λ j h r. reached-le touch n k (suc k) j (omega arith) h r))
    where
      by : Stable k ⊎ (k ≤ count_below (reached touch n k) n) → Stable k ⊎ (count_below (reached touch n k) n < count_below (reached touch n (suc k)) n)
          → Stable (suc k) ⊎ (suc k ≤ count_below (reached touch n (suc k)) n)
      by (inl st) r = inl (stable-next k st)
      by (inr l) (inl st) = inl (stable-next k st)
      by (inr l) (inr g) = inr (omega arith)

  -- what is reachable is reached in n rounds
  whole : Stable n ⊎ (n ≤ count_below (reached touch n n) n) → (j : ℕ) → j < n → Reachable touch n j → reached touch n n j ≡ true
  whole g j h begin = reached-le touch n 0 n 0 (omega arith) h (reached-start touch n h)
  whole (inl st) j h (step hi hj r e) = sym (st j hj) ∙ reached-step touch n n _ j hi hj (whole (inl st) _ hi r) e
  whole (inr l) j h (step hi hj r e) = every-out (reached touch n n) n j (full (reached touch n n) n (let c = count-le (reached touch n n) n in omega arith)) h

  pub connected-reachable : connected_by touch n ≡ true → (j : ℕ) → j < n → Reachable touch n j
  unfolding connected_by
  connected-reachable e j h = sound n j h (every-out (reached touch n n) n j e h)

  pub reachable-connected : ((j : ℕ) → j < n → Reachable touch n j) → connected_by touch n ≡ true
  unfolding connected_by
  reachable-connected r = every_in (reached touch n n) n (λ j h. whole (grown n) j h (r j h))

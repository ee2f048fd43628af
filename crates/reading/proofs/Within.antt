-- A tree that reads only cells below n. Assumes nothing.
use Prim.Native.Nat.{ℕ, ◌<◌}
use mathlib.Core.List.{Memᴰ}
use Rattle.reading.specs.declared.Values.{Values}
use Rattle.reading.specs.Asks.{Asks, give, ask, reads, ◌>>=◌}

pub data Within {A : Type 0} (n : ℕ) : Asks A → Type 0 where
  given : {a : A} → Within n (give a)
  asked : {i : ℕ} {k : Values → Asks A} → i < n → ((v : Values) → Within n (k v)) → Within n (ask i k)

pub within-reads : {A : Type 0} {n : ℕ} {t : Asks A} (f : ℕ → Values) → Within n t → (i : ℕ) → Memᴰ i (reads t f) → i < n
within-reads f given i x = elim x [ ]
within-reads f (asked h w) i (Memᴰ.head e) = rw e h
within-reads f (asked {i = j} h w) i (Memᴰ.tail m) = within-reads f (w (f j)) i m

pub within-bind : {A B : Type 0} {n : ℕ} {t : Asks A} {h : A → Asks B} → Within n t → ((a : A) → Within n (h a)) → Within n (t >>= h)
unfolding ◌>>=◌
within-bind {h} (given {a}) g = g a
within-bind (asked w k) g = asked w (λ v. within-bind (k v) g)

-- "Reading follows from the case bytes and the requests, never from the marks": what a request does, before any field is known, is a tree.
use Rattle.std.specs.Prelude.{ℕ, List, [], ◌∷◌}
use Rattle.reading.specs.declared.Values.{Values}

-- it answers, or it reads the velocity and pressure of one cell and goes on by them
pub data Asks (A : Type 0) : Type 0 where
  give : A → Asks A
  ask : ℕ → (Values → Asks A) → Asks A

module _ {A : Type 0} where
  -- what the tree answers over the field f
  abbrev pub run : Asks A → (ℕ → Values) → A
  run (give a) f = a
  run (ask i k) f = run (k (f i)) f

  -- the cells that it reads, in order: "An accepted job reads the cells that its requests read, taken together."
  abbrev pub reads : Asks A → (ℕ → Values) → List ℕ
  reads (give a) f = []
  reads (ask i k) f = i ∷ reads (k (f i)) f

-- one tree after another
infixl 20 ◌>>=◌
unfoldable pub ◌>>=◌ : {A B : Type 0} → Asks A → (A → Asks B) → Asks B
◌>>=◌ (give a) h = h a
◌>>=◌ (ask i k) h = ask i (λ v. k v >>= h)

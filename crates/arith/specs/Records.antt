-- Lists as the contracts of a lent area speak of them.
-- `tab`: a list by what stands at each place. `part`, `chunk`: the elements from a place on, and a record. `patch`: a list with a part replaced.
-- `puts_from`, `puts`: a list with values stored in a row. `up_to`: the numbers below n.
use Rattle.std.specs.Prelude.{ℕ, zero, suc, ◌+◌, ◌*◌, List, [], ◌∷◌, ◌++◌, take, drop, slice_set}

module _ {A : Type 0} where
  -- f at 0, 1, .. n - 1: what an area holds, read back record by record
  unfoldable pub tab : (ℕ → A) → ℕ → List A
  tab f zero = []
  tab f (suc n) = tab f n ++ f n ∷ []

  -- the n elements from an index on: what `&s[a..a + n]` lends
  abbrev pub part : List A → ℕ → ℕ → List A
  part l at n = take n (drop at l)

  -- record i of s elements
  abbrev pub chunk : List A → ℕ → ℕ → List A
  chunk l s i = take s (drop (s * i) l)

  -- a part replaced: what a part that was lent as `&mut` leaves when it is back
  abbrev pub patch : ℕ → ℕ → List A → List A → List A
  patch at n l m = take at l ++ (m ++ drop n (drop at l))

  -- the values of a list stored at at + k, at + k + 1, ..
  abbrev pub puts_from : List A → ℕ → ℕ → List A → List A
  puts_from l at k [] = l
  puts_from l at k (v ∷ vs) = puts_from (slice_set l (at + k) v) at (suc k) vs

  -- the values of a list stored at at, at + 1, ..: what stores in a row leave
  abbrev pub puts : List A → ℕ → List A → List A
  puts l at [] = l
  puts l at (v ∷ vs) = puts_from (slice_set l at v) at 1 vs

-- 0, 1, .. n - 1
unfoldable pub up_to : ℕ → List ℕ
up_to n = tab (λ i. i) n

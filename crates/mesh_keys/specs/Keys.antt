-- A face's key is the sorted list of its point numbers, repeats kept: `sorted` and `same` of arith. Here: what no order changes.
use Rattle.std.specs.Prelude.{List, [], ◌∷◌, ℕ, ◌+◌}

-- the sum of the numbers, which gives the bucket of a face
unfoldable pub total : List ℕ → ℕ
total [] = 0
total (x ∷ xs) = x + total xs

-- "Numbers in files are little-endian": numbers as bytes, and bytes stored among others.
-- `le_bytes`, `all_bytes`: a number and a list of them. `stored`: what stores in a row leave.
use Rattle.std.specs.Prelude.{ℕ, zero, suc, ◌+◌, ◌/◌, ◌%◌, List, [], ◌∷◌, ◌++◌, length, take, drop}

-- the low k bytes of a number, the lowest first
unfoldable pub le_bytes : ℕ → ℕ → List ℕ
le_bytes zero w = []
le_bytes (suc k) w = w % 256 ∷ le_bytes k (w / 256)

-- those of each number of a list, one number after the other
unfoldable pub all_bytes : ℕ → List ℕ → List ℕ
all_bytes k [] = []
all_bytes k (w ∷ ws) = le_bytes k w ++ all_bytes k ws

-- bytes in the place of those that stood from `at` on; all others as they were
unfoldable pub stored : ℕ → List ℕ → List ℕ → List ℕ
stored at bytes out = take at out ++ (bytes ++ drop (at + length bytes) out)
